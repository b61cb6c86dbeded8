use Rattle.std.proofs.Common.{◌≡◌, ◌≤◌, ◌+◌, ◌-◌, ℕ, true, false}
use Rattle.im_base_types.specs.declared.file_id.FileId.TheVariants.{Pages}
use Rattle.im_theory_log.specs.Histories.{Base}
use Rattle.im_theory_log.specs.Writer.{Writer}
use Rattle.im_base_disk.specs.Runs.{ChangesOnly, Costs}
use Rattle.im_log.specs.declared.log_file.LogFile.{LogFile}
use Rattle.im_theory_page.specs.PageFile.{page_count}
use Rattle.im_page_table.specs.DirtyTable.{has_room, written_in}
use Rattle.im_page_flush.specs.Writing.{lsn_for, IsWriting, MayWriteHere, SameHeld, WritesTo}
use Rattle.im_page_flush.proofs.page_range.write_pages.Given as goal

abbrev pub invariant-loop-number : goal.invariant-loop-number
invariant-loop-number g l = record {
  low : l.fn.first ≤ l.number;
  working : g.D.Disk.failed l.disk ≡ false;
  place : g.D.Disk.tells → l.number ≤ page_count (g.D.Disk.seen l.disk Pages);
  changes : ChangesOnly g.D.Disk Pages l.fn.disk l.disk;
  costs : Costs g.D.Disk (l.number - l.fn.first) 0 l.fn.disk l.disk;
  held : SameHeld l.fn.pool l.pool;
  most : l.table.most ≡ l.fn.table.most;
  start : l.number ≡ l.fn.first → (l.table ≡ l.fn.table) × (l.entered ≡ true);
  one : l.number ≡ l.fn.first + 1 → (l.table ≡ written_in l.fn.first (lsn_for l.fn.lsns 0) l.fn.table) × (l.entered ≡ has_room l.fn.first l.fn.table);
  kept : (b : Base) (base : ℕ) (s : Writer) (log : LogFile) → IsWriting g.D.Disk b base s log l.fn.table l.fn.pool l.fn.disk → s.durable ≡ s.log
      → ((q : ℕ) → l.fn.first ≤ q → q ≤ l.fn.last → MayWriteHere b s l.fn.table l.fn.pool q (lsn_for l.fn.lsns (q - l.fn.first)))
      → WritesTo g.D.Disk b base s l.fn.first l.number l.fn.last l.fn.lsns l.fn.disk log l.table l.pool l.disk l.entered;
}
