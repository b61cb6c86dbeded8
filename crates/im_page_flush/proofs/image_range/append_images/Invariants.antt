use Rattle.std.proofs.Common.{◌≡◌, ◌≤◌, ◌-◌, ℕ, false, vec_capacity}
use Rattle.im_base_types.specs.declared.file_id.FileId.TheVariants.{Log}
use Rattle.im_theory_log.specs.Histories.{Base}
use Rattle.im_theory_log.specs.Writer.{Writer}
use Rattle.im_base_disk.specs.Runs.{ChangesOnly, Forces}
use Rattle.im_log.specs.LogFile.{IsOpen}
use Rattle.im_page_flush.specs.declared.image_range.TheConstants.{NOTED}
use Rattle.im_page_file.specs.LogEnds.{EndsNoSooner}
use Rattle.im_page_flush.specs.Writing.{IsWriting, ImagesTo, MayCopy}
use Rattle.im_page_flush.proofs.image_range.append_images.Given as goal

abbrev pub invariant-loop-number : goal.invariant-loop-number
invariant-loop-number g l = record {
  low : l.fn.first ≤ l.number;
  ready : IsOpen g.D.Disk l.log l.disk;
  working : l.log.failed ≡ false;
  alive : g.D.Disk.failed l.disk ≡ false;
  room : NOTED ≤ vec_capacity l.lsns;
  changes : ChangesOnly g.D.Disk Log l.fn.disk l.disk;
  forces : Forces g.D.Disk (l.number - l.fn.first) l.fn.disk l.disk;
  later : EndsNoSooner l.fn.log l.log;
  kept : (b : Base) (base : ℕ) (s : Writer) → IsWriting g.D.Disk b base s l.fn.log l.fn.table l.fn.pool l.fn.disk → ((q : ℕ) → l.fn.first ≤ q → q ≤ l.fn.last → MayCopy s l.fn.pool q)
      → ImagesTo g.D.Disk b base s l.fn.first l.number l.lsns.items l.fn.disk l.log l.fn.table l.fn.pool l.disk;
}
