use Rattle.std.proofs.Common.{◌≡◌, ◌≤◌, ◌+◌, ℕ, length}
use Rattle.std.specs.Prelude.{is_some}
use Rattle.std.specs.BTreeMap.{get}
use Rattle.std.specs.Ordering.{nat_cmp}
use Rattle.im_page_rounds.specs.declared.round_page.RoundPage.{RoundPage}
use Rattle.im_page_rounds.specs.declared.worker.Worker.{Worker}
use Rattle.im_page_rounds.specs.Workers.{SameRoom, page_in}
use Rattle.im_page_writer.specs.Rounds.{TakesBack}
use Rattle.im_page_writer.proofs.page_writer.PageWriter.take_all_back.Given as goal

abbrev pub invariant-loop-i : goal.invariant-loop-i
invariant-loop-i l = record {
  takes : (w : Worker) (d : RoundPage) → TakesBack l.numbers l.i l.point (λ q. is_some (get nat_cmp l.copies q)) (λ k. page_in l.fn.workers k w d) l.fn.self.pool l.self.pool l.fn.self.table l.self.table;
  left : (k : ℕ) (w : Worker) (d : RoundPage) → l.i ≤ k → page_in l.workers k w d ≡ page_in l.fn.workers k w d;
  most : length l.self.table.entries ≤ length l.fn.self.table.entries + l.i;
  room : SameRoom l.fn.workers l.workers;
  frames : l.self.pool.frames ≡ l.fn.self.pool.frames;
  log : l.self.log ≡ l.fn.self.log;
  known : l.self.known ≡ l.fn.self.known;
  failed : l.self.failed ≡ l.fn.self.failed;
}
