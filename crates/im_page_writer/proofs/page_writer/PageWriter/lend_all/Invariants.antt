use Rattle.std.proofs.Common.{◌≡◌}
use Rattle.im_page_rounds.specs.declared.round_page.RoundPage.{RoundPage}
use Rattle.im_page_rounds.specs.declared.worker.Worker.{Worker}
use Rattle.im_page_rounds.specs.Workers.{SameRoom, page_in}
use Rattle.im_page_writer.specs.Rounds.{LendsAll}
use Rattle.im_page_writer.proofs.page_writer.PageWriter.lend_all.Given as goal

abbrev pub invariant-loop-i : goal.invariant-loop-i
invariant-loop-i l = record {
  lends : (w : Worker) (d : RoundPage) → LendsAll l.numbers l.i (λ k. page_in l.workers k w d) l.fn.self.pool l.self.pool;
  room : SameRoom l.fn.workers l.workers;
  frames : l.self.pool.frames ≡ l.fn.self.pool.frames;
  log : l.self.log ≡ l.fn.self.log;
  table : l.self.table ≡ l.fn.self.table;
  known : l.self.known ≡ l.fn.self.known;
  failed : l.self.failed ≡ l.fn.self.failed;
}
