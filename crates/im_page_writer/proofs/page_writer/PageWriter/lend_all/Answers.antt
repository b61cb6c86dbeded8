use Rattle.std.proofs.Common.{◌≡◌, ◌∙◌, ℕ, length, arith, refl, rules, subst}
use Rattle.im_page_rounds.specs.declared.worker.Worker.{Worker}
use Rattle.im_page_rounds.specs.Workers.{page_in}
use Rattle.im_page_rounds.proofs.Places.{item_at, page_of, room_still, room_then}
use Rattle.im_page_writer.specs.Rounds.{LendsAll}
use Rattle.im_page_writer.proofs.Loans.{lends_more, lends_next, lends_none}
use Rattle.im_page_writer.proofs.page_writer.PageWriter.lend_all.Goals as goal

pub loop-i-init : goal.loop-i-init
loop-i-init c = record {
  lends = λ w d. lends_none c.args.numbers.now (λ k. page_in c.args.workers.now k w d) c.args.self.now.pool;
  room = room_still c.args.workers.now;
  frames = refl;
  log = refl;
  table = refl;
  known = refl;
  failed = refl;
}

pub lend_to-requires-clause-held : goal.lend_to-requires-clause-held
lend_to-requires-clause-held c =
    let l = c.loop-i in
    let w : Worker = item_at c.args.workers.now 0 c.requires.some in
    lends_next c.args.numbers.now l.i (λ k. page_in l.workers k w (page_of w)) c.args.self.now.pool l.self.pool c.requires.rising c.loop-i-test.true c.requires.held (l.invariant.lends w (page_of w))

pub loop-i-preserved : goal.loop-i-preserved
loop-i-preserved c =
    let l = c.loop-i in
    let e = c.lend_to.ensures in
    record {
      lends = λ w d.
          lends_more c.args.numbers.now l.i (λ k. page_in l.workers k w d) (λ k. page_in c.lend_to.new.workers k w d) c.args.self.now.pool l.self.pool c.lend_to.new.self.pool c.requires.rising (search rules) (l.invariant.lends w d) (e.lent w d)
          (λ i ne. e.kept i w d ne) e.others e.frames;
      room = room_then c.args.workers.now l.workers c.lend_to.new.workers l.invariant.room e.room;
      frames = e.frames ∙ l.invariant.frames;
      log = e.log ∙ l.invariant.log;
      table = e.table ∙ l.invariant.table;
      known = e.known ∙ l.invariant.known;
      failed = e.failed ∙ l.invariant.failed;
    }

pub returns-clause-lends : goal.returns-clause-lends
returns-clause-lends c w d =
    let l = c.loop-i in
    let past : l.i ≡ length c.args.numbers.now = omega (arith, l.auto.i-end, c.loop-i-test.false) in
    subst (λ (n : ℕ). LendsAll c.args.numbers.now n (λ k. page_in l.workers k w d) c.args.self.now.pool l.self.pool) past (l.invariant.lends w d)
