use Rattle.std.proofs.Common.{◌≡◌, ◌≢◌, ◌<◌, ℕ, Bool, length, ◌∙◌, ap, arith, refl, subst, sym}
use Rattle.std.specs.Prelude.{is_some, slice_index_or}
use Rattle.std.specs.BTreeMap.{get}
use Rattle.std.specs.Ordering.{nat_cmp}
use Rattle.im_page_rounds.specs.declared.round_page.RoundPage.{RoundPage}
use Rattle.im_page_rounds.specs.declared.worker.Worker.{Worker}
use Rattle.im_page_rounds.specs.Workers.{page_in}
use Rattle.im_page_rounds.proofs.Places.{item_at, page_of, room_still, room_then}
use Rattle.im_page_table.specs.DirtyTable.{entry_in}
use Rattle.im_page_writer.specs.Rounds.{TakesBack, entry_after}
use Rattle.im_page_writer.proofs.Loans.{back_more, back_next, back_none}
use Rattle.im_page_writer.proofs.Sized.{sized_as}
use Rattle.im_page_writer.proofs.page_writer.PageWriter.take_all_back.Goals as goal

pub loop-i-init : goal.loop-i-init
loop-i-init c = record {
  takes = λ w d. back_none c.args.numbers.now c.args.point (λ (q : ℕ). is_some (get nat_cmp c.args.copies.now q)) (λ k. page_in c.args.workers.now k w d) c.args.self.now.pool c.args.self.now.table;
  left = λ k w d le. refl;
  most = omega arith;
  room = room_still c.args.workers.now;
  frames = refl;
  log = refl;
  known = refl;
  failed = refl;
}

pub take_from-requires-clause-held : goal.take_from-requires-clause-held
take_from-requires-clause-held c =
    let l = c.loop-i in
    let w : Worker = item_at c.args.workers.now 0 c.requires.some in
    back_next c.args.numbers.now l.i c.args.point (λ (q : ℕ). is_some (get nat_cmp c.args.copies.now q)) (λ k. page_in c.args.workers.now k w (page_of w)) c.args.self.now.pool l.self.pool c.args.self.now.table l.self.table c.requires.rising c.loop-i-test.true c.requires.held (l.invariant.takes w (page_of w))

pub take_from-requires-clause-entry : goal.take_from-requires-clause-entry
take_from-requires-clause-entry c =
    let size = sized_as c.args.self.now c.loop-i.self c.loop-i.invariant.frames in
    omega (arith, c.loop-i.invariant.most, c.requires.entries, c.loop-i-test.true, size)

pub loop-i-preserved : goal.loop-i-preserved
loop-i-preserved c =
    let l = c.loop-i in
    let e = c.take_from.ensures in
    let lt : l.i < length c.args.numbers.now = c.loop-i-test.true in
    record {
      takes = λ w d.
          let x : RoundPage = page_in l.workers l.i w d in
          back_more c.args.numbers.now l.i c.args.point (λ (q : ℕ). is_some (get nat_cmp c.args.copies.now q)) (λ k. page_in c.args.workers.now k w d) x c.args.self.now.pool l.self.pool c.take_from.new.self.pool c.args.self.now.table l.self.table c.take_from.new.self.table c.requires.rising
          lt (l.invariant.takes w d) (sym (l.invariant.left l.i w d (omega arith))) (λ was held. e.back was w d held) e.others
          (e.entry w d ∙ ap (λ (k : Bool). entry_after x.changed k c.args.point (entry_in l.self.table (slice_index_or c.args.numbers.now l.i 0))) c.is_noted-copied.ensures) e.other_entries e.frames;
      most = omega (arith, l.invariant.most, e.most);
      left = λ k w d le. e.kept k w d (let ne : k ≢ l.i = (λ same. absurd (omega (arith, same, le))) in ne) ∙ l.invariant.left k w d (omega (arith, le));
      room = room_then c.args.workers.now l.workers c.take_from.new.workers l.invariant.room e.room;
      frames = e.frames ∙ l.invariant.frames;
      log = e.log ∙ l.invariant.log;
      known = e.known ∙ l.invariant.known;
      failed = e.failed ∙ l.invariant.failed;
    }

pub returns-clause-takes : goal.returns-clause-takes
returns-clause-takes c w d =
    let l = c.loop-i in
    let past : l.i ≡ length c.args.numbers.now = omega (arith, l.auto.i-end, c.loop-i-test.false) in
    subst (λ (n : ℕ). TakesBack c.args.numbers.now n c.args.point (λ q. is_some (get nat_cmp c.args.copies.now q)) (λ k. page_in c.args.workers.now k w d) c.args.self.now.pool l.self.pool c.args.self.now.table l.self.table) past (l.invariant.takes w d)
