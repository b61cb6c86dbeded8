use Rattle.std.proofs.Common.{refl, ◌∙◌, ap}
use Rattle.im_page_writer.proofs.Outcomes.{sound_on}
use Rattle.im_restart_redo.proofs.Recoveries.{recovers_then, unmoved}
use Rattle.im_theory_tree.specs.Theory.{page_tree}
use Rattle.im_restart.specs.LoserChains.{ChainMap}
use Rattle.im_restart.proofs.Bounds.{first_of_none, none_left}
use Rattle.im_restart.proofs.Losers.{waiting, waiting_first, waiting_longer, waiting_none, waiting_taken}
use Rattle.im_restart.proofs.Steps.{left_then, undo_start, undo_then}
use Rattle.im_restart.proofs.undo.enter_all.Goals as goal

pub loop-transaction-init : goal.loop-transaction-init
loop-transaction-init g c = record {
  none = λ is. (is, refl, refl, refl);
  outcome = unmoved g.D.Disk c.args.writer.now c.args.disk.now c.requires.working c.requires.ready;
  kept = λ b base all s stands is are. (
      let first = waiting_first c.args.losers.now c.args.chains.now s.log are c.requires.none in
      (s, undo_start g.D.Disk b base all s c.args.writer.now c.args.disk.now (g.met.D.Disk.only_now c.args.disk.now) stands is, first.0, first.1)
      );
}

pub loop-transaction-preserved : goal.loop-transaction-preserved
loop-transaction-preserved g c = record {
  none = λ is. absurd (first_of_none c.loop-transaction.losers.entries c.pop_first.new.self.entries (c.in-Some.transaction, c.in-Some.row) (c.loop-transaction.invariant.none is).0 c.in-Some.ensures.removal);
  outcome = recovers_then g.D.Disk c.loop-transaction.invariant.outcome c.in_ok-put_or_end.ensures.outcome;
  kept = λ b base all s stands is are. (
      let h = c.loop-transaction.invariant.kept b base all s stands is are in
      let t = waiting_taken b page_tree c.loop-transaction.losers c.pop_first.new.self c.loop-transaction.chains h.0.log c.in-Some.transaction c.in-Some.row h.1.undoing.can.lawful h.2 h.3 c.in-Some.ensures.value c.in-Some.ensures.updates.0 in
      let k = c.in_ok-put_or_end.ensures.kept b base all h.0 (waiting c.pop_first.new.self) h.1.stands h.1.undoing t.0 t.1 t.2 in (
        k.sound.now,
        undo_then g.D.Disk b base all s c.args.disk.now h.0 c.loop-transaction.writer c.loop-transaction.disk k.sound.now c.put_or_end.new.writer c.put_or_end.new.disk h.1 k.sound.goes,
        k.sound.are,
        waiting_longer c.in-Some.transaction c.pop_first.new.self h.0.log k.sound.now.log t.1 k.sound.others t.3,
      )
      );
}

pub returns-in_err-put_or_end-clause-kept : goal.returns-in_err-put_or_end-clause-kept
returns-in_err-put_or_end-clause-kept g c b base all s stands is are =
    let h = c.loop-transaction.invariant.kept b base all s stands is are in
    let t = waiting_taken b page_tree c.loop-transaction.losers c.pop_first.new.self c.loop-transaction.chains h.0.log c.in-Some.transaction c.in-Some.row h.1.undoing.can.lawful h.2 h.3 c.in-Some.ensures.value c.in-Some.ensures.updates.0 in
    let k = c.in_err-put_or_end.ensures.kept b base all h.0 (waiting c.pop_first.new.self) h.1.stands h.1.undoing t.0 t.1 t.2 in
    record { sound = sound_on c.from_residual.result _ _ c.from_residual.ensures.1 k.sound; stops = left_then g.D.Disk b base all c.args.disk.now c.loop-transaction.disk c.put_or_end.new.disk h.1.stops k.stops }

pub returns-clause-kept : goal.returns-clause-kept
returns-clause-kept g c b base all s stands is are =
    let h = c.loop-transaction.invariant.kept b base all s stands is are in
    let none = none_left c.loop-transaction.losers.entries (λ some. (let clash = c.in_default.ensures.variant.1 some in absurd (cc clash))) in
    record { sound = record { now = h.0; goes = h.1; are = waiting_none c.loop-transaction.losers c.loop-transaction.chains h.0.log none h.2 }; stops = h.1.stops }

pub returns-in_err-put_or_end-clause-none : goal.returns-in_err-put_or_end-clause-none
returns-in_err-put_or_end-clause-none g c is =
    absurd (first_of_none c.loop-transaction.losers.entries c.pop_first.new.self.entries (c.in-Some.transaction, c.in-Some.row) (c.loop-transaction.invariant.none is).0 c.in-Some.ensures.removal)

pub returns-clause-none : goal.returns-clause-none
returns-clause-none g c is = let h = c.loop-transaction.invariant.none is in (refl, h.1, ap (λ (m : ChainMap). m.entries) h.2 ∙ c.requires.none, h.3)
