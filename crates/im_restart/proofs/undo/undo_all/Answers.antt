use Rattle.std.proofs.Common.{◌≡◌, rules, refl, arith}
use Rattle.std.proofs.lemmas.Grind.{common_steps}
use Rattle.im_base_types.specs.declared.fault.Fault.TheVariants.{Capacity}
use Rattle.im_page_writer.proofs.Cited.{err_on, sound_on}
use Rattle.im_restart_redo.proofs.Recoveries.{recovers_then, unmoved}
use Rattle.im_theory_tree.specs.Theory.{page_tree}
use Rattle.im_theory_tree.proofs.TheoryLaws.{page_tree_laws}
use Rattle.im_restart.specs.LoserChains.{nobody}
use Rattle.im_restart.specs.Restart.{RunsOut}
use Rattle.im_restart.proofs.Bounds.{falls, last_of_none, none_left}
use Rattle.im_restart.proofs.Latest.{latest_here}
use Rattle.im_restart.proofs.Losers.{chains_none, chains_taken}
use Rattle.im_restart.proofs.Steps.{left_then, undo_start, undo_then}
use Rattle.im_restart.proofs.undo.undo_all.Goals as goal

pub loop-lsn-init : goal.loop-lsn-init
loop-lsn-init g c = record {
  room = c.requires.room;
  none = λ is. (is, refl, refl);
  outcome = unmoved g.D.Disk c.args.writer.now c.args.disk.now c.requires.working c.requires.ready;
  kept = λ b base all s stands is are. (s, undo_start g.D.Disk b base all s c.args.writer.now c.args.disk.now (g.met.D.Disk.only_now c.args.disk.now) stands is, are);
}

pub loop-lsn-smaller : goal.loop-lsn-smaller
loop-lsn-smaller g c =
    falls c.loop-lsn.chains.entries c.undo_at.new.chains.entries c.take_last.new.chains.entries c.in-Some.lsn c.in-Some.chain c.in-Some.ensures.removal (c.in_ok-undo_at.ensures.above c.in-Some.ensures.others)

pub loop-lsn-preserved : goal.loop-lsn-preserved
loop-lsn-preserved g c = record {
  room = first_of (search rules, grind (arith, common_steps));
  none = λ is. absurd (last_of_none c.loop-lsn.chains.entries c.take_last.new.chains.entries (c.in-Some.lsn, c.in-Some.chain) (c.loop-lsn.invariant.none is).0 c.in-Some.ensures.removal);
  outcome = recovers_then g.D.Disk c.loop-lsn.invariant.outcome c.in_ok-undo_at.ensures.outcome;
  kept = λ b base all s stands is are. (
      let h = c.loop-lsn.invariant.kept b base all s stands is are in
      let t = chains_taken c.loop-lsn.chains c.take_last.new.chains h.0.log c.in-Some.lsn c.in-Some.chain h.2 c.in-Some.ensures.value c.in-Some.ensures.updates.0 in
      let latest = latest_here b page_tree page_tree_laws h.0.log c.in-Some.chain c.in-Some.lsn c.take_last.new.chains h.1.undoing.can t.2 t.0 c.in-Some.ensures.others in
      let k = c.in_ok-undo_at.ensures.kept b base all h.0 nobody h.1.stands h.1.undoing t.0 refl t.1 t.2 latest in
      (k.sound.now, undo_then g.D.Disk b base all s c.args.disk.now h.0 c.loop-lsn.writer c.loop-lsn.disk k.sound.now c.undo_at.new.writer c.undo_at.new.disk h.1 k.sound.goes, k.sound.are)
      );
}

pub returns-in_err-undo_at-clause-kept : goal.returns-in_err-undo_at-clause-kept
returns-in_err-undo_at-clause-kept g c b base all s stands is are =
    let h = c.loop-lsn.invariant.kept b base all s stands is are in
    let t = chains_taken c.loop-lsn.chains c.take_last.new.chains h.0.log c.in-Some.lsn c.in-Some.chain h.2 c.in-Some.ensures.value c.in-Some.ensures.updates.0 in
    let latest = latest_here b page_tree page_tree_laws h.0.log c.in-Some.chain c.in-Some.lsn c.take_last.new.chains h.1.undoing.can t.2 t.0 c.in-Some.ensures.others in
    let k = c.in_err-undo_at.ensures.kept b base all h.0 nobody h.1.stands h.1.undoing t.0 refl t.1 t.2 latest in
    record { sound = sound_on c.from_residual.result _ _ c.from_residual.ensures.1 k.sound; stops = left_then g.D.Disk b base all c.args.disk.now c.loop-lsn.disk c.undo_at.new.disk h.1.stops k.stops }

pub returns-clause-kept : goal.returns-clause-kept
returns-clause-kept g c b base all s stands is are =
    let h = c.loop-lsn.invariant.kept b base all s stands is are in
    let none = none_left c.loop-lsn.chains.entries (λ some. (let clash = c.in_default.ensures.variant.1 some in absurd (cc clash))) in
    record { sound = record { now = h.0; goes = h.1; ended = chains_none c.loop-lsn.chains h.0.log h.2 none }; stops = h.1.stops }

pub returns-in_err-undo_at-clause-none : goal.returns-in_err-undo_at-clause-none
returns-in_err-undo_at-clause-none g c is = absurd (last_of_none c.loop-lsn.chains.entries c.take_last.new.chains.entries (c.in-Some.lsn, c.in-Some.chain) (c.loop-lsn.invariant.none is).0 c.in-Some.ensures.removal)

pub returns-clause-none : goal.returns-clause-none
returns-clause-none g c is = let h = c.loop-lsn.invariant.none is in (refl, h.1, h.2)

pub returns-in_err-undo_at-clause-used_up : goal.returns-in_err-undo_at-clause-used_up
returns-in_err-undo_at-clause-used_up g c b base all s stands is are =
    let h = c.loop-lsn.invariant.kept b base all s stands is are in
    let t = chains_taken c.loop-lsn.chains c.take_last.new.chains h.0.log c.in-Some.lsn c.in-Some.chain h.2 c.in-Some.ensures.value c.in-Some.ensures.updates.0 in
    let latest = latest_here b page_tree page_tree_laws h.0.log c.in-Some.chain c.in-Some.lsn c.take_last.new.chains h.1.undoing.can t.2 t.0 c.in-Some.ensures.others in
    err_on c.from_residual.result c.in_err-undo_at.field-0.0 (λ e. e ≡ Capacity → RunsOut b all) c.from_residual.ensures.1 (c.in_err-undo_at.ensures.used_up b base all h.0 h.1.stands h.1.undoing t.1 t.2 latest)
