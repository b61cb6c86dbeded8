use Rattle.std.proofs.Common.{rules, ℕ, List, ◌+◌, ◌-◌, ◌≡◌, ◌≤◌, drop, take, length, ap, arith, sym, subst, refl, ◌∙◌}
use Rattle.std.proofs.Math.ListN.{drop_of_length-le}
use Rattle.std.proofs.lemmas.List.{length-drop, length-map}
use Rattle.im_restart_analysis.specs.declared.changes.Change.{Change}
use Rattle.im_page_writer.proofs.Outcomes.{sound_on}
use Rattle.im_restart_redo.specs.Applying.{IsApplying}
use Rattle.im_restart_redo.specs.Changes.{lsns_of}
use Rattle.im_restart_redo.proofs.ChangeLsns.{own_sliced, sliced, sliced_lsns, sliced_more}
use Rattle.im_restart_redo.proofs.Recoveries.{moved, recovers_then, recovery_refused}
use Rattle.im_restart_redo.proofs.Within.{leaves_now}
use Rattle.im_restart_redo.proofs.records.redo_all.Goals as goal

pub loop-segment-init : goal.loop-segment-init
loop-segment-init g c = record {
  outcome = moved g.D.Disk c.args.writer.now c.args.writer.now c.args.disk.now c.requires.working c.requires.ready refl c.requires.working;
  few = omega arith;
  on = omega arith;
  within = omega arith;
  pages = c.requires.pages;
  room = refl;
  used = omega (arith, c.empty-window.ensures.none);
  kept = λ b base begun file from is own can at are. (is, c.empty-window.ensures.shows begun c.args.room.now);
}

pub loop-segment-preserved : goal.loop-segment-preserved
loop-segment-preserved g c =
    let l = c.loop-segment in
    let all = c.args.changes.now in
    let p = c.in_ok-passed.ensures in
    let left : length (take (length all - l.done) (drop l.done all)) ≡ length all - l.done = ap length (sliced all l.done) ∙ length-drop l.done all in
    record {
      outcome = recovers_then g.D.Disk l.invariant.outcome p.outcome;
      few = omega (arith, l.invariant.few, p.passed.2);
      on = omega (arith, l.invariant.on, p.passed.0);
      within = omega (arith, l.invariant.within, p.passed.1, left);
      pages = omega (arith, l.invariant.pages, p.most);
      room = search rules;
      used = p.used;
      kept = λ b base begun file from is own can at are.
          let held = l.invariant.kept b base begun file from is own can at are in
          let so = subst (λ (left : List ℕ). IsApplying g.D.Disk b base begun file left l.count from l.writer l.disk) (sym (sliced_lsns all l.done)) held.0 in
          let own' = own_sliced begun all l.done own in
          let one = p.kept b base begun file from l.count so own' held.1 can at are in (
            subst (λ (left : List ℕ). IsApplying g.D.Disk b base begun file left (l.count + c.in_ok-passed.passed.applied) from c.redo_segment.new.writer c.redo_segment.new.disk) (sliced_more all l.done c.in_ok-passed.passed.changes) one.sound,
            p.shows b base begun file from l.count so own' held.1 can at are,
          );
    }

pub returns-in_err-passed-clause-outcome : goal.returns-in_err-passed-clause-outcome
returns-in_err-passed-clause-outcome g c = recovery_refused g.D.Disk c.from_residual.result c.from_residual.ensures.1 (recovers_then g.D.Disk c.loop-segment.invariant.outcome c.in_err-passed.ensures.outcome)

pub returns-in_err-passed-clause-kept : goal.returns-in_err-passed-clause-kept
returns-in_err-passed-clause-kept g c b base begun file from is own can at are =
    let l = c.loop-segment in
    let all = c.args.changes.now in
    let held = l.invariant.kept b base begun file from is own can at are in
    let so = subst (λ (left : List ℕ). IsApplying g.D.Disk b base begun file left l.count from l.writer l.disk) (sym (sliced_lsns all l.done)) held.0 in
    let one = c.in_err-passed.ensures.kept b base begun file from l.count so (own_sliced begun all l.done own) held.1 can at are in
    record { sound = sound_on c.from_residual.result _ _ c.from_residual.ensures.1 one.sound; stops = one.stops }

pub returns-after-loop-segment-clause-outcome : goal.returns-after-loop-segment-clause-outcome
returns-after-loop-segment-clause-outcome g c = c.loop-segment.invariant.outcome

pub returns-after-loop-segment-clause-kept : goal.returns-after-loop-segment-clause-kept
returns-after-loop-segment-clause-kept g c b base begun file from is own can at are =
    let l = c.loop-segment in
    let held = l.invariant.kept b base begun file from is own can at are in
    let past : length (lsns_of c.args.changes.now) ≤ l.done = omega (arith, length-map c.args.changes.now (λ (x : Change). x.lsn), c.loop-segment-test.false, l.invariant.on) in
    let so = subst (λ (left : List ℕ). IsApplying g.D.Disk b base begun file left l.count from l.writer l.disk) (drop_of_length-le (lsns_of c.args.changes.now) past) held.0 in
    record { sound = so; stops = leaves_now g.D.Disk b base begun from so.passed.now l.writer l.disk so.passed.within }

pub returns-then-done-changes-clause-outcome : goal.returns-then-done-changes-clause-outcome
returns-then-done-changes-clause-outcome g c = c.loop-segment.invariant.outcome

pub returns-then-done-changes-clause-kept : goal.returns-then-done-changes-clause-kept
returns-then-done-changes-clause-kept g c b base begun file from is own can at are =
    let l = c.loop-segment in
    let held = l.invariant.kept b base begun file from is own can at are in
    let past : length (lsns_of c.args.changes.now) ≤ l.done = omega (arith, length-map c.args.changes.now (λ (x : Change). x.lsn), c.if-done-changes.true) in
    let so = subst (λ (left : List ℕ). IsApplying g.D.Disk b base begun file left l.count from l.writer l.disk) (drop_of_length-le (lsns_of c.args.changes.now) past) held.0 in
    record { sound = so; stops = leaves_now g.D.Disk b base begun from so.passed.now l.writer l.disk so.passed.within }
