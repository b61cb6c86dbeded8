use Rattle.std.proofs.Common.{rules, ℕ, List, ◌+◌, ◌≡◌, ◌≤◌, drop, length, Bool, true, false, arith, sym, subst, refl}
use Rattle.std.specs.Prelude.{if◌then◌else◌}
use Rattle.std.proofs.Math.ListN.{drop_of_length-le}
use Rattle.std.proofs.lemmas.List.{length-map}
use Rattle.im_restart_analysis.specs.declared.changes.Change.{Change}
use Rattle.im_restart_redo.specs.Applying.{IsApplying}
use Rattle.im_restart_redo.specs.Changes.{lsns_of}
use Rattle.im_restart_redo.proofs.ChangeLsns.{next_lsn}
use Rattle.im_page_writer.proofs.Outcomes.{sound_on}
use Rattle.im_restart_redo.proofs.Recoveries.{moved, recovers_then, recovery_refused}
use Rattle.im_restart_redo.proofs.Within.{leaves_now}
use Rattle.im_restart_redo.proofs.alone.redo_each.Goals as goal

few_more : (count index : ℕ) (done : Bool) (n : ℕ) → n ≡ count + (if done then 1 else 0) → count ≤ index → n ≤ index + 1
few_more count index true n is le = omega (arith, is, le)
few_more count index false n is le = omega (arith, is, le)

pub loop-change-init : goal.loop-change-init
loop-change-init g c = record { outcome = moved g.D.Disk c.args.writer.now c.args.writer.now c.args.disk.now c.requires.working c.requires.ready refl c.requires.working; few = omega arith; room = refl; used = omega (arith, c.empty-window.ensures.none); kept = λ b base begun file from is can at are. (is, c.empty-window.ensures.shows begun c.args.room.now) }

pub loop-change-preserved : goal.loop-change-preserved
loop-change-preserved g c =
    let l = c.loop-change in
    record {
      outcome = recovers_then g.D.Disk l.invariant.outcome c.in_ok-applied.ensures.outcome;
      few = few_more l.count l.change-index c.in_ok-applied.applied c.counted-count.result c.counted-count.ensures l.invariant.few;
      room = (search rules);
      used = c.in_ok-applied.ensures.used;
      kept = λ b base begun file from is can at are.
          let rest = drop (l.change-index + 1) (lsns_of c.args.changes.now) in
          let held = l.invariant.kept b base begun file from is can at are in
          let more = next_lsn c.args.changes.now l.change-index (record { page = 0; said = 0; lsn = 0 }) c.loop-change-test.true in
          let so = subst (λ (left : List ℕ). IsApplying g.D.Disk b base begun file left l.count from l.writer l.disk) more (held.0) in (
            subst (λ (n : ℕ). IsApplying g.D.Disk b base begun file rest n from c.redo_one.new.writer c.redo_one.new.disk) (sym c.counted-count.ensures) (c.in_ok-applied.ensures.kept b base begun file from rest l.count so held.1 can at are).sound,
            c.in_ok-applied.ensures.shows b base begun file from rest l.count so held.1,
          );
    }

pub returns-in_err-applied-clause-outcome : goal.returns-in_err-applied-clause-outcome
returns-in_err-applied-clause-outcome g c = recovery_refused g.D.Disk c.from_residual.result c.from_residual.ensures.1 (recovers_then g.D.Disk c.loop-change.invariant.outcome c.in_err-applied.ensures.outcome)

pub returns-in_err-applied-clause-kept : goal.returns-in_err-applied-clause-kept
returns-in_err-applied-clause-kept g c b base begun file from is can at are =
    let l = c.loop-change in
    let rest = drop (l.change-index + 1) (lsns_of c.args.changes.now) in
    let more = next_lsn c.args.changes.now l.change-index (record { page = 0; said = 0; lsn = 0 }) c.loop-change-test.true in
    let held = l.invariant.kept b base begun file from is can at are in
    let so = subst (λ (left : List ℕ). IsApplying g.D.Disk b base begun file left l.count from l.writer l.disk) more (held.0) in
    let one = c.in_err-applied.ensures.kept b base begun file from rest l.count so held.1 can at are in
    record { sound = sound_on c.from_residual.result _ _ c.from_residual.ensures.1 one.sound; stops = one.stops }

pub returns-clause-kept : goal.returns-clause-kept
returns-clause-kept g c b base begun file from is can at are =
    let l = c.loop-change in
    let held = l.invariant.kept b base begun file from is can at are in
    let past : length (lsns_of c.args.changes.now) ≤ l.change-index = omega (arith, length-map c.args.changes.now (λ (x : Change). x.lsn), c.loop-change-test.false) in
    let so = subst (λ (left : List ℕ). IsApplying g.D.Disk b base begun file left l.count from l.writer l.disk) (drop_of_length-le (lsns_of c.args.changes.now) past) (held.0) in
    record { sound = so; stops = leaves_now g.D.Disk b base begun from so.passed.now l.writer l.disk so.passed.within }
