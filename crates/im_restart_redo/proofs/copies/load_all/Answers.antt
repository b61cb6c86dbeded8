use Rattle.std.proofs.Common.{ℕ, List, rules, refl, sym, subst}
use Rattle.im_restart_redo.specs.Loading.{IsLoading}
use Rattle.im_page_writer.proofs.Outcomes.{sound_on}
use Rattle.im_restart_redo.proofs.Recoveries.{moved, recovers_then, recovery_refused}
use Rattle.im_restart_redo.proofs.Within.{leaves_now}
use Rattle.im_restart_redo.proofs.copies.load_all.Goals as goal

pub returns-in_err-load_one-clause-kept : goal.returns-in_err-load_one-clause-kept
returns-in_err-load_one-clause-kept g c b base begun file from s is waiting first at =
    let l = c.loop-lsn in
    let so = subst (λ (left : List (ℕ × ℕ)). IsLoading g.D.Disk b base begun file left from l.writer l.disk) c.in-Some.ensures.steps (l.invariant.kept b base begun file from s is waiting first at) in
    let one = c.in_err-load_one.ensures.kept b base begun file from c.in-Some.field-0-0.now c.next.new.self so at in
    record { sound = sound_on c.from_residual.result _ _ c.from_residual.ensures.1 one.sound; stops = one.stops }

pub returns-clause-kept : goal.returns-clause-kept
returns-clause-kept g c b base begun file from s is waiting first at =
    let l = c.loop-lsn in
    let so = subst (λ (left : List (ℕ × ℕ)). IsLoading g.D.Disk b base begun file left from l.writer l.disk) c.in-None.ensures.steps.0 (l.invariant.kept b base begun file from s is waiting first at) in
    record { sound = so; stops = leaves_now g.D.Disk b base begun from so.now l.writer l.disk so.within }

pub returns-in_err-load_one-clause-outcome : goal.returns-in_err-load_one-clause-outcome
returns-in_err-load_one-clause-outcome g c = recovery_refused g.D.Disk c.from_residual.result c.from_residual.ensures.1 (recovers_then g.D.Disk c.loop-lsn.invariant.outcome c.in_err-load_one.ensures.outcome)

pub loop-lsn-init : goal.loop-lsn-init
loop-lsn-init g c = record {
  outcome = moved g.D.Disk c.args.writer.now c.args.writer.now c.args.disk.now c.requires.working c.requires.ready refl c.requires.working;
  room = refl;
  kept = λ b base begun file from s is waiting first at.
      let all = c.into_iter-lsn-iterator.ensures.into_iter_gives in
      subst (λ (left : List (ℕ × ℕ)). IsLoading g.D.Disk b base begun file left from c.args.writer.now c.args.disk.now) (sym all.0) (record { now = s; within = is; rising = all.5; waiting = waiting; first = first });
}

pub loop-lsn-preserved : goal.loop-lsn-preserved
loop-lsn-preserved g c = record {
  outcome = recovers_then g.D.Disk c.loop-lsn.invariant.outcome c.in_ok-load_one.ensures.outcome;
  room = (search rules);
  kept = λ b base begun file from s is waiting first at.
      let l = c.loop-lsn in
      let so = subst (λ (left : List (ℕ × ℕ)). IsLoading g.D.Disk b base begun file left from l.writer l.disk) c.in-Some.ensures.steps (l.invariant.kept b base begun file from s is waiting first at) in
      (c.in_ok-load_one.ensures.kept b base begun file from c.in-Some.field-0-0.now c.next.new.self so at).sound;
}
