use Rattle.std.proofs.Common.{◌∙◌, inl, inr, Err, ap, rules, false, arith, length, ◌≤◌, List}
use Rattle.im_base_types.specs.Pages.{Entry}
use Rattle.im_base_types.specs.declared.file_id.FileId.TheVariants.{Pages}
use Rattle.im_base_disk.proofs.Ends.{own_answered}
use Rattle.im_load.specs.HasTaken.{HasPending}
use Rattle.im_load.proofs.Goings.{goes_none, goes_then}
use Rattle.im_load.proofs.Calls.{child_put_made}
use Rattle.im_load.proofs.Faults.{passed_on, eased, is_unsound}
use Rattle.im_load.proofs.Separators.{takes_separator}
use Rattle.im_load.proofs.loader.Loader.put_above.Goals as goal

pub loop-i-init : goal.loop-i-init
loop-i-init g c = record {
  working = search rules;
  long = search rules;
  pending = λ es p. p;
  run = goes_none g.D.Disk c.args.disk.now (g.met.D.Disk.only_now c.args.disk.now);
}

pub loop-i-preserved : goal.loop-i-preserved
loop-i-preserved g c = record {
  working = search rules;
  long = c.in_ok-next.ensures.same ∙ c.loop-i.invariant.long;
  pending = λ es p. c.in_ok-next.ensures.pending es c.args.key.now (c.loop-i.invariant.pending es p);
  run = goes_then g.D.Disk c.args.disk.now c.loop-i.disk c.close_inner.new.disk c.loop-i.invariant.run c.in_ok-next.ensures.run;
}

pub returns-in_err-put_child-clause-outcome : goal.returns-in_err-put_child-clause-outcome
returns-in_err-put_child-clause-outcome g c =
    let s = c.loop-i.self in
    let f = c.in_err-put_child.field-0.0 in
    own_answered _ false _ f c.from_residual.result c.from_residual.ensures.1
    (inr (inr (
      c.in_err-put_child.ensures.refused,
      λ es p some short.
          c.in_err-put_child.ensures.sound
          (takes_separator s.leaf s.above.items s.count g.D.Disk.tells (g.D.Disk.seen c.loop-i.disk Pages) es c.loop-i.i c.args.key.now c.loop-i.child c.is_open-open.result (c.loop-i.invariant.pending es p) c.if-open.true c.is_open-open.ensures some short)
          (ap Err c.in_err-put_child.ensures.refused),
    )))
    (is_unsound f c.in_err-put_child.ensures.refused) c.loop-i.invariant.working

pub returns-then-open-clause-taken : goal.returns-then-open-clause-taken
returns-then-open-clause-taken g c es p =
    child_put_made c.loop-i.self c.put_child.new.self g.D.Disk.tells (g.D.Disk.seen c.loop-i.disk Pages) es c.loop-i.i c.args.key.now c.loop-i.child c.in_ok-put_child.ensures.put c.in_ok-put_child.ensures.above
    (c.loop-i.invariant.pending es p)

pub returns-in_err-raise_inner-clause-outcome : goal.returns-in_err-raise_inner-clause-outcome
returns-in_err-raise_inner-clause-outcome g c =
    let f = c.in_err-raise_inner.field-0.0 in
    let key = c.args.key.now in
    passed_on _ _ _ f c.from_residual-in_err-raise_inner.result c.from_residual-in_err-raise_inner.ensures.1 c.in_err-raise_inner.ensures.outcome
    (eased c.raise_inner.new.self (1 ≤ length key → length key ≤ 255 → ⊥)
    ((es : List Entry) → HasPending g.D.Disk c.args.self.now c.args.disk.now es 0 key c.args.child → 1 ≤ length key → length key ≤ 255 → ⊥) f (λ never es p some short. never some short))

pub returns-in_err-raise_inner-clause-run : goal.returns-in_err-raise_inner-clause-run
returns-in_err-raise_inner-clause-run g c = goes_then g.D.Disk c.args.disk.now c.loop-i.disk c.raise_inner.new.disk c.loop-i.invariant.run c.raise_inner.ensures.run

pub returns-in_err-next-clause-outcome : goal.returns-in_err-next-clause-outcome
returns-in_err-next-clause-outcome g c =
    passed_on _ _ _ c.in_err-next.field-0.0 c.from_residual-in_err-next.result c.from_residual-in_err-next.ensures.1 c.in_err-next.ensures.outcome (λ full. inr (inl full))

pub returns-in_err-next-clause-run : goal.returns-in_err-next-clause-run
returns-in_err-next-clause-run g c = goes_then g.D.Disk c.args.disk.now c.loop-i.disk c.close_inner.new.disk c.loop-i.invariant.run c.close_inner.ensures.run

pub returns-clause-taken : goal.returns-clause-taken
returns-clause-taken g c es p = absurd (omega (arith, (c.loop-i.invariant.pending es p).within, c.loop-i.invariant.long, c.loop-i-test.false))

pub returns-then-i-len-clause-run : goal.returns-then-i-len-clause-run
returns-then-i-len-clause-run g c = goes_then g.D.Disk c.args.disk.now c.loop-i.disk c.raise_inner.new.disk c.loop-i.invariant.run c.in_ok-raise_inner.ensures.run
