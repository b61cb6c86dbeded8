use Rattle.std.proofs.Common.{rules, ◌∙◌, ap, subst, None}
use Rattle.im_theory_machine.specs.Table.{Held, all_of, nothing_held}
use Rattle.im_engine_locks.specs.Owned.{IsKnown}
use Rattle.im_engine_locks.specs.InStep.{owned}
use Rattle.im_engine_locks.proofs.Places.{others-on}
use Rattle.im_engine_locks.proofs.Owners.{owned-others, owned-own, held_of-there, known-in, emptied, in_step-after, none_left}
use Rattle.im_engine_locks.proofs.lock_table.release.Goals as goal

pub forget_lasting-requires : goal.forget_lasting-requires
forget_lasting-requires c = record {
  known = subst (λ (h : Held). IsKnown c.args.names.now c.args.t h) (held_of-there c.args.owners.now c.args.t c.in-Some.locks c.in-Some.ensures.value) (known-in c.args.names.now (owned c.args.owners.now) c.args.t c.requires.in_step);
}

pub returns-else-is_empty-clause-in_step : goal.returns-else-is_empty-clause-in_step
returns-else-is_empty-clause-in_step c =
    in_step-after c.args.names.now c.forget_falling.new.names c.args.t (owned c.args.owners.now) (owned c.remove.new.self) c.requires.in_step
    (others-on c.args.names.now c.forget_lasting.new.names c.forget_falling.new.names c.args.t c.forget_lasting.ensures.others c.forget_falling.ensures.others)
    (owned-others c.args.owners.now c.remove.new.self c.args.t None c.remove.ensures.updates)
    nothing_held
    (owned-own c.args.owners.now c.remove.new.self c.args.t None c.remove.ensures.updates)
    (subst (λ (h : Held). IsKnown c.forget_falling.new.names c.args.t h) (emptied c.forget_falling.new.locks (c.forget_falling.ensures.lasting ∙ c.forget_lasting.ensures.lasting) c.forget_falling.ensures.falling) c.forget_falling.ensures.known)

pub returns-else-is_empty-clause-released : goal.returns-else-is_empty-clause-released
returns-else-is_empty-clause-released c = record {
  none = ap all_of (owned-own c.args.owners.now c.remove.new.self c.args.t None c.remove.ensures.updates);
  others = owned-others c.args.owners.now c.remove.new.self c.args.t None c.remove.ensures.updates;
}

pub returns-in_default-clause-released : goal.returns-in_default-clause-released
returns-in_default-clause-released c = record {
  none = ap all_of (owned-own c.args.owners.now c.remove.new.self c.args.t None c.remove.ensures.updates);
  others = owned-others c.args.owners.now c.remove.new.self c.args.t None c.remove.ensures.updates;
}

pub returns-then-is_filled-clause-released : goal.returns-then-is_filled-clause-released
returns-then-is_filled-clause-released c = record {
  none = ap all_of (owned-own c.args.owners.now c.remove.new.self c.args.t None c.remove.ensures.updates);
  others = owned-others c.args.owners.now c.remove.new.self c.args.t None c.remove.ensures.updates;
}

pub returns-then-is_filled-clause-in_step : goal.returns-then-is_filled-clause-in_step
returns-then-is_filled-clause-in_step c = none_left c.clear.new.self c.remove.new.self (search rules)
