use Rattle.std.proofs.Common.{rules, ◌≡◌, ℕ, List, ◌++◌, ◌∙◌, sym, ap, subst, map, Some, nat_eq, append-nil}
use Rattle.std.specs.HashMap.{HashMap, UpdatesBy}
use Rattle.std.specs.Option.{option_copied_mut}
use Rattle.im_theory_machine.specs.Table.{Held, HasFallen, all_of, lasting_of}
use Rattle.im_engine_locks.specs.Index.{seen, seen_all}
use Rattle.im_engine_locks.specs.Owned.{held_in, IsKnown}
use Rattle.im_engine_locks.specs.InStep.{owned}
use Rattle.im_engine_locks.specs.declared.own_locks.OwnLocks.{OwnLocks}
use Rattle.im_engine_locks.specs.declared.stored_lock.StoredLock.{StoredLock}
use Rattle.im_engine_locks.proofs.Owners.{owned-others, owned-own, held_of-there, known-in, none-fallen, in_step-after}
use Rattle.im_engine_locks.proofs.lock_table.fall.Goals as goal

pub forget_falling-requires : goal.forget_falling-requires
forget_falling-requires c = record {
  known = subst (λ (h : Held). IsKnown c.args.names.now c.args.t h) (held_of-there c.args.owners.now c.args.t c.in-Some.locks.now c.in-Some.ensures.value) (known-in c.args.names.now (owned c.args.owners.now) c.args.t c.requires.in_step);
}

updates : (c : goal.After-owners-in-Some-1) → UpdatesBy nat_eq (nat_eq c.args.t) c.args.owners.now (c.get_mut.follows.lender c.forget_falling.new.locks) (Some c.forget_falling.new.locks)
updates c = (c.get_mut.follows.holds c.forget_falling.new.locks).3 (search rules)

lasts : (c : goal.After-owners-in-Some-1) → seen_all c.forget_falling.new.locks.lasting ≡ lasting_of (owned c.args.owners.now) c.args.t
lasts c = ap (λ (items : List StoredLock). map seen items) c.forget_falling.ensures.lasting ∙ sym (ap (λ (h : Held). h.lasting) (held_of-there c.args.owners.now c.args.t c.in-Some.locks.now c.in-Some.ensures.value))

pub returns-in-Some-clause-in_step : goal.returns-in-Some-clause-in_step
returns-in-Some-clause-in_step c =
    in_step-after c.args.names.now c.forget_falling.new.names c.args.t (owned c.args.owners.now) (owned (c.get_mut.follows.lender c.forget_falling.new.locks)) c.requires.in_step
    c.forget_falling.ensures.others
    (owned-others c.args.owners.now (c.get_mut.follows.lender c.forget_falling.new.locks) c.args.t (Some c.forget_falling.new.locks) (updates c))
    (held_in c.forget_falling.new.locks)
    (owned-own c.args.owners.now (c.get_mut.follows.lender c.forget_falling.new.locks) c.args.t (Some c.forget_falling.new.locks) (updates c))
    c.forget_falling.ensures.known

pub returns-in-Some-clause-fallen : goal.returns-in-Some-clause-fallen
returns-in-Some-clause-fallen c =
    let own = owned-own c.args.owners.now (c.get_mut.follows.lender c.forget_falling.new.locks) c.args.t (Some c.forget_falling.new.locks) (updates c) in
    record {
      own =
          ap all_of own
          ∙ (ap (λ (items : List StoredLock). seen_all c.forget_falling.new.locks.lasting ++ map seen items) c.forget_falling.ensures.falling
          ∙ (append-nil (seen_all c.forget_falling.new.locks.lasting) ∙ lasts c));
      lasting = ap (λ (h : Held). h.lasting) own ∙ lasts c;
      others = owned-others c.args.owners.now (c.get_mut.follows.lender c.forget_falling.new.locks) c.args.t (Some c.forget_falling.new.locks) (updates c);
    }

at_none : (c : goal.After-owners-in_default-2-1) → c.get_mut.follows.lender-at-none ≡ c.args.owners.now
at_none c = search rules

pub returns-in_default-clause-fallen : goal.returns-in_default-clause-fallen
returns-in_default-clause-fallen c =
    subst (λ (m : HashMap ℕ OwnLocks _). HasFallen (owned c.args.owners.now) c.args.t (owned m)) (sym (at_none c))
    (none-fallen c.args.owners.now c.args.t (sym c.get_mut.ensures.value ∙ ap option_copied_mut c.in_default.is))
