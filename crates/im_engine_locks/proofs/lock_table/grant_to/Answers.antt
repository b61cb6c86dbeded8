use Rattle.std.proofs.Common.{rules, ◌≡◌, ◌||◌, ◌∙◌, sym, ap, subst, Some, nat_eq}
use Rattle.std.specs.HashMap.{UpdatesBy}
use Rattle.im_theory_machine.specs.Locks.{kept, held_now}
use Rattle.im_theory_machine.specs.Table.{Held, all_of, held_of, locks_of, lasting_of, OthersKeep}
use Rattle.im_engine_locks.specs.Requests.{row}
use Rattle.im_engine_locks.specs.Index.{is_held, keeps, lasts}
use Rattle.im_engine_locks.specs.Owned.{held_in, IsKnown}
use Rattle.im_engine_locks.specs.InStep.{owned}
use Rattle.im_engine_locks.proofs.Owners.{owned-others, owned-own, owned-same, held_of-there, held_of-opened, held_same, known-in, in_step-after, on_both, on_err}
use Rattle.im_engine_locks.proofs.Conflicts.{same-locks, kept-held, kept-lasts}
use Rattle.im_engine_locks.proofs.lock_table.grant_to.Goals as goal

pub grant-requires : goal.grant-requires
grant-requires c = record {
  known = subst (λ (h : Held). IsKnown c.args.names.now c.args.t h) (held_of-opened c.args.owners.now c.open.new.owners c.args.t c.in-Some.locks.now c.in_ok-open.ensures.same c.in-Some.ensures.value) (known-in c.args.names.now (owned c.args.owners.now) c.args.t c.requires.in_step);
}

updates : (c : goal.After-owners-in-Some-1) → UpdatesBy nat_eq (nat_eq c.args.t) c.open.new.owners (c.get_mut.follows.lender c.grant.new.locks) (Some c.grant.new.locks)
updates c = (c.get_mut.follows.holds c.grant.new.locks).3 (search rules)

others : (c : goal.After-owners-in-Some-1) → OthersKeep (owned c.args.owners.now) c.args.t (owned (c.get_mut.follows.lender c.grant.new.locks))
others c s ne = owned-others c.open.new.owners (c.get_mut.follows.lender c.grant.new.locks) c.args.t (Some c.grant.new.locks) (updates c) s ne ∙ c.in_ok-open.ensures.same s

after : (c : goal.After-owners-in-Some-1) → held_of (owned (c.get_mut.follows.lender c.grant.new.locks)) c.args.t ≡ held_in c.grant.new.locks
after c = owned-own c.open.new.owners (c.get_mut.follows.lender c.grant.new.locks) c.args.t (Some c.grant.new.locks) (updates c)

before : (c : goal.After-owners-in-Some-1) → held_of (owned c.args.owners.now) c.args.t ≡ held_in c.in-Some.locks.now
before c = held_of-opened c.args.owners.now c.open.new.owners c.args.t c.in-Some.locks.now c.in_ok-open.ensures.same c.in-Some.ensures.value

pub returns-clause-in_step : goal.returns-clause-in_step
returns-clause-in_step c =
    in_step-after c.args.names.now c.grant.new.names c.args.t (owned c.args.owners.now) (owned (c.get_mut.follows.lender c.grant.new.locks)) c.requires.in_step c.grant.ensures.others
    (others c)
    (held_in c.grant.new.locks)
    (after c)
    c.grant.ensures.known

pub returns-clause-granted : goal.returns-clause-granted
returns-clause-granted c =
    on_both c.grant.result (λ held lasting. record {
      own = same-locks _ (held_now (row c.args.requests.now) (locks_of (owned c.args.owners.now) c.args.t)) (λ n m.
          ap (λ (h : Held). is_held (all_of h) n m) (after c)
          ∙ (held n m
          ∙ (ap (λ (h : Held). is_held (all_of h) n m || keeps (row c.args.requests.now) n m) (sym (before c))
          ∙ sym (kept-held (row c.args.requests.now) (locks_of (owned c.args.owners.now) c.args.t) n m))));
      lasting = same-locks _ (kept (row c.args.requests.now) (lasting_of (owned c.args.owners.now) c.args.t)) (λ n m.
          ap (λ (h : Held). is_held h.lasting n m) (after c)
          ∙ (lasting n m
          ∙ (ap (λ (h : Held). is_held h.lasting n m || lasts (row c.args.requests.now) n m) (sym (before c))
          ∙ sym (kept-lasts (row c.args.requests.now) (lasting_of (owned c.args.owners.now) c.args.t) n m))));
      others = others c;
    }) c.grant.ensures.held c.grant.ensures.lasting

pub returns-clause-err : goal.returns-clause-err
returns-clause-err c =
    on_err c.grant.result (λ same. λ s.
    owned-same c.open.new.owners (c.get_mut.follows.lender c.grant.new.locks) c.args.t (Some c.grant.new.locks) (updates c)
    (held_same c.in-Some.locks.now c.grant.new.locks same ∙ sym (held_of-there c.open.new.owners c.args.t c.in-Some.locks.now c.in-Some.ensures.value)) s
    ∙ c.in_ok-open.ensures.same s) c.grant.ensures.err
