use Rattle.std.proofs.Common.{refl, ap, subst}
use Rattle.im_theory_machine.specs.Table.{Table, Held, all_of, locks_of, IsGrown, SameTable, SameLasting}
use Rattle.im_engine_locks.specs.Requests.{row}
use Rattle.im_theory_machine.specs.Locks.{WaitsFor, MustDie, IsFree}
use Rattle.im_engine_locks.specs.InStep.{owned}
use Rattle.im_engine_locks.proofs.Conflicts.{free-by, waits-by, dies-by}
use Rattle.im_engine_locks.proofs.lock_table.LockTable.try_all.Goals as goal
use Rattle.im_engine_locks.proofs.lock_table.LockTable.try_all.Goals.{then-t-holder, else-t-holder}

pub returns-in-Some-clause-decided : goal.returns-in-Some-clause-decided
returns-in-Some-clause-decided c =
    elim c.if-t-holder.branch [
      | then-t-holder w ↦ rw w.result-is (
        subst (λ (table : Table). WaitsFor (locks_of table) c.args.t (row c.args.requests.now) c.in-Some.holder) c.self.view_is
            (waits-by c.self.inside.names (owned c.self.inside.owners) c.self.invariant c.args.t (row c.args.requests.now) c.in-Some.holder c.in-Some.ensures w.if-t-holder.true),
        refl,
      )
      | else-t-holder w ↦ rw w.result-is (
        subst (λ (table : Table). MustDie (locks_of table) c.args.t (row c.args.requests.now)) c.self.view_is
            (dies-by c.self.inside.names (owned c.self.inside.owners) c.self.invariant c.args.t (row c.args.requests.now) c.in-Some.holder c.in-Some.ensures w.if-t-holder.false),
        refl,
      )
    ]

pub returns-clause-decided : goal.returns-clause-decided
returns-clause-decided c = (
  subst (λ (table : Table). IsFree (locks_of table) c.args.t (row c.args.requests.now)) c.self.view_is
      (free-by c.self.inside.names (owned c.self.inside.owners) c.self.invariant c.args.t (row c.args.requests.now) c.in_default.ensures),
  subst (λ (table : Table). IsGrown table c.args.t (row c.args.requests.now) (owned c.grant_to.new.owners)) c.self.view_is c.in_default-grant_to.ensures.granted,
)

pub returns-in-Err-clause-refused : goal.returns-in-Err-clause-refused
returns-in-Err-clause-refused c = (
  refl,
  subst (λ (table : Table). IsFree (locks_of table) c.args.t (row c.args.requests.now)) c.self.view_is
      (free-by c.self.inside.names (owned c.self.inside.owners) c.self.invariant c.args.t (row c.args.requests.now) c.in_default.ensures),
  subst (λ (table : Table). SameTable table (owned c.grant_to.new.owners)) c.self.view_is (λ s. ap all_of (c.in-Err.ensures.err s)),
)

pub returns-in-Err-clause-lasting : goal.returns-in-Err-clause-lasting
returns-in-Err-clause-lasting c = subst (λ (table : Table). SameLasting table (owned c.grant_to.new.owners)) c.self.view_is (λ s. ap (λ (h : Held). h.lasting) (c.in-Err.ensures.err s))
