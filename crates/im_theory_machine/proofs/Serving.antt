-- The lock table's verdicts are the machine's answers.
use Rattle.std.proofs.Common.{◌≡◌, ℕ, nat_eq, Bool, true, false, cond, Option, Some, None, List, [], ◌++◌, refl, ap, sym, subst, ◌∙◌, inl, inr}
use Rattle.im_base_types.specs.Answers.{Access, Going, MustRollBack, Committing}
use Rattle.im_theory_machine.specs.Locks.{Lock, Request, Holds, kept, SameLocks, ConflictsWith}
use Rattle.im_theory_machine.specs.Rows.{asked}
use Rattle.im_theory_machine.specs.Table.{Table, all_of, locks_of, Decides, IsReleased, OthersKeep}
use Rattle.im_theory_machine.specs.View.{View, Under, kept_lock, Txn, of_others, own_locks, locks_in, set_txn, idle, did_txn}
use Rattle.im_theory_machine.specs.Machine.{does, waits, dies}
use Rattle.im_theory_machine.specs.Serving.{KeepsNone, Matches, GoesBy, TableServes}
use Rattle.im_theory_machine.specs.declared.verdict.Verdict.{Verdict}
use Rattle.im_theory_machine.specs.declared.verdict.Verdict.TheVariants.{Granted, Wait, Die as DieVerdict}
use Rattle.im_theory_machine.proofs.Bools.{cases_number}
use Rattle.im_theory_machine.proofs.Queue.{by_force_txn}
use Rattle.im_theory_machine.proofs.Durations.{asked-kept}
use Rattle.im_theory_machine.proofs.Invariant.{set_txn-same, set_txn-other}

-- conflict looks at what is held alone
conflict-by : (f g : ℕ → List Lock) → ((s : ℕ) → f s ≡ g s) → (t : ℕ) (asks : List Request) (s : ℕ) → ConflictsWith g t asks s → ConflictsWith f t asks s
conflict-by f g e t asks s p = record {
  name = p.name;
  mode = p.mode;
  theirs = p.theirs;
  other = p.other;
  ask = p.ask;
  held = subst (λ (ls : List Lock). Holds ls p.name p.theirs) (sym (e s)) p.held;
  exclusive = p.exclusive;
}

-- all that is held is in the table
pub all_held : (v : View) (table : Table) → Matches v table → (s : ℕ) → locks_in v s ≡ locks_of table s
all_held v table h s = ap (λ (ks : List Lock). ks ++ own_locks v s) (h.1 v.walk s) ∙ h.0 s

pub keeps_none : (under : Option Under) (t : ℕ) → KeepsNone under → KeepsNone (of_others t under)
keeps_none None t none w s = refl
keeps_none (Some u) t none w s = elim (nat_eq u.owner t) as (λ (b : Bool). kept_lock (cond b None (Some u)) w s ≡ []) [ true ↦ refl | false ↦ none w s ]

-- t's transaction is set to one with the table's locks, and the others hold what they held
matches-set : (v : View) (old new : Table) (t : ℕ) (x : Txn) → Matches v old → x.locks ≡ locks_of new t → OthersKeep old t new → (s : ℕ) → (set_txn v.txns t x s).locks ≡ locks_of new s
matches-set v old new t x h own others s =
    elim (cases_number s t) [
      | inl e ↦ subst (λ u. (set_txn v.txns t x u).locks ≡ locks_of new u) (sym e) (ap (λ (y : Txn). y.locks) (set_txn-same v.txns t x) ∙ own)
      | inr ne ↦ ap (λ (y : Txn). y.locks) (set_txn-other v.txns t x s ne) ∙ (h.0 s ∙ sym (ap all_of (others s ne)))
    ]

served : (v : View) (old new : Table) → Matches v old → (t : ℕ) (a : Access) (verdict : Verdict) → (v.txns t).mark ≡ Going → Decides old t (asked a v.walk) verdict new → GoesBy v t a verdict new
served v old new h t a Granted going d = (
  does t a (locks_of new t) refl going (λ s p. d.0 s (conflict-by (locks_of old) (locks_in v) (λ u. sym (all_held v old h u)) t (asked a v.walk) s p))
      (subst (λ (ls : List Lock). SameLocks (locks_of new t) ls) (asked-kept a v.walk (locks_of old t) ∙ ap (kept (asked a v.walk)) (sym (h.0 t))) d.1.own)
      refl
      refl,
  (matches-set v old new t (did_txn (v.txns t) a v.walk (locks_of new t)) h refl d.1.others, h.1),
)
served v old new h t a (Wait holder) going d = (
  waits t a holder refl going (record {
    conflict = conflict-by (locks_in v) (locks_of old) (all_held v old h) t (asked a v.walk) holder d.0.conflict;
    smallest = λ s p. d.0.smallest s (conflict-by (locks_of old) (locks_in v) (λ u. sym (all_held v old h u)) t (asked a v.walk) s p);
    older = d.0.older;
  }) refl refl,
  ((λ s. h.0 s ∙ ap (λ (table : Table). locks_of table s) (sym d.1)), h.1),
)
served v old new h t a DieVerdict going d = (
  dies t a refl going (record {
    holder = d.0.holder;
    conflict = conflict-by (locks_in v) (locks_of old) (all_held v old h) t (asked a v.walk) d.0.holder d.0.conflict;
    older = d.0.older;
  }) refl refl,
  ((λ s. matches-set v old old t (record (v.txns t) { mark = MustRollBack }) h (h.0 t) (λ u ne. refl) s ∙ ap (λ (table : Table). locks_of table s) (sym d.1)), h.1),
)

released : (v : View) (old new : Table) → Matches v old → (t : ℕ) → IsReleased old t new → (s : ℕ) → (set_txn v.txns t idle s).locks ≡ locks_of new s
released v old new h t r = matches-set v old new t idle h (sym r.none) r.others

pub table-serves : TableServes
table-serves = record {
  decided = served;
  committed = λ v old new h t r. (released v old new h t r, h.1);
  dropped = λ v old new h t r. (released v old new h t r, h.1);
  undone = λ v old new h t c r. (released v old new h t r, keeps_none v.under t h.1);
  queued = λ v old h t. (matches-set v old old t (record (v.txns t) { mark = Committing }) h (h.0 t) (λ u ne. refl), h.1);
  forced = λ v old new h r. (by_force_txn (λ u y. y.locks ≡ locks_of new u) v.txns v.queue (λ u some. sym (r.none u some)) (λ u none. h.0 u ∙ sym (ap all_of (r.others u none))), h.1);
}
