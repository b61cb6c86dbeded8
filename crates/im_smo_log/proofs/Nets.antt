-- What a transaction has left to undo through a structure change.
use Rattle.std.proofs.Common.{◌≡◌, ℕ, Bool, true, false, List, [], ◌∷◌, ◌++◌, inl, inr, refl, sym, ap, ◌∙◌, ◌==◌}
use Rattle.std.proofs.lemmas.Bool.{cases_eq, cond-true, cond-false, eq-eqb, ne_eqb}
use Rattle.im_base_types.specs.Changes.{Change}
use Rattle.im_base_types.specs.Records.{What, InsertKey, DeleteKey, UndoInsert, UndoDelete, Smo, UndoSmo, DummyClr, Commit, End, Image, Checkpoint, Unreadable, Logged}
use Rattle.im_theory_log.specs.Histories.{History}
use Rattle.im_theory_log.specs.Transactions.{change_of, changes_of, is_smo, net, stack_after, to_undo, without_smo}
use Rattle.im_theory_tree.specs.Good.{AllOf}
use Rattle.im_smo_log.specs.Changes.{IsOfChange, GrowsByChange}

-- an Smo record changes no key
smo_change : (w : What) → is_smo w ≡ true → change_of w ≡ []
smo_change (InsertKey k i) is = absurd (cc is)
smo_change (DeleteKey k i) is = absurd (cc is)
smo_change (UndoInsert k i) is = refl
smo_change (UndoDelete k i) is = refl
smo_change (Smo was now) is = refl
smo_change (UndoSmo now) is = refl
smo_change DummyClr is = refl
smo_change Commit is = refl
smo_change End is = refl
smo_change (Image c) is = refl
smo_change (Checkpoint n a dirty) is = refl
smo_change Unreadable is = refl

without_step : (s : Logged) (rest : History) (u : Bool) → is_smo s.what ≡ u → changes_of (without_smo rest) ≡ changes_of rest → changes_of (without_smo (s ∷ rest)) ≡ changes_of (s ∷ rest)
without_step s rest true is so =
    ap changes_of (cond-true (is_smo s.what) (without_smo rest) (s ∷ rest) is) ∙ so ∙ sym (ap (λ (cs : List Change). cs ++ changes_of rest) (smo_change s.what is))
without_step s rest false is so = ap changes_of (cond-false (is_smo s.what) (without_smo rest) (s ∷ rest) is)

changes_without : (stack : History) → changes_of (without_smo stack) ≡ changes_of stack
changes_without [] = refl
changes_without (s ∷ rest) = without_step s rest (is_smo s.what) refl (changes_without rest)

-- its records change no net
stack_changes : (t : ℕ) (r : Logged) (w : What) (rest : History) → r.what ≡ w → IsOfChange t r w → changes_of (stack_after r w rest) ≡ changes_of rest
stack_changes t r (InsertKey k i) rest same is = absurd is
stack_changes t r (DeleteKey k i) rest same is = absurd is
stack_changes t r (UndoInsert k i) rest same is = absurd is
stack_changes t r (UndoDelete k i) rest same is = absurd is
stack_changes t r (Smo was now) rest same is = ap (λ (v : What). change_of v ++ changes_of rest) same
stack_changes t r (UndoSmo now) rest same is = absurd is
stack_changes t r DummyClr rest same is = changes_without rest
stack_changes t r Commit rest same is = absurd is
stack_changes t r End rest same is = absurd is
stack_changes t r (Image c) rest same is = refl
stack_changes t r (Checkpoint n a dirty) rest same is = absurd is
stack_changes t r Unreadable rest same is = absurd is

more_nets : (t u : ℕ) (more older : History) → AllOf (λ (r : Logged). IsOfChange t r r.what) more → net u (more ++ older) ≡ net u older
more_nets t u [] older all = refl
more_nets t u (r ∷ more) older all = elim (cases_eq r.txn u) [
  | inl here ↦
      ap changes_of (cond-true (r.txn == u) (stack_after r r.what (to_undo u (more ++ older))) (to_undo u (more ++ older)) (eq-eqb r.txn u here))
      ∙ stack_changes t r r.what (to_undo u (more ++ older)) refl all.0 ∙ more_nets t u more older all.1
  | inr other ↦
      ap changes_of (cond-false (r.txn == u) (stack_after r r.what (to_undo u (more ++ older))) (to_undo u (more ++ older)) (ne_eqb r.txn u other))
      ∙ more_nets t u more older all.1
]

pub change_nets : (t u : ℕ) (older longer : History) → GrowsByChange t older longer → net u longer ≡ net u older
change_nets t u older longer grows = ap (net u) grows.is ∙ more_nets t u grows.more older grows.all
