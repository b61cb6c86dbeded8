-- What a transaction has left to undo, over a structure change in the log that is closed.
use Rattle.std.proofs.Common.{◌≡◌, ℕ, Bool, true, false, [], ◌∷◌, ◌++◌, inl, inr, refl, sym, ap, ◌∙◌, ◌==◌}
use Rattle.std.proofs.lemmas.Bool.{cases_eq, cond-true, cond-false, eq-eqb, ne_eqb}
use Rattle.im_base_types.specs.Records.{What, InsertKey, DeleteKey, UndoInsert, UndoDelete, Smo, UndoSmo, DummyClr, Commit, End, Image, Checkpoint, Unreadable, Logged}
use Rattle.im_theory_log.specs.Histories.{Base, History}
use Rattle.im_theory_log.specs.Transactions.{is_smo, last_of, undo_next_of, stack_after, to_undo, without_smo}
use Rattle.im_theory_log.proofs.OpenSmo.{part, smo_goes, split}
use Rattle.im_theory_tree.specs.Good.{AllOf}
use Rattle.im_theory_tree.specs.Theory.{page_tree}
use Rattle.im_restart_analysis.specs.Losers.{row_of}
use Rattle.im_restart_analysis.specs.Undo.{IsUndoable}
use Rattle.im_smo_log.specs.Changes.{IsOfChange, GrowsByChange}

-- ---- stacks

pub twice_step : (s : Logged) (rest : History) (u : Bool) → is_smo s.what ≡ u → without_smo (without_smo rest) ≡ without_smo rest → without_smo (without_smo (s ∷ rest)) ≡ without_smo (s ∷ rest)
twice_step s rest true is so =
    ap without_smo (cond-true (is_smo s.what) (without_smo rest) (s ∷ rest) is) ∙ so ∙ sym (cond-true (is_smo s.what) (without_smo rest) (s ∷ rest) is)
twice_step s rest false is so = ap without_smo (cond-false (is_smo s.what) (without_smo rest) (s ∷ rest) is)

pub twice : (stack : History) → without_smo (without_smo stack) ≡ without_smo stack
twice [] = refl
twice (s ∷ rest) = twice_step s rest (is_smo s.what) refl (twice rest)

-- but for Smo records on top, a record of a structure change leaves the stack as it is
stack_without : (t : ℕ) (r : Logged) (w : What) (rest : History) → r.what ≡ w → IsOfChange t r w → without_smo (stack_after r w rest) ≡ without_smo rest
stack_without t r (Smo was now) rest same is = cond-true (is_smo r.what) (without_smo rest) (r ∷ rest) (ap is_smo same)
stack_without t r DummyClr rest same is = twice rest
stack_without t r (Image c) rest same is = refl
stack_without t r (InsertKey k i) rest same is = absurd is
stack_without t r (DeleteKey k i) rest same is = absurd is
stack_without t r (UndoInsert k i) rest same is = absurd is
stack_without t r (UndoDelete k i) rest same is = absurd is
stack_without t r (UndoSmo now) rest same is = absurd is
stack_without t r Commit rest same is = absurd is
stack_without t r End rest same is = absurd is
stack_without t r (Checkpoint n a dirty) rest same is = absurd is
stack_without t r Unreadable rest same is = absurd is

more_stacks : (t u : ℕ) (more older : History) → AllOf (λ (r : Logged). IsOfChange t r r.what) more → without_smo (to_undo u (more ++ older)) ≡ without_smo (to_undo u older)
more_stacks t u [] older all = refl
more_stacks t u (r ∷ more) older all = elim (cases_eq r.txn u) [
  | inl here ↦
      ap without_smo (cond-true (r.txn == u) (stack_after r r.what (to_undo u (more ++ older))) (to_undo u (more ++ older)) (eq-eqb r.txn u here))
      ∙ stack_without t r r.what (to_undo u (more ++ older)) refl all.0 ∙ more_stacks t u more older all.1
  | inr other ↦
      ap without_smo (cond-false (r.txn == u) (stack_after r r.what (to_undo u (more ++ older))) (to_undo u (more ++ older)) (ne_eqb r.txn u other))
      ∙ more_stacks t u more older all.1
]

-- where no structure change is open, no Smo record is on top
plain_stack : (b : Base) (log : History) (u : ℕ) → IsUndoable b page_tree log → without_smo (to_undo u log) ≡ to_undo u log
plain_stack b log u can =
    let s = split b page_tree log u can.lawful in
    let whole : to_undo u log ≡ s.bottom = s.is ∙ ap (λ (going : History). part u going ++ s.bottom) can.closed in
    ap without_smo whole ∙ smo_goes [] s.bottom tt s.plain ∙ sym whole

-- so a structure change that is closed leaves what each transaction has left to undo
pub same_stack : (b : Base) (t u : ℕ) (older longer : History) → IsUndoable b page_tree older → IsUndoable b page_tree longer → GrowsByChange t older longer → to_undo u longer ≡ to_undo u older
same_stack b t u older longer was now grows =
    sym (plain_stack b longer u now) ∙ ap (λ (l : History). without_smo (to_undo u l)) grows.is ∙ more_stacks t u grows.more older grows.all ∙ plain_stack b older u was

-- ---- rows

pub row_is : (t last undo_next : ℕ) (log : History) → last_of t log ≡ last → undo_next_of t log ≡ undo_next → row_of t log ≡ record { last = last; undo_next = undo_next }
row_is t last undo_next log one two =
    ap (λ (l : ℕ). record { last = l; undo_next = undo_next_of t log }) one ∙ ap (λ (n : ℕ). record { last = last; undo_next = n }) two
