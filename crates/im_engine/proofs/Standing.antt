-- How many changes of a transaction stand.
use Rattle.std.proofs.Common.{◌≡◌, inl, inr, ℕ, List, Bool, false, Some, Ok, Err, sym, ap, ◌∙◌, length}
use Rattle.std.specs.Prelude.{find, if◌then◌else◌}
use Rattle.im_base_types.specs.Answers as answers
use Rattle.im_base_types.specs.Changes.{Effect}
use Rattle.im_base_types.specs.Lives.{Shown}
use Rattle.im_base_types.specs.declared.fault.Fault.TheVariants.{NoTransaction}
use Rattle.im_base_txn.specs.declared.transaction.Mark.{Mark}
use Rattle.im_base_txn.specs.declared.transaction.Mark.TheVariants.{Going, MustRollBack, RollingBack, Returning, Committing}
use Rattle.im_base_txn.specs.declared.transaction.Transaction.{Transaction}
use Rattle.im_base_txn.specs.Rows.{is_committing, is_of, is_waiting}
use Rattle.im_base_disk.specs.declared.disk.Disk.{Ghosts}
use Rattle.im_theory_machine.specs.View.{View, is_among}
use Rattle.im_theory_machine.proofs.Cited.{cases_test, queue_marks}
use Rattle.im_theory_steps.specs.Serving.{mark_of}
use Rattle.im_theory_steps.proofs.Cited.{at, counted_at}
use Rattle.im_engine.specs.declared.engine.Engine.{Engine}
use Rattle.im_engine.specs.Looking.{Counts, standing}
use Rattle.im_engine.specs.Running.{IsLife}
use Rattle.im_engine.proofs.Looked.{not_true}

not_waiting : (m : Mark) → is_committing m ≡ false → mark_of m ≡ answers.Committing → ⊥
not_waiting Going free is = cc is
not_waiting MustRollBack free is = cc is
not_waiting RollingBack free is = cc is
not_waiting (Returning n) free is = cc is
not_waiting Committing free is = cc free

module _ {D : Type 0} (d : Ghosts D) (t : ℕ) (e : Engine D d) where
  -- a row that does not wait counts the net of its transaction
  stands_so : e.failed ≡ false → (row : Transaction) → find (is_of t) e.txns.rows ≡ Some row → is_waiting row ≡ false → (before : List Effect) (s : Shown) (v : View) → IsLife d before s v e → row.changes ≡ length ((v.txns t).net)
  stands_so works row found free before s v life =
      let run = life.running works in
      let r = run.1 in
      let is = at run.0 r.earlier before s v r.now.log e.txns.rows e.txns.next e.locks r.serving t row found (λ waits. not_true (is_waiting row) free (ap is_committing waits)) in
      let new : is_among t v.queue ≡ false = elim (cases_test (is_among t v.queue)) [
        | inl some ↦ absurd (not_waiting row.mark free (sym is.2 ∙ (queue_marks _ v r.serving.reached).waits t some))
        | inr none ↦ none
      ] in
      counted_at t e.txns.next r.now.log row is.0 is.1 ∙ ap (λ (net : Effect). length net) (sym (r.serving.seen_by.nets t new))

  module _ (works : e.failed ≡ false) (row : Transaction) (found : find (is_of t) e.txns.rows ≡ Some row) where
    pub counts_row : is_waiting row ≡ false → Counts d t e (Ok row.changes)
    counts_row free = record {
      failed = λ was. absurd (not_true e.failed works was);
      works = λ _. sym (ap standing found ∙ ap (λ (b : Bool). if b then Err NoTransaction else Ok row.changes) free);
      net = stands_so works row found free;
    }
