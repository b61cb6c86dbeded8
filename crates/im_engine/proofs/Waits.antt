-- Who waits for a force: by the machine's queue, and by the rows of the table.
use Rattle.std.proofs.Common.{◌≡◌, ◌+◌, ℕ, Bool, true, false, List, [], ◌∷◌, length, Option, None, Some, refl, sym, ap, ◌∙◌, arith}
use Rattle.std.specs.Prelude.{find}
use Rattle.std.specs.FinMap.{empty}
use Rattle.im_base_types.specs.Answers as answers
use Rattle.im_base_types.specs.Changes.{Effect, apply_all}
use Rattle.im_base_types.specs.Lives.{Shown}
use Rattle.im_theory_log.specs.Histories.{Base, History}
use Rattle.im_base_txn.specs.declared.transaction.Mark.{Mark}
use Rattle.im_base_txn.specs.declared.transaction.Mark.TheVariants.{Going, MustRollBack, RollingBack, Returning, Committing}
use Rattle.im_base_txn.specs.declared.transaction.Transaction.{Transaction}
use Rattle.im_base_txn.specs.Rows.{AreRising, is_of, is_committing, waits_at, waiting_in, waiting_numbers, without_waiting}
use Rattle.im_theory_machine.specs.Table.{Table, AreReleased}
use Rattle.im_theory_machine.specs.View.{View, Txn, is_among}
use Rattle.im_theory_machine.proofs.Cited.{queue_marks, IsQueue}
use Rattle.im_theory_steps.specs.Steps.{without_all}
use Rattle.im_theory_steps.specs.Serving.{IsAt, IsServing, mark_of}
use Rattle.im_theory_steps.proofs.Waiting.{queue_rows, queue_count, queue_long, queue_numbers, released_queue}

same_tests : (a b : Bool) → (a ≡ true → b ≡ true) → (b ≡ true → a ≡ true) → a ≡ b
same_tests true b there back = sym (there refl)
same_tests false true there back = back refl
same_tests false false there back = refl

waits_by : (m : Mark) → mark_of m ≡ answers.Committing → is_committing m ≡ true
waits_by Committing e = refl
waits_by Going e = absurd (cc e)
waits_by MustRollBack e = absurd (cc e)
waits_by RollingBack e = absurd (cc e)
waits_by (Returning n) e = absurd (cc e)

marked_by : (m : Mark) → is_committing m ≡ true → mark_of m ≡ answers.Committing
marked_by Committing e = refl
marked_by Going e = absurd (cc e)
marked_by MustRollBack e = absurd (cc e)
marked_by RollingBack e = absurd (cc e)
marked_by (Returning n) e = absurd (cc e)

-- a row that is found says whether it waits
waits_so : (t next : ℕ) (log : History) (o : Option Transaction) (x : Txn) → IsAt t o next log x → x.mark ≡ answers.Committing → waits_at o ≡ true
waits_so t next log None x is waits = absurd (let never : answers.Idle ≡ answers.Committing = sym (ap (λ (y : Txn). y.mark) is.2) ∙ waits in cc never)
waits_so t next log (Some row) x is waits = waits_by row.mark (sym is.2 ∙ waits)

marked_so : (t next : ℕ) (log : History) (o : Option Transaction) (x : Txn) → IsAt t o next log x → waits_at o ≡ true → x.mark ≡ answers.Committing
marked_so t next log None x is waits = absurd (cc waits)
marked_so t next log (Some row) x is waits = is.2 ∙ marked_by row.mark waits

none_of : (queue : List ℕ) → length queue ≡ 0 → queue ≡ []
none_of [] e = refl
none_of (t ∷ ts) e = absurd (omega arith)

-- a mark that is none of those that wait
pub not_waiting : (rows : List Transaction) (t : ℕ) (row : Transaction) → find (is_of t) rows ≡ Some row → is_committing row.mark ≡ false → waits_at (find (is_of t) rows) ≡ false
not_waiting rows t row found free = ap waits_at found ∙ free

module _ (b : Base) (earlier before : List Effect) (s : Shown) (v : View) (log : History) (rows : List Transaction) (next : ℕ) (held : Table) (h : IsServing b earlier before s v log rows next held) where
  queue_is : IsQueue v.queue v.txns
  queue_is = queue_marks (apply_all empty before) v h.reached

  tells : (t : ℕ) → is_among t v.queue ≡ waits_at (find (is_of t) rows)
  tells t = same_tests (is_among t v.queue) (waits_at (find (is_of t) rows)) (λ some. waits_so t next log (find (is_of t) rows) (v.txns t) (h.table.each t) (queue_is.waits t some))
      (λ waits. queue_is.all t (marked_so t next log (find (is_of t) rows) (v.txns t) (h.table.each t) waits))

  -- one that does not wait by its row is not in the queue
  pub out_of : (t : ℕ) → waits_at (find (is_of t) rows) ≡ false → is_among t v.queue ≡ false
  out_of t none = tells t ∙ none

  module _ (rising : AreRising rows) where
    -- where no row waits nobody does
    pub nobody : waiting_in rows ≡ 0 → v.queue ≡ []
    nobody none = none_of v.queue (sym (queue_long v.queue rows rising queue_is.each tells) ∙ none)

    -- without those of the queue
    pub left_rows : without_waiting rows ≡ without_all v.queue rows
    left_rows = queue_rows v.queue rows rising queue_is.each tells

    pub left_count : length rows ≡ length (without_all v.queue rows) + length v.queue
    left_count = queue_count v.queue rows rising queue_is.each tells

    pub left_locks : (new : Table) → AreReleased held (λ t. is_among t (waiting_numbers rows)) new → AreReleased held (λ t. is_among t v.queue) new
    left_locks new released = released_queue held new v.queue (waiting_numbers rows) (queue_numbers v.queue rows rising queue_is.each tells) released
