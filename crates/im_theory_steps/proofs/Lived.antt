-- The checks of a step by the table, and lives of an engine that has failed.
use Rattle.std.proofs.Common.{◌≡◌, ℕ, Bool, true, false, Option, None, Some, length, refl, sym, ap, ◌∙◌, subst, inl}
use Rattle.std.specs.Prelude.{find, ◌||◌}
use Rattle.im_base_types.specs.Maps.{IndexMap}
use Rattle.im_theory_log.specs.Histories.{History}
use Rattle.im_base_types.specs.Answers.{Mark, Step, Reply, Begin, Do, Commit, Rollback, Continue, RollTo, FlushPage, Force, Checkpoint, Switch, Refused}
use Rattle.im_base_types.specs.Refusals.{capacity, failed as has_failed}
use Rattle.im_base_types.specs.Lives.{Shown}
use Rattle.im_base_txn.specs.declared.transaction.Transaction.{Transaction}
use Rattle.im_base_txn.specs.Rows.{is_of}
use Rattle.im_theory_machine.specs.View.{View, owns_in, Txn, broken}
use Rattle.im_theory_machine.specs.Machine.{Moves, Answers, breaks, barred, first_check, mark_for, fault_if}
use Rattle.im_theory_steps.specs.Serving.{IsAt}
use Rattle.im_theory_steps.specs.Checks.{mark_at, marks_in, RowsTellChecks}
use Rattle.im_theory_steps.specs.Lived.{IsLived, IsLivedOn, LivesGoOn}
use Rattle.im_theory_steps.proofs.Acknowledged.{step_shows}
use Rattle.im_theory_steps.proofs.Promises.{moves_reach}
use Rattle.im_theory_steps.proofs.Steps.{moves_by}

-- ---- checks

found_mark : (t next : ℕ) (log : History) (o : Option Transaction) (x : Txn) → IsAt t o next log x → x.mark ≡ mark_at o
found_mark t next log None x is = ap (λ (y : Txn). y.mark) is.2
found_mark t next log (Some row) x is = is.2

-- the mark of the transaction that a step names
named_mark : (one two : ℕ → Mark) → ((t : ℕ) → one t ≡ two t) → (step : Step) → mark_for one step ≡ mark_for two step
named_mark one two same Begin = refl
named_mark one two same (Do t a) = same t
named_mark one two same (Commit t) = same t
named_mark one two same (Rollback t) = same t
named_mark one two same (Continue t) = same t
named_mark one two same (RollTo t n) = same t
named_mark one two same (FlushPage p) = refl
named_mark one two same Force = refl
named_mark one two same Checkpoint = refl
named_mark one two same Switch = refl

pub rows_tell : RowsTellChecks
rows_tell b earlier before s v log rows next held step h =
    ap (λ (failed : Bool). first_check failed v.active (mark_for (λ t. (v.txns t).mark) step) (owns_in v.under step) step) h.works
    ∙ ap (λ (n : ℕ). first_check false n (mark_for (λ t. (v.txns t).mark) step) (owns_in v.under step) step) h.table.active
    ∙ ap (λ (m : Mark). first_check false (length rows) m (owns_in v.under step) step) (named_mark (λ t. (v.txns t).mark) (marks_in rows) (λ t. found_mark t next log (find (is_of t) rows) (v.txns t) (h.table.each t)) step)

-- ---- lives

lived_on : (base : IndexMap) (s : Shown) (v w : View) (step : Step) (reply : Reply) → IsLived base s v → Moves v step reply w → IsLivedOn base s v step reply w
lived_on base s v w step reply life moves = (moves, record { shows = step_shows base s v life.shows life.reached step reply w moves; reached = moves_reach base v w step reply life.reached moves })

-- a failed engine refuses each step
first_failed : (v : View) (step : Step) → v.failed ≡ true → barred v step ≡ Some has_failed
first_failed v step failed = ap (λ (b : Bool). first_check b v.active (mark_for (λ t. (v.txns t).mark) step) (owns_in v.under step) step) failed ∙ by step
  where
    by : (x : Step) → first_check true v.active (mark_for (λ t. (v.txns t).mark) x) (owns_in v.under x) x ≡ Some has_failed
    by Begin = refl
    by (Do t a) = refl
    by (Commit t) = refl
    by (Rollback t) = refl
    by (Continue t) = refl
    by (RollTo t n) = refl
    by (FlushPage p) = refl
    by Force = refl
    by Checkpoint = refl
    by Switch = refl

pub lives_go_on : LivesGoOn
lives_go_on = record {
  serves = λ b earlier before s v log rows next held h. record { shows = h.shows; reached = h.reached };
  breaks = λ base s v step fault ls life checked is. lived_on base s v (broken v ls) step (Refused fault) life (moves_by v (broken v ls) step (Refused fault) checked (breaks fault ls is refl refl));
  refuses = λ base s v step life failed. lived_on base s v v step (Refused has_failed) life (subst (λ (o : Option ℕ). Answers v step (Refused has_failed) v o) (sym (first_failed v step failed)) (refl, refl));
  looks = λ base s v ls life works.
      let moves = moves_by v (broken v ls) Force (Refused capacity) (ap (λ (x : Bool). fault_if x has_failed) works) (breaks capacity ls (inl refl) refl refl) in
      let on = lived_on base s v (broken v ls) Force (Refused capacity) life moves in
      subst (λ (f : Bool). IsLived base (record s { failed = f }) (broken v ls)) (by s.failed) on.1;
}
  where
    by : (b : Bool) → (b || true) ≡ true
    by true = refl
    by false = refl
