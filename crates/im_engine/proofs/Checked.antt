-- What the checks of a step by the table leave of it.
use Rattle.std.proofs.Common.{◌≡◌, ◌⊎◌, inl, inr, ℕ, Bool, true, false, not, List, Option, None, Some, refl, sym, ap, ◌∙◌}
use Rattle.std.specs.Prelude.{find}
use Rattle.im_base_types.specs.Refusals.{key_length, unfinished}
use Rattle.im_base_types.specs.Answers.{Access, Do, Commit, Rollback}
use Rattle.im_base_txn.specs.declared.transaction.Mark.{Mark}
use Rattle.im_base_txn.specs.declared.transaction.Mark.TheVariants.{Going, MustRollBack, RollingBack, Returning, Committing}
use Rattle.im_base_txn.specs.declared.transaction.Transaction.{Transaction}
use Rattle.im_base_txn.specs.Rows.{is_of, is_committing, waits_at}
use Rattle.im_theory_machine.specs.Machine.{keys_fit, barred_to, barred_to_rollback, or_else, fault_if}
use Rattle.im_theory_steps.specs.Checks.{mark_at, checked_by}

-- the row of a step's transaction
pub record IsGoing (rows : List Transaction) (t : ℕ) : Type 0 where
  pub row : Transaction
  pub found : find (is_of t) rows ≡ Some row
  pub mark : row.mark ≡ Going

fits_by : (b : Bool) → fault_if (not b) key_length ≡ None → b ≡ true
fits_by true is = refl
fits_by false is = absurd (cc is)

going_by : (m : Mark) (row : Transaction) → row.mark ≡ m → barred_to (mark_at (Some row)) ≡ None → row.mark ≡ Going
going_by Going row is none = is
going_by MustRollBack row is none = absurd (let never = sym (ap (λ (x : Mark). barred_to (mark_at (Some (record row { mark = x })))) is) ∙ none in cc never)
going_by RollingBack row is none = absurd (let never = sym (ap (λ (x : Mark). barred_to (mark_at (Some (record row { mark = x })))) is) ∙ none in cc never)
going_by (Returning n) row is none = absurd (let never = sym (ap (λ (x : Mark). barred_to (mark_at (Some (record row { mark = x })))) is) ∙ none in cc never)
going_by Committing row is none = absurd (let never = sym (ap (λ (x : Mark). barred_to (mark_at (Some (record row { mark = x })))) is) ∙ none in cc never)

going_of : (rows : List Transaction) (t : ℕ) (o : Option Transaction) → find (is_of t) rows ≡ o → barred_to (mark_at o) ≡ None → IsGoing rows t
going_of rows t None is none = absurd (cc none)
going_of rows t (Some row) is none = record { row = row; found = is; mark = going_by row.mark row refl none }

first_of : (a b : Option ℕ) → or_else a b ≡ None → a ≡ None
first_of None b is = refl
first_of (Some n) b is = absurd (cc is)

second_of : (a b : Option ℕ) → or_else a b ≡ None → b ≡ None
second_of None b is = is
second_of (Some n) b is = absurd (cc is)

-- of an access
pub access_going : (rows : List Transaction) (owns : Bool) (t : ℕ) (a : Access) → checked_by rows owns (Do t a) ≡ None → IsGoing rows t
access_going rows owns t a is = going_of rows t (find (is_of t) rows) refl (first_of (barred_to (mark_at (find (is_of t) rows))) (or_else (fault_if owns unfinished) (fault_if (not (keys_fit a)) key_length)) is)

pub access_fits : (rows : List Transaction) (owns : Bool) (t : ℕ) (a : Access) → checked_by rows owns (Do t a) ≡ None → keys_fit a ≡ true
access_fits rows owns t a is =
    fits_by (keys_fit a) (second_of (fault_if owns unfinished) (fault_if (not (keys_fit a)) key_length) (second_of (barred_to (mark_at (find (is_of t) rows))) (or_else (fault_if owns unfinished) (fault_if (not (keys_fit a)) key_length)) is))

unowned_by : (b : Bool) → fault_if b unfinished ≡ None → b ≡ false
unowned_by true is = absurd (cc is)
unowned_by false is = refl

-- its transaction has no Insert or Delete that goes on
pub access_unowned : (rows : List Transaction) {owns : Bool} (t : ℕ) (a : Access) → checked_by rows owns (Do t a) ≡ None → owns ≡ false
access_unowned rows {owns = owns} t a is =
    unowned_by owns (first_of (fault_if owns unfinished) (fault_if (not (keys_fit a)) key_length) (second_of (barred_to (mark_at (find (is_of t) rows))) (or_else (fault_if owns unfinished) (fault_if (not (keys_fit a)) key_length)) is))

pub commit_unowned : (rows : List Transaction) {owns : Bool} (t : ℕ) → checked_by rows owns (Commit t) ≡ None → owns ≡ false
commit_unowned rows {owns = owns} t is = unowned_by owns (second_of (barred_to (mark_at (find (is_of t) rows))) (fault_if owns unfinished) is)

pub back_unowned : (rows : List Transaction) {owns : Bool} (t : ℕ) → checked_by rows owns (Rollback t) ≡ None → owns ≡ false
back_unowned rows {owns = owns} t is = unowned_by owns (second_of (barred_to_rollback (mark_at (find (is_of t) rows))) (fault_if owns unfinished) is)

-- of a Commit
pub commit_going : (rows : List Transaction) (owns : Bool) (t : ℕ) → checked_by rows owns (Commit t) ≡ None → IsGoing rows t
commit_going rows owns t is = going_of rows t (find (is_of t) rows) refl (first_of (barred_to (mark_at (find (is_of t) rows))) (fault_if owns unfinished) is)

-- the row that was found is that row
pub commit_mark : (rows : List Transaction) (owns : Bool) (t : ℕ) (row : Transaction) → find (is_of t) rows ≡ Some row → checked_by rows owns (Commit t) ≡ None → row.mark ≡ Going
commit_mark rows owns t row found is = going_by row.mark row refl (sym (ap (λ (o : Option Transaction). barred_to (mark_at o)) found) ∙ first_of (barred_to (mark_at (find (is_of t) rows))) (fault_if owns unfinished) is)

pub commit_found : (rows : List Transaction) (owns : Bool) (t : ℕ) → find (is_of t) rows ≡ None → checked_by rows owns (Commit t) ≡ None → ⊥
commit_found rows owns t none is = let never = sym (ap (λ (o : Option Transaction). barred_to (mark_at o)) none) ∙ first_of (barred_to (mark_at (find (is_of t) rows))) (fault_if owns unfinished) is in cc never

-- and of a Rollback
back_by : (m : Mark) (row : Transaction) → row.mark ≡ m → barred_to_rollback (mark_at (Some row)) ≡ None → (row.mark ≡ Going) ⊎ (row.mark ≡ MustRollBack)
back_by Going row is none = inl is
back_by MustRollBack row is none = inr is
back_by RollingBack row is none = absurd (let never = sym (ap (λ (x : Mark). barred_to_rollback (mark_at (Some (record row { mark = x })))) is) ∙ none in cc never)
back_by (Returning n) row is none = absurd (let never = sym (ap (λ (x : Mark). barred_to_rollback (mark_at (Some (record row { mark = x })))) is) ∙ none in cc never)
back_by Committing row is none = absurd (let never = sym (ap (λ (x : Mark). barred_to_rollback (mark_at (Some (record row { mark = x })))) is) ∙ none in cc never)

pub back_mark : (rows : List Transaction) (owns : Bool) (t : ℕ) (row : Transaction) → find (is_of t) rows ≡ Some row → checked_by rows owns (Rollback t) ≡ None → (row.mark ≡ Going) ⊎ (row.mark ≡ MustRollBack)
back_mark rows owns t row found is = back_by row.mark row refl (sym (ap (λ (o : Option Transaction). barred_to_rollback (mark_at o)) found) ∙ first_of (barred_to_rollback (mark_at (find (is_of t) rows))) (fault_if owns unfinished) is)

pub back_found : (rows : List Transaction) (owns : Bool) (t : ℕ) → find (is_of t) rows ≡ None → checked_by rows owns (Rollback t) ≡ None → ⊥
back_found rows owns t none is = let never = sym (ap (λ (o : Option Transaction). barred_to_rollback (mark_at o)) none) ∙ first_of (barred_to_rollback (mark_at (find (is_of t) rows))) (fault_if owns unfinished) is in cc never

-- so it does not wait for a force
pub either_done : (m : Mark) → (m ≡ Going) ⊎ (m ≡ MustRollBack) → is_committing m ≡ false
either_done m (inl e) = ap is_committing e
either_done m (inr e) = ap is_committing e

pub access_free : (rows : List Transaction) (owns : Bool) (t : ℕ) (a : Access) → checked_by rows owns (Do t a) ≡ None → waits_at (find (is_of t) rows) ≡ false
access_free rows owns t a is = let g = access_going rows _ t a is in ap waits_at g.found ∙ ap is_committing g.mark
