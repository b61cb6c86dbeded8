-- Numbers of rows that are above another, and one row of a table that is changed.
use Rattle.std.proofs.Common.{inl, inr, ◌≡◌, ◌≤◌, ◌<◌, ℕ, Bool, true, false, not, List, [], ◌∷◌, ◌++◌, Option, Some, None, IfSome, IfNone, map, refl, sym, ap, subst, ◌∙◌, arith, ltb-false, ltb-true}
use Rattle.std.specs.Prelude.{find, ◌==◌, if◌then◌else◌}
use Rattle.im_theory_steps.specs.Steps.{with_made}
use Rattle.im_engine.specs.Numbered.{Numbered, has_returned, is_within, on_again}
use Rattle.im_base_txn.specs.declared.transaction.Mark.{Mark}
use Rattle.im_base_txn.specs.declared.transaction.Mark.TheVariants.{Going, MustRollBack, RollingBack, Returning, Committing}
use Rattle.im_base_txn.specs.declared.transaction.Transaction.{Transaction}
use Rattle.std.proofs.lemmas.Bool.{cases_eq, cond-false, cond-true, eq-eqb, ne_eqb, not-false, not-true}
use Rattle.im_base_txn.specs.Rows.{AreAbove, AreRising, begun, changed, is_of, with_changes, with_mark, with_record}
use Rattle.im_base_txn.specs.LookUps.{Keeps, without}
use Rattle.im_base_txn.proofs.LookUps.{found_here, found_later, look_ups_follow}

pub above_begun : (n number : ℕ) (rows : List Transaction) → n < number → AreAbove n rows → AreAbove n (rows ++ begun number ∷ [])
above_begun n number [] le are = (le, tt)
above_begun n number (row ∷ rows) le are = (are.0, above_begun n number rows le are.1)

pub above_changed : (n number : ℕ) (f : Transaction → Transaction) → Keeps f → (rows : List Transaction) → AreAbove n rows → AreAbove n (map (changed number f) rows)
above_changed n number f keeps [] are = tt
above_changed n number f keeps (row ∷ rows) are = (subst (λ (m : ℕ). n < m) (sym (by (row.number == number))) are.0, above_changed n number f keeps rows are.1)
  where
    by : (b : Bool) → (if b then f row else row).number ≡ row.number
    by true = keeps row
    by false = refl

pub above_without : (n number : ℕ) (rows : List Transaction) → AreAbove n rows → AreAbove n (without number rows)
above_without n number [] are = tt
above_without n number (row ∷ rows) are = by (not (is_of number row)) refl (above_without n number rows are.1)
  where
    by : (b : Bool) → not (is_of number row) ≡ b → AreAbove n (without number rows) → AreAbove n (without number (row ∷ rows))
    by true is more = subst (λ (x : Bool). AreAbove n (if x then row ∷ without number rows else without number rows)) (sym is) (are.0, more)
    by false is more = subst (λ (x : Bool). AreAbove n (if x then row ∷ without number rows else without number rows)) (sym is) more

found_number : (number : ℕ) (rows : List Transaction) (o : Option Transaction) → find (is_of number) rows ≡ o → (row : Transaction) → o ≡ Some row → row.number ≡ number
found_number number rows o is row some = look_ups_follow.found number rows row (is ∙ some)

pub found_above : (n number : ℕ) (rows : List Transaction) → AreAbove n rows → (o : Option Transaction) → find (is_of number) rows ≡ o → (row : Transaction) → o ≡ Some row → row.number ≡ number → n < row.number
found_above n number [] are o is row some same = absurd (let never = is ∙ some in cc never)
found_above n number (row ∷ rows) are o is found some same = by (is_of number row) refl (λ found_there. found_above n number rows are.1 o found_there found some same)
  where
    by : (b : Bool) → is_of number row ≡ b → (find (is_of number) rows ≡ o → n < found.number) → n < found.number
    by true here more =
        let first : Some row ≡ Some found = sym (ap (λ (x : Bool). if x then Some row else find (is_of number) rows) here) ∙ is ∙ some in
        let it : row ≡ found = cc first in
        subst (λ (r : Transaction). n < r.number) it are.0
    by false here more = more (sym (ap (λ (x : Bool). if x then Some row else find (is_of number) rows) here) ∙ is)

-- a number that is found is owned
pub owned_by : (number : ℕ) (rows : List Transaction) → AreAbove 0 rows → (o : Option Transaction) → o ≡ find (is_of number) rows → IfSome o (λ row. 1 ≤ number)
owned_by number rows are None is = tt
owned_by number rows are (Some row) is =
    let same = found_number number rows (Some row) (sym is) row refl in
    let above = found_above 0 number rows are (Some row) (sym is) row refl same in
    omega (arith, above, same)

-- ---- one row is changed

-- above a number nothing is of it
set_above : (n : ℕ) (f : Transaction → Transaction) (rows : List Transaction) → AreAbove n rows → map (changed n f) rows ≡ rows
set_above n f [] are = refl
set_above n f (row ∷ rows) are =
    let l : n < row.number = are.0 in
    (λ i. cond-false (row.number == n) (f row) row (ne_eqb row.number n (λ e. absurd (omega (arith, l, e)))) i ∷ set_above n f rows are.1 i)

-- where there is none of this number all stay
pub none_set : (n : ℕ) (f : Transaction → Transaction) (rows : List Transaction) → find (is_of n) rows ≡ None → map (changed n f) rows ≡ rows
none_set n f [] none = refl
none_set n f (row ∷ rows) none = elim (cases_eq row.number n) [
  | inl is ↦ (let never : Some row ≡ None = sym (found_here n row rows is) ∙ none in absurd cc)
  | inr other ↦ (λ i. cond-false (row.number == n) (f row) row (ne_eqb row.number n other) i ∷ none_set n f rows (sym (found_later n row rows other) ∙ none) i)
]

-- and else it is the row that is found
pub found_set : (n : ℕ) (f g : Transaction → Transaction) (rows : List Transaction) → AreRising rows → (row : Transaction) → find (is_of n) rows ≡ Some row → f row ≡ g row → map (changed n f) rows ≡ map (changed n g) rows
found_set n f g [] rising row found same = refl
found_set n f g (first ∷ rows) rising row found same = elim (cases_eq first.number n) [
  | inl is ↦
      (let one : Some first ≡ Some row = sym (found_here n first rows is) ∙ found in
      let it : first ≡ row = cc one in
      let above : AreAbove n rows = subst (λ (k : ℕ). AreAbove k rows) is rising.0 in
      let head : changed n f first ≡ changed n g first =
      cond-true (first.number == n) (f first) first (eq-eqb first.number n is) ∙ ap f it ∙ same ∙ sym (ap g it) ∙ sym (cond-true (first.number == n) (g first) first (eq-eqb first.number n is)) in
      (λ i. head i ∷ (set_above n f rows above ∙ sym (set_above n g rows above)) i))
  | inr other ↦
      (λ i. (cond-false (first.number == n) (f first) first (ne_eqb first.number n other) ∙ sym (cond-false (first.number == n) (g first) first (ne_eqb first.number n other))) i
      ∷ found_set n f g rows rising.1 row (sym (found_later n first rows other) ∙ found) same i)
]

-- so a count that is right for the row that is found is right for all
pub set_changes : (n last undo_next count : ℕ) (g : Transaction → Transaction) (h : Transaction → ℕ) → ((row : Transaction) → with_changes last undo_next (h row) row ≡ g row) → (rows : List Transaction) → AreRising rows → (o : Option Transaction) → o ≡ find (is_of n) rows → IfSome o (λ row. count ≡ h row)
    → map (changed n (with_changes last undo_next count)) rows ≡ map (changed n g) rows
set_changes n last undo_next count g h is rows rising None found counts = none_set n (with_changes last undo_next count) rows (sym found) ∙ sym (none_set n g rows (sym found))
set_changes n last undo_next count g h is rows rising (Some row) found counts = found_set n (with_changes last undo_next count) g rows rising row (sym found) (ap (λ (k : ℕ). with_changes last undo_next k row) counts ∙ is row)

-- ---- two changes of a row, one after the other

fused_one : (t : ℕ) (f g : Transaction → Transaction) → Keeps f → (row : Transaction) (c : Bool) → (row.number == t) ≡ c → changed t g (changed t f row) ≡ changed t (λ x. g (f x)) row
fused_one t f g keeps row true is =
    let here : changed t f row ≡ f row = ap (λ (x : Bool). if x then f row else row) is in
    ap (changed t g) here
    ∙ ap (λ (n : ℕ). if n == t then g (f row) else f row) (keeps row)
    ∙ ap (λ (x : Bool). if x then g (f row) else f row) is
    ∙ sym (ap (λ (x : Bool). if x then g (f row) else row) is)
fused_one t f g keeps row false is =
    let here : changed t f row ≡ row = ap (λ (x : Bool). if x then f row else row) is in
    ap (changed t g) here
    ∙ ap (λ (x : Bool). if x then g row else row) is
    ∙ sym (ap (λ (x : Bool). if x then g (f row) else row) is)

-- are one
pub fused : (t : ℕ) (f g : Transaction → Transaction) → Keeps f → (rows : List Transaction) → map (changed t g) (map (changed t f) rows) ≡ map (changed t (λ x. g (f x))) rows
fused t f g keeps [] = refl
fused t f g keeps (row ∷ rows) =
    ap (λ (x : Transaction). x ∷ map (changed t g) (map (changed t f) rows)) (fused_one t f g keeps row (row.number == t) refl)
    ∙ ap (λ (xs : List Transaction). changed t (λ x. g (f x)) row ∷ xs) (fused t f g keeps rows)

pub fused_in : (t : ℕ) (f g : Transaction → Transaction) → Keeps f → (old mid new : Numbered) → mid ≡ record old { rows = map (changed t f) old.rows } → new ≡ record mid { rows = map (changed t g) mid.rows } → new ≡ record old { rows = map (changed t (λ x. g (f x))) old.rows }
fused_in t f g keeps old mid new first second =
    second ∙ ap (λ (x : Numbered). record x { rows = map (changed t g) x.rows }) first ∙ ap (λ (rows : List Transaction). record old { rows = rows }) (fused t f g keeps old.rows)

-- a row after the record of a key at an LSN, and those of a structure change after it
abbrev pub with_taken : (last lsn : ℕ) → Transaction → Transaction
with_taken last lsn row = with_record last lsn (with_made lsn row)

-- ---- one that has returned goes on

-- nothing is changed
same_set : (n : ℕ) (rows : List Transaction) → map (changed n (λ x. x)) rows ≡ rows
same_set n [] = refl
same_set n (row ∷ rows) = λ i. by (row.number == n) i ∷ same_set n rows i
  where
    by : (b : Bool) → (if b then row else row) ≡ row
    by true = refl
    by false = refl

abbrev goes_again : Transaction → Transaction
goes_again row = if has_returned row then with_mark Going row else row

-- the rows then, where its row is found, and it has returned
pub again_on : (t : ℕ) (rows : List Transaction) → AreRising rows → (row : Transaction) → find (is_of t) rows ≡ Some row → has_returned row ≡ true → on_again t rows ≡ map (changed t (with_mark Going)) rows
again_on t rows rising row found is = found_set t goes_again (with_mark Going) rows rising row found (cond-true (has_returned row) (with_mark Going row) row is)

-- or has not
pub again_still : (t : ℕ) (rows : List Transaction) → AreRising rows → (row : Transaction) → find (is_of t) rows ≡ Some row → has_returned row ≡ false → on_again t rows ≡ rows
again_still t rows rising row found is = found_set t goes_again (λ x. x) rows rising row found (cond-false (has_returned row) (with_mark Going row) row is) ∙ same_set t rows

-- by what a test of the row says that is found, or not
pub again_if : (t : ℕ) (rows : List Transaction) → AreRising rows → (o : Option Transaction) → o ≡ find (is_of t) rows → (b : Bool) → IfSome o (λ row. b ≡ has_returned row) → IfNone o (b ≡ false)
    → (b ≡ true → on_again t rows ≡ map (changed t (with_mark Going)) rows) × (b ≡ false → on_again t rows ≡ rows)
again_if t rows rising None found b some none = ((λ is. absurd (let never : true ≡ false = sym is ∙ none in cc never)), λ is. none_set t goes_again rows (sym found))
again_if t rows rising (Some row) found b some none = ((λ is. again_on t rows rising row (sym found) (sym some ∙ is)), λ is. again_still t rows rising row (sym found) (sym some ∙ is))

-- of a row that is found, and was changed, a test of the row that is found then says what it is of the row as it was changed
pub said_of : (t : ℕ) (f : Transaction → Transaction) → Keeps f → (rows : List Transaction) (row : Transaction) → find (is_of t) rows ≡ Some row → (mid : List Transaction) → mid ≡ map (changed t f) rows → (b : Bool) → IfSome (find (is_of t) mid) (λ x. b ≡ has_returned x) → b ≡ has_returned (f row)
said_of t f keeps rows row found mid is b said =
    subst (λ (o : Option Transaction). IfSome o (λ x. b ≡ has_returned x)) (ap (find (is_of t)) is ∙ look_ups_follow.changed_own t f keeps rows row found) said

-- what that tells of the row
within_marks : (m : Mark) (changes : ℕ) → is_within m changes ≡ true → (n : ℕ) × (m ≡ Returning n) × (changes ≤ n)
within_marks (Returning n) changes is = (n, refl, ltb-false n changes (not-true _ is))
within_marks Going changes is = absurd (cc is)
within_marks MustRollBack changes is = absurd (cc is)
within_marks RollingBack changes is = absurd (cc is)
within_marks Committing changes is = absurd (cc is)

pub has_come_back : (row : Transaction) → has_returned row ≡ true → (n : ℕ) × (row.mark ≡ Returning n) × (row.changes ≤ n)
has_come_back row is = within_marks row.mark row.changes is

pub not_yet_back : (row : Transaction) → has_returned row ≡ false → (n : ℕ) → row.mark ≡ Returning n → n < row.changes
not_yet_back row is n mark = ltb-true n row.changes (not-false _ (sym (ap (λ (m : Mark). is_within m row.changes) mark) ∙ is))
