-- The queue of the machine, and the rows of those that wait for a force.
use Rattle.std.proofs.Common.{◌≡◌, ◌≢◌, ◌<◌, inl, inr, ℕ, ◌+◌, Bool, true, false, not, cond, List, [], ◌∷◌, ◌++◌, Option, None, Some, length, map, take, get_or, append-nil, refl, sym, ap, subst, ◌∙◌, arith}
use Rattle.std.specs.Prelude.{filter, find, ◌==◌, ◌||◌}
use Rattle.std.proofs.lemmas.Bool.{cases_eq, ne_eqb}
use Rattle.std.proofs.lemmas.List.{map-append}
use Rattle.std.proofs.lemmas.List.Elements.{filter_more}
use Rattle.im_base_txn.specs.declared.transaction.Transaction.{Transaction}
use Rattle.im_base_txn.specs.Rows.{AreAbove, AreRising, is_of, is_waiting, waits_at, waiting_in, waiting_numbers, without_waiting}
use Rattle.im_base_txn.specs.LookUps.{without}
use Rattle.im_base_txn.proofs.LookUps.{look_ups_follow, rising_left, found_here, found_later}
use Rattle.im_base_txn.proofs.Waiting.{AreTold, told_each, none_above, waiting_counts}
use Rattle.im_theory_machine.specs.Table.{Table, all_of, locks_of, IsReleased, AreReleased}
use Rattle.im_theory_machine.specs.View.{is_among, AreDifferent}
use Rattle.im_theory_machine.proofs.Cited.{cases_test, or_true, among_one, among_pushed, pushed_last, pushed_more}
use Rattle.im_theory_steps.specs.Steps.{without_all}

some_row : (o : Option Transaction) → o ≢ None → (row : Transaction) × (o ≡ Some row)
some_row None there = absurd (there refl)
some_row (Some row) there = (row, refl)

-- each of the queue has a row, so that as many rows are fewer
rows_count : (queue : List ℕ) (rows : List Transaction) → AreRising rows → AreDifferent queue → ((t : ℕ) → is_among t queue ≡ true → find (is_of t) rows ≢ None) → length rows ≡ length (without_all queue rows) + length queue
rows_count [] rows rising each found = omega arith
rows_count (t ∷ ts) rows rising each found =
    let row = some_row (find (is_of t) rows) (found t (among_one t t ts refl)) in
    let one : length rows ≡ length (without t rows) + 1 = look_ups_follow.ended_length t rows row.0 rising row.1 in
    let rest : length (without t rows) ≡ length (without_all ts (without t rows)) + length ts = rows_count ts (without t rows) (rising_left t rows rising) each.1 (λ s some none.
    let differ : s ≢ t = λ e. let here : is_among t ts ≡ true = subst (λ (n : ℕ). is_among n ts ≡ true) e some in let never : true ≡ false = sym here ∙ each.0 in cc never in
    found s (or_true (s == t) (is_among s ts) some) (sym (look_ups_follow.ended_other s t rows differ) ∙ none)) in
    omega (arith, one, rest)

keep_all : (rows : List Transaction) → rows ≡ filter (λ row. not (is_among row.number [])) rows
keep_all [] = refl
keep_all (r ∷ rs) = ap (λ (l : List Transaction). r ∷ l) (keep_all rs)

-- one row, by whether it is of t
one_row : (b among : Bool) (r : Transaction) (left both : List Transaction) (test : Transaction → Bool) → test r ≡ not among → filter test left ≡ both
    → filter test (cond (not b) (r ∷ left) left) ≡ cond (not (b || among)) (r ∷ both) both
one_row true among r left both test is rest = rest
one_row false among r left both test is rest = ap (λ (x : Bool). cond x (r ∷ filter test left) (filter test left)) is ∙ ap (λ (l : List Transaction). cond (not among) (r ∷ l) l) rest

twice : (t : ℕ) (ts : List ℕ) (rows : List Transaction) → filter (λ row. not (is_among row.number ts)) (without t rows) ≡ filter (λ row. not (is_among row.number (t ∷ ts))) rows
twice t ts [] = refl
twice t ts (r ∷ rs) = one_row (r.number == t) (is_among r.number ts) r (without t rs) (filter (λ row. not (is_among row.number (t ∷ ts))) rs) (λ row. not (is_among row.number ts)) refl (twice t ts rs)

without_is : (queue : List ℕ) (rows : List Transaction) → without_all queue rows ≡ filter (λ row. not (is_among row.number queue)) rows
without_is [] rows = keep_all rows
without_is (t ∷ ts) rows = without_is ts (without t rows) ∙ twice t ts rows

same_tests : (gone : ℕ → Bool) (rows : List Transaction) → AreTold gone rows → without_waiting rows ≡ filter (λ row. not (gone row.number)) rows
same_tests gone [] told = refl
same_tests gone (r ∷ rs) told =
    ap (λ (b : Bool). cond (not b) (r ∷ without_waiting rs) (without_waiting rs)) told.0
    ∙ ap (λ (l : List Transaction). cond (not (gone r.number)) (r ∷ l) l) (same_tests gone rs told.1)

-- those that wait by the table, by their numbers
pub numbers_among : (t : ℕ) (rows : List Transaction) → AreRising rows → is_among t (waiting_numbers rows) ≡ waits_at (find (is_of t) rows)
numbers_among t [] rising = refl
numbers_among t (r ∷ rs) rising = elim (cases_eq r.number t) [
  | inl is ↦
      (let none : find (is_of t) rs ≡ None = none_above t rs (subst (λ (n : ℕ). AreAbove n rs) is rising.0) in
      here (is_waiting r) (sym is) (numbers_among t rs rising.1 ∙ ap waits_at none) ∙ sym (ap waits_at (found_here t r rs is)))
  | inr other ↦ later (is_waiting r) (λ e. other (sym e)) ∙ numbers_among t rs rising.1 ∙ sym (ap waits_at (found_later t r rs other))
]
  where
    here : (b : Bool) → t ≡ r.number → is_among t (waiting_numbers rs) ≡ false → is_among t (map (λ row. row.number) (cond b (r ∷ filter is_waiting rs) (filter is_waiting rs))) ≡ b
    here true e none = among_one t r.number (waiting_numbers rs) e
    here false e none = none

    later : (b : Bool) → t ≢ r.number → is_among t (map (λ row. row.number) (cond b (r ∷ filter is_waiting rs) (filter is_waiting rs))) ≡ is_among t (waiting_numbers rs)
    later true ne = ap (λ (x : Bool). x || is_among t (waiting_numbers rs)) (ne_eqb t r.number ne)
    later false ne = refl

-- where the queue has those that wait by the table
module _ (queue : List ℕ) (rows : List Transaction) (rising : AreRising rows) (each : AreDifferent queue) (tells : (t : ℕ) → is_among t queue ≡ waits_at (find (is_of t) rows)) where
  pub queue_told : AreTold (λ t. is_among t queue) rows
  queue_told = told_each (λ t. is_among t queue) rows rising (λ t row found. ap waits_at (sym found) ∙ sym (tells t))

  pub queue_rows : without_waiting rows ≡ without_all queue rows
  queue_rows = same_tests (λ t. is_among t queue) rows queue_told ∙ sym (without_is queue rows)

  found : (t : ℕ) → is_among t queue ≡ true → find (is_of t) rows ≢ None
  found t some none = let never : false ≡ true = sym (ap waits_at none) ∙ sym (tells t) ∙ some in cc never

  pub queue_count : length rows ≡ length (without_all queue rows) + length queue
  queue_count = rows_count queue rows rising each found

  pub queue_long : waiting_in rows ≡ length queue
  queue_long =
      let all : length (without_waiting rows) + waiting_in rows ≡ length rows = waiting_counts rows in
      let same : length (without_waiting rows) ≡ length (without_all queue rows) = ap (λ (l : List Transaction). length l) queue_rows in
      let count = queue_count in
      omega (arith, all, same, count)

  pub queue_numbers : (t : ℕ) → is_among t (waiting_numbers rows) ≡ is_among t queue
  queue_numbers t = numbers_among t rows rising ∙ sym (tells t)

-- ---- the locks of those that wait, given back one after another

-- one more is released
released_one : (old mid new : Table) (t : ℕ) (queue : List ℕ) → AreReleased old (λ s. is_among s queue) mid → IsReleased mid t new → AreReleased old (λ s. is_among s (queue ++ t ∷ [])) new
released_one old mid new t queue h one = record {
  none = λ s some. elim (cases_eq s t) [
    | inl e ↦ ap (locks_of new) e ∙ one.none
    | inr ne ↦ ap all_of (one.others s ne) ∙ h.none s (elim (among_pushed s t queue some) [ inl there ↦ there | inr e ↦ absurd (ne e) ])
  ];
  others = λ s out.
      one.others s (λ e. let never : true ≡ false = sym (pushed_last s t queue e) ∙ out in cc never)
      ∙ h.others s (elim (cases_test (is_among s queue)) [ inl there ↦ absurd (let never : true ≡ false = sym (pushed_more s t queue there) ∙ out in cc never) | inr none ↦ none ]);
}

module _ (old mid new : Table) (rows : List Transaction) (i : ℕ) (d : Transaction) (within : i < length rows) (h : AreReleased old (λ s. is_among s (waiting_numbers (take i rows))) mid) where
  more : waiting_numbers (take (i + 1) rows) ≡ waiting_numbers (take i rows) ++ map (λ (row : Transaction). row.number) (cond (is_waiting (get_or rows i d)) (get_or rows i d ∷ []) [])
  more = ap (map (λ (row : Transaction). row.number)) (filter_more is_waiting rows i d within) ∙ map-append (λ (row : Transaction). row.number) (filter is_waiting (take i rows)) (cond (is_waiting (get_or rows i d)) (get_or rows i d ∷ []) [])

  -- a row that waits
  pub released_more : is_waiting (get_or rows i d) ≡ true → IsReleased mid ((get_or rows i d).number) new → AreReleased old (λ s. is_among s (waiting_numbers (take (i + 1) rows))) new
  released_more waits one =
      let is : waiting_numbers (take (i + 1) rows) ≡ waiting_numbers (take i rows) ++ (get_or rows i d).number ∷ [] =
      more ∙ ap (λ (b : Bool). waiting_numbers (take i rows) ++ map (λ (row : Transaction). row.number) (cond b (get_or rows i d ∷ []) [])) waits in
      subst (λ (l : List ℕ). AreReleased old (λ s. is_among s l) new) (sym is) (released_one old mid new ((get_or rows i d).number) (waiting_numbers (take i rows)) h one)

  -- one that does not
  pub released_as : is_waiting (get_or rows i d) ≡ false → AreReleased old (λ s. is_among s (waiting_numbers (take (i + 1) rows))) mid
  released_as not_so =
      let is : waiting_numbers (take (i + 1) rows) ≡ waiting_numbers (take i rows) =
      more ∙ ap (λ (b : Bool). waiting_numbers (take i rows) ++ map (λ (row : Transaction). row.number) (cond b (get_or rows i d ∷ []) [])) not_so ∙ append-nil (waiting_numbers (take i rows)) in
      subst (λ (l : List ℕ). AreReleased old (λ s. is_among s l) mid) (sym is) h

-- by the queue in place of the rows
pub released_queue : (old new : Table) (queue numbers : List ℕ) → ((t : ℕ) → is_among t numbers ≡ is_among t queue) → AreReleased old (λ s. is_among s numbers) new → AreReleased old (λ s. is_among s queue) new
released_queue old new queue numbers same h = record {
  none = λ s some. h.none s (same s ∙ some);
  others = λ s out. h.others s (same s ∙ out);
}
