-- What the workers of a round made of it, put together.
use Rattle.std.proofs.Common.{◌≡◌, inl, inr, ℕ, suc, zero, ◌+◌, ◌/◌, ◌%◌, ◌<◌, ◌≤◌, List, [], ◌∷◌, length, get_or, slice_index_or, Bool, true, false, refl, sym, ap, subst, arith, Result, Ok, Err}
use Rattle.std.specs.Prelude.{if◌then◌else◌, ◌==◌, ◌&&◌, ◌||◌, min, IfOk, IsOk, OnOk}
use Rattle.std.proofs.Math.Nat.{mod-lt}
use Rattle.std.proofs.lemmas.Bool.{cases_eq, false≢true, ne_eqb}
use Rattle.im_base_types.specs.declared.fault.Fault.{Fault}
use Rattle.im_base_types.specs.Pages.{Page}
use Rattle.im_base_types.specs.Records.{Logged}
use Rattle.im_theory_log.specs.Copies.{redo_all, redo_one}
use Rattle.im_theory_log.specs.WriterSteps.{applies}
use Rattle.im_page_rounds.specs.declared.worker.Worker.{Worker}
use Rattle.im_page_rounds.specs.Rounds.{applied_of_all}
use Rattle.im_page_rounds.specs.Hand.{IsThis, StandIn, is_applied}
use Rattle.im_page_rounds.specs.Workers.{AreDealt, AreRedone, AreThese, HandRedone, Worked, applied_by, count_below, told_count, place_in}
use Rattle.im_page_rounds.proofs.Places.{item_at}

-- ---- the pages

-- the pages of a round are those of its workers
pub dealt_of : (numbers : List ℕ) (workers : List Worker) (g : ℕ → Page) (changed : ℕ → Bool) → AreThese numbers workers g changed → (k : ℕ) (w : Worker) → AreDealt (length workers) k numbers (get_or workers k w).pages.items g changed
dealt_of numbers workers g changed these k w i d lt own =
    let P : ℕ → Type 0 = λ n. IsThis (get_or (get_or workers n w).pages.items (i / length workers) d) (g (slice_index_or numbers i 0)) (changed (slice_index_or numbers i 0)) in subst P own (these i w d lt)

these_of : (numbers : List ℕ) (workers : List Worker) (g : ℕ → Page) (changed : ℕ → Bool) → 0 < length workers → ((k : ℕ) (w : Worker) → k < length workers → AreDealt (length workers) k numbers (get_or workers k w).pages.items g changed) → AreThese numbers workers g changed
these_of numbers workers g changed some each i w d lt = each (i % length workers) w (mod-lt i some) i d lt refl

-- ---- the count

abbrev sum_below : ℕ → (ℕ → ℕ) → ℕ
sum_below zero f = 0
sum_below (suc n) f = sum_below n f + f n

abbrev one_if : Bool → ℕ
one_if b = if b then 1 else 0

sum_both : (n : ℕ) (f g : ℕ → ℕ) → sum_below n (λ k. f k + g k) ≡ sum_below n f + sum_below n g
sum_both zero f g = omega arith
sum_both (suc n) f g = let rest = sum_both n f g in omega (arith, rest)

none_above : (n m : ℕ) (a : Bool) → n ≤ m → sum_below n (λ k. one_if ((m == k) && a)) ≡ 0
none_above zero m a le = refl
none_above (suc n) m a le =
    let rest = none_above n m a (omega (arith, le)) in
    let off : one_if ((m == n) && a) ≡ 0 = ap (λ (b : Bool). one_if (b && a)) (ne_eqb m n (λ e. absurd (omega (arith, le, e)))) in
    omega (arith, rest, off)

-- each record is one worker's
one_of : (n m : ℕ) (a : Bool) → m < n → sum_below n (λ k. one_if ((m == k) && a)) ≡ one_if a
one_of zero m a lt = absurd (omega (arith, lt))
one_of (suc n) m a lt = elim (cases_eq m n) [
  | inl e ↦
      let rest = none_above n m a (omega (arith, e)) in
      let on : one_if ((m == n) && a) ≡ one_if a = ap (λ (b : Bool). one_if (b && a)) (let yes : (m == n) ≡ true = search (arith, e) in yes) in
      omega (arith, rest, on)
  | inr ne ↦
      let rest = one_of n m a (omega (arith, lt, ne)) in
      let off : one_if ((m == n) && a) ≡ 0 = ap (λ (b : Bool). one_if (b && a)) (ne_eqb m n ne) in
      omega (arith, rest, off)
]

sum_none : (n : ℕ) → sum_below n (λ k. 0) ≡ 0
sum_none zero = refl
sum_none (suc n) = let rest = sum_none n in omega (arith, rest)

-- the counts of the workers add up to the count of the round
counts_of_all : (workers : ℕ) (numbers : List ℕ) (rs : List Logged) (g : ℕ → Page) → 0 < workers → sum_below workers (λ k. applied_by workers k numbers rs g) ≡ applied_of_all rs g
counts_of_all workers numbers [] g some = sum_none workers
counts_of_all workers numbers (r ∷ rs) g some =
    let a : Bool = applies r r.page (g r.page) in
    let m : ℕ = place_in numbers r.page % workers in
    let both = sum_both workers (λ k. one_if ((m == k) && a)) (λ k. applied_by workers k numbers rs (λ q. redo_one r q (g q))) in
    let one = one_of workers m a (mod-lt (place_in numbers r.page) some) in
    let rest = counts_of_all workers numbers rs (λ q. redo_one r q (g q)) some in
    omega (arith, both, one, rest)

applied_at_most : (rs : List Logged) (g : ℕ → Page) → applied_of_all rs g ≤ length rs
applied_at_most [] g = omega arith
applied_at_most (r ∷ rs) g = by (applies r r.page (g r.page)) (applied_at_most rs (λ q. redo_one r q (g q)))
  where
    by : (b : Bool) → applied_of_all rs (λ q. redo_one r q (g q)) ≤ length rs → one_if b + applied_of_all rs (λ q. redo_one r q (g q)) ≤ length (r ∷ rs)
    by true le = omega (arith, le)
    by false le = omega (arith, le)

as_many : (from : ℕ) (span lsns : List ℕ) (rs : List Logged) → StandIn from span lsns rs → length lsns ≡ length rs
as_many from span [] [] stand = refl
as_many from span [] (r ∷ rs) stand = absurd stand
as_many from span (l ∷ lsns) [] stand = absurd stand
as_many from span (l ∷ lsns) (r ∷ rs) stand = ap suc (as_many from span lsns rs stand.1)

sum_same : (workers : List Worker) (w : Worker) (n : ℕ) (f : ℕ → ℕ) → ((k : ℕ) → k < n → told_count (get_or workers k w).applied ≡ f k) → count_below workers w n ≡ sum_below n f
sum_same workers w zero f each = refl
sum_same workers w (suc n) f each = let rest = sum_same workers w n f (λ k lt. each k (omega (arith, lt))) in let one = each n (omega arith) in omega (arith, rest, one)

counted : (r : Result ℕ Fault) (P : ℕ → Type 0) → IsOk r → IfOk r P → P (told_count r)
counted (Ok n) P ok p = p
counted (Err e) P ok p = absurd (false≢true ok)

-- ---- the whole

module _ (from : ℕ) (span lsns numbers : List ℕ) (rs : List Logged) (g : ℕ → Page) (changed : ℕ → Bool) (workers : List Worker) (some : 0 < length workers) (stand : StandIn from span lsns rs)
    (redone : (k : ℕ) (w : Worker) → k < length workers → IfOk (get_or workers k w).applied (λ count. HandRedone (length workers) k numbers rs g changed count (get_or workers k w).pages.items)) where
  made : (n : ℕ) → ((k : ℕ) (w : Worker) → k < length workers → IsOk (get_or workers k w).applied) → ((w : Worker) → n ≡ min (count_below workers w (length workers)) (length lsns)) → AreRedone numbers rs g changed n workers
  made n all count =
      let each : (k : ℕ) (w : Worker) → k < length workers → HandRedone (length workers) k numbers rs g changed (told_count (get_or workers k w).applied) (get_or workers k w).pages.items = λ k w lt. counted (get_or workers k w).applied _ (all k w lt) (redone k w lt) in
      let w : Worker = item_at workers 0 some in
      let sum = sum_same workers w (length workers) (λ k. applied_by (length workers) k numbers rs g) (λ k lt. (each k w lt).count) in
      let whole = counts_of_all (length workers) numbers rs g some in
      let most = applied_at_most rs g in
      let long = as_many from span lsns rs stand in
      let is = count w in
      record {
        pages = these_of numbers workers (λ q. redo_all rs q (g q)) (λ q. changed q || is_applied rs q (g q)) some (λ k v lt. (each k v lt).pages);
        count = omega (arith, sum, whole, most, long, is);
        among = (each 0 w some).among;
      }

  pub round_made : (res : Result ℕ Fault) → ((k : ℕ) (w : Worker) → k < length workers → OnOk res (IsOk (get_or workers k w).applied)) → ((w : Worker) → IfOk res (λ n. n ≡ min (count_below workers w (length workers)) (length lsns)))
      → IfOk res (λ n. AreRedone numbers rs g changed n workers)
  round_made (Ok n) all count = made n all count
  round_made (Err e) all count = tt

-- the same, beside the workers as they were
pub round_of : (from : ℕ) (span lsns numbers : List ℕ) (rs : List Logged) (g : ℕ → Page) (changed : ℕ → Bool) (old workers : List Worker) → 0 < length old → StandIn from span lsns rs → length workers ≡ length old
    → ((k : ℕ) (w : Worker) → k < length old → IfOk (get_or workers k w).applied (λ count. HandRedone (length old) k numbers rs g changed count (get_or workers k w).pages.items))
    → (res : Result ℕ Fault) → ((k : ℕ) (w : Worker) → k < length workers → OnOk res (IsOk (get_or workers k w).applied)) → ((w : Worker) → IfOk res (λ n. n ≡ min (count_below workers w (length workers)) (length lsns)))
    → IfOk res (λ n. AreRedone numbers rs g changed n workers)
round_of from span lsns numbers rs g changed old workers some stand long redone res all count =
    let P : ℕ → Type 0 = λ n. (k : ℕ) (w : Worker) → k < n → IfOk (get_or workers k w).applied (λ count. HandRedone n k numbers rs g changed count (get_or workers k w).pages.items) in
    round_made from span lsns numbers rs g changed workers (subst (λ (n : ℕ). 0 < n) (sym long) some) stand (subst P (sym long) redone) res all count

pub at_most_all : (workers : List Worker) (w : Worker) (lsns : List ℕ) (res : Result ℕ Fault) → IfOk res (λ n. n ≡ min (count_below workers w (length workers)) (length lsns)) → IfOk res (λ n. n ≤ length lsns)
at_most_all workers w lsns (Ok n) is = omega (arith, is)
at_most_all workers w lsns (Err e) is = tt

pub worked_as : {workers number : ℕ} {numbers : List ℕ} {from : ℕ} {span lsns : List ℕ} {old new was now : Worker} → old ≡ was → new ≡ now → Worked workers number numbers from span lsns old new → Worked workers number numbers from span lsns was now
worked_as {workers} {number} {numbers} {from} {span} {lsns} {old} {new} {was} {now} begins ends worked =
    subst (λ (x : Worker). Worked workers number numbers from span lsns x now) begins (subst (λ (x : Worker). Worked workers number numbers from span lsns old x) ends worked)
