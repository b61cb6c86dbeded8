-- Which worker has which page of a round, and at which place.
use Rattle.std.proofs.Common.{◌≡◌, ℕ, suc, zero, ◌+◌, ◌*◌, ◌/◌, ◌%◌, ◌<◌, ◌≤◌, List, [], ◌∷◌, length, get_or, vec_len, Bool, true, false, refl, sym, ◌∙◌, ap, subst, arith, inl, inr, Err}
use Rattle.std.specs.Prelude.{if◌then◌else◌, ◌==◌, slice_index_or}
use Rattle.std.specs.Ordering.{nat_cmp}
use Rattle.std.specs.List.Sorted.{IsBinarySearchResult}
use Rattle.std.proofs.lemmas.List.Sorted.{searched}
use Rattle.std.proofs.Math.Nat.{div-add-mod, div-lt_iff_lt-mul, mod-lt}
use Rattle.std.proofs.lemmas.Bool.{cases_eq, cases_lt, cond-false, ne_eqb}
use Rattle.im_page_rounds.specs.Hand.{AreRising, IsAmong}
use Rattle.im_page_rounds.specs.declared.round_page.RoundPage.{RoundPage}
use Rattle.im_page_rounds.specs.declared.worker.Worker.{Worker}
use Rattle.im_page_rounds.specs.Workers.{HaveRoom, SameRoom, place_in}

-- there is an item at a place
pub item_at : {A : Type 0} (xs : List A) (n : ℕ) → n < length xs → A
item_at [] n lt = absurd (omega (arith, lt))
item_at (x ∷ xs) zero lt = x
item_at (x ∷ xs) (suc n) lt = item_at xs n (omega (arith, lt))

pub same_place : (workers i j : ℕ) → i % workers ≡ j % workers → i / workers ≡ j / workers → i ≡ j
same_place workers i j rem quot = sym (div-add-mod i workers) ∙ ap (λ (k : ℕ). workers * k + i % workers) quot ∙ ap (λ (k : ℕ). workers * (j / workers) + k) rem ∙ div-add-mod j workers

-- each page of a round has a place in its worker's hand
pub has_place : (workers n room i : ℕ) → 0 < workers → n ≤ workers * room → i < n → i / workers < room
has_place workers n room i some few lt = (div-lt_iff_lt-mul some).1 (let all : workers * room ≡ room * workers = omega arith in omega (arith, few, lt, all))

-- a number of a round stands at its place
pub place_is : (numbers : List ℕ) (i : ℕ) → AreRising numbers → i < length numbers → place_in numbers (slice_index_or numbers i 0) ≡ i
place_is [] i rising lt = absurd (omega (arith, lt))
place_is (q ∷ qs) zero rising lt = ap (λ (b : Bool). if b then 0 else suc (place_in qs q)) (let same : (q == q) ≡ true = search arith in same)
place_is (q ∷ qs) (suc i) rising lt =
    let p : ℕ = slice_index_or qs i 0 in
    let low : q < p = rising 0 (suc i) (omega arith) lt in
    let rest : place_in qs p ≡ i = place_is qs i (λ j k less within. rising (suc j) (suc k) (omega (arith, less)) (omega (arith, within))) (omega (arith, lt)) in
    cond-false (q == p) 0 (suc (place_in qs p)) (ne_eqb q p (λ e. absurd (omega (arith, low, e)))) ∙ ap suc rest

-- a number that a search does not find is none of a round's
pub not_among : (numbers : List ℕ) (p at : ℕ) → AreRising numbers → IsBinarySearchResult (λ y. nat_cmp y p) numbers (Err at) → IsAmong numbers p → ⊥
not_among numbers p at rising found among =
    let (_, low, high) = searched numbers p (Err at) found (λ i j le lt. elim (cases_eq i j) [
      | inl e ↦ subst (λ (k : ℕ). slice_index_or numbers i 0 ≤ slice_index_or numbers k 0) e (omega arith)
      | inr ne ↦ (let less = rising i j (omega (arith, le, ne)) lt in omega (arith, less))
    ]) in
    elim (cases_lt among.place at) [
      | inl lt ↦ (let under = low among.place lt in absurd (omega (arith, under, among.is)))
      | inr ge ↦ (let above = high among.place ge among.within in absurd (omega (arith, above, among.is)))
    ]

-- ---- room

pub room_at : (n : ℕ) (workers : List Worker) (i : ℕ) (w : Worker) → 0 < length workers → HaveRoom n workers → i < n → i / length workers < vec_len (get_or workers (i % length workers) w).pages
room_at n workers i w some room lt = has_place (length workers) n (vec_len (get_or workers (i % length workers) w).pages) i some (room (i % length workers) w (mod-lt i some)) lt

pub room_same : (n : ℕ) (old new : List Worker) → SameRoom old new → HaveRoom n old → HaveRoom n new
room_same n old new same room k w lt =
    let low : k < length old = subst (λ (m : ℕ). k < m) same.count lt in
    subst (λ (m : ℕ). n ≤ m * vec_len (get_or new k w).pages) (sym same.count) (subst (λ (m : ℕ). n ≤ length old * m) (sym (same.each k w low)) (room k w low))

pub room_still : (workers : List Worker) → SameRoom workers workers
room_still workers = record { count = refl; each = λ k w lt. refl }

pub some_on : (old new : List Worker) → SameRoom old new → 0 < length old → 0 < length new
some_on old new same some = subst (λ (n : ℕ). 0 < n) (sym same.count) some

pub room_on : (n : ℕ) (old new : List Worker) → SameRoom old new → 0 < length old → HaveRoom n old → (i : ℕ) → i < n → (w : Worker) → i / length new < vec_len (get_or new (i % length new) w).pages
room_on n old new same some room i lt w = room_at n new i w (some_on old new same some) (room_same n old new same room) lt

pub room_then : (one two three : List Worker) → SameRoom one two → SameRoom two three → SameRoom one three
room_then one two three first second = record {
  count = second.count ∙ first.count;
  each = λ k w lt. second.each k w (subst (λ (n : ℕ). k < n) (sym first.count) lt) ∙ first.each k w lt;
}

-- some page, where a worker is
abbrev pub page_of : Worker → RoundPage
page_of w = record { page = w.spare; changed = false }
