-- A copy that follows what is written is still a front of each file.
use Rattle.std.specs.Prelude.{◌≢◌, max, take, drop}
use Rattle.std.specs.Option.{ForSome}
use Rattle.std.proofs.Common.{◌≡◌, ◌⊎◌, inl, inr, ℕ, ◌+◌, ◌<◌, ◌≤◌, List, ◌++◌, length, refl, sym, ◌∙◌, ap, subst, arith, Option, None, Some}
use Rattle.std.proofs.lemmas.Bool.{cases_lt}
use Rattle.im_base_types.specs.declared.file_id.FileId.{FileId}
use Rattle.im_base_types.specs.declared.file_id.FileId.TheVariants.{Log, Pages, Log2}
use Rattle.im_base_disk.specs.declared.disk.Disk.{Ghosts}
use Rattle.im_base_disk.specs.Disk.{Files, Holds}
use Rattle.im_base_mirror_disk.specs.declared.marks.Marks.{Marks}
use Rattle.im_base_mirror_disk.specs.Marks.{mark_of}
use Rattle.im_base_mirror_disk.specs.Copies.{HasLengths, IsFront, IsFollowed}
use Rattle.im_base_mirror_disk.proofs.Fronts.{after_front, written_front, written_length}

same_file : (a b : FileId) → (a ≡ b) ⊎ (a ≢ b)
same_file Log Log = inl refl
same_file Log Pages = inr (λ e. absurd (cc e))
same_file Log Log2 = inr (λ e. absurd (cc e))
same_file Pages Log = inr (λ e. absurd (cc e))
same_file Pages Pages = inl refl
same_file Pages Log2 = inr (λ e. absurd (cc e))
same_file Log2 Log = inr (λ e. absurd (cc e))
same_file Log2 Pages = inr (λ e. absurd (cc e))
same_file Log2 Log2 = inl refl

module _ {T : Type 0} (t : Ghosts T) (marks now : Marks) (file : FileId) (at : ℕ) (bytes : List ℕ) (old new : Option T) (mark : ℕ)
    (none : old ≡ None → new ≡ None)
    (beyond : mark_of marks file < at → (new ≡ old) × (mark ≡ mark_of marks file))
    (followed : at ≤ mark_of marks file → ForSome new (λ x. (mark ≡ max (mark_of marks file) (at + length bytes)) × ForSome old (λ s. t.tells → IsFollowed file at bytes (t.seen s) (t.seen x))))
    (here : mark_of now file ≡ mark) (others : (other : FileId) → other ≢ file → mark_of now other ≡ mark_of marks other)
    (long : ForSome old (λ s. t.tells → HasLengths marks (t.seen s))) where
  -- what a copy was before
  pub before : (x : T) → new ≡ Some x → (s : T) × (old ≡ Some s)
  before x is = by old refl
    where
      by : (o : Option T) → old ≡ o → (s : T) × (old ≡ Some s)
      by None e = absurd (let clash : None ≡ Some x = sym (none e) ∙ is in cc clash)
      by (Some s) e = (s, e)

  -- where nothing is written to it, it is what it was
  stays : (x : T) → new ≡ Some x → mark_of marks file < at → old ≡ Some x
  stays x is less = sym (beyond less).0 ∙ is

  pub long_on : ForSome new (λ x. t.tells → HasLengths now (t.seen x))
  long_on x is tells other = elim (same_file other file) [
    | inl same ↦ subst (λ (f : FileId). length (t.seen x f) ≡ mark_of now f) (sym same) this
    | inr differ ↦ elim (cases_lt (mark_of marks file) at) [
      | inl less ↦ long x (stays x is less) tells other ∙ sym (others other differ)
      | inr le ↦
          let (s, was) = before x is in
          let f = (followed le x is).1 s was tells in
          ap (λ (l : List ℕ). length l) (f.others other differ) ∙ long s was tells other ∙ sym (others other differ)
    ]
  ]
    where
      this : length (t.seen x file) ≡ mark_of now file
      this = elim (cases_lt (mark_of marks file) at) [
        | inl less ↦ long x (stays x is less) tells file ∙ sym (beyond less).1 ∙ sym here
        | inr le ↦
            let (s, was) = before x is in
            let f = (followed le x is).1 s was tells in
            let size : length (t.seen s file) ≡ mark_of marks file = long s was tells file in
            let grown : length (t.seen x file) ≡ max (length (t.seen s file)) (at + length bytes) = ap (λ (l : List ℕ). length l) f.written ∙ written_length at bytes (t.seen s file) (omega (arith, size, le)) in
            let result : mark ≡ max (mark_of marks file) (at + length bytes) = (followed le x is).0 in
            omega (arith, size, grown, result, here)
      ]

  module _ (from after : Files) (place : at ≤ length (from file)) (holds : Holds at bytes (from file) (after file)) (rest : (other : FileId) → other ≢ file → after other ≡ from other)
      (front : ForSome old (λ s. t.tells → IsFront marks from (t.seen s))) where
    after_length : length (after file) ≡ max (length (from file)) (at + length bytes)
    after_length = ap (λ (l : List ℕ). length l) holds ∙ written_length at bytes (from file) place

    within_file : (x : T) → new ≡ Some x → t.tells → mark_of now file ≤ length (after file)
    within_file x is tells = elim (cases_lt (mark_of marks file) at) [
      | inl less ↦
          let low : mark_of marks file ≤ length (from file) = (front x (stays x is less) tells).0 file in
          let same : mark ≡ mark_of marks file = (beyond less).1 in
          omega (arith, after_length, low, same, here)
      | inr le ↦
          let (s, was) = before x is in
          let low : mark_of marks file ≤ length (from file) = (front s was tells).0 file in
          let result : mark ≡ max (mark_of marks file) (at + length bytes) = (followed le x is).0 in
          omega (arith, after_length, low, result, here)
    ]

    same_in_file : (x : T) → new ≡ Some x → t.tells → t.seen x file ≡ take (mark_of now file) (after file)
    same_in_file x is tells = elim (cases_lt (mark_of marks file) at) [
      | inl less ↦
          (front x (stays x is less) tells).1 file
          ∙ sym (after_front (mark_of marks file) at bytes (from file) less place)
          ∙ ap (λ (l : List ℕ). take (mark_of marks file) l) (sym holds)
          ∙ ap (λ (k : ℕ). take k (after file)) (sym (here ∙ (beyond less).1))
      | inr le ↦
          let (s, was) = before x is in
          let f = (followed le x is).1 s was tells in
          let low : mark_of marks file ≤ length (from file) = (front s was tells).0 file in
          f.written
          ∙ ap (λ (l : List ℕ). take at l ++ bytes ++ drop (at + length bytes) l) ((front s was tells).1 file)
          ∙ written_front (mark_of marks file) at bytes (from file) le low
          ∙ ap (λ (l : List ℕ). take (max (mark_of marks file) (at + length bytes)) l) (sym holds)
          ∙ ap (λ (k : ℕ). take k (after file)) (sym (here ∙ (followed le x is).0))
    ]

    -- the other files
    within_other : (x : T) → new ≡ Some x → t.tells → (other : FileId) → other ≢ file → mark_of now other ≤ length (after other)
    within_other x is tells other differ =
        let (s, was) = before x is in
        let low : mark_of marks other ≤ length (from other) = (front s was tells).0 other in
        let same : mark_of now other ≡ mark_of marks other = others other differ in
        let long_as : length (after other) ≡ length (from other) = ap (λ (l : List ℕ). length l) (rest other differ) in
        omega (arith, low, same, long_as)

    same_in_other : (x : T) → new ≡ Some x → t.tells → (other : FileId) → other ≢ file → t.seen x other ≡ take (mark_of now other) (after other)
    same_in_other x is tells other differ = elim (cases_lt (mark_of marks file) at) [
      | inl less ↦ (front x (stays x is less) tells).1 other ∙ on
      | inr le ↦
          let (s, was) = before x is in
          let f = (followed le x is).1 s was tells in
          f.others other differ ∙ (front s was tells).1 other ∙ on
    ]
      where
        on : take (mark_of marks other) (from other) ≡ take (mark_of now other) (after other)
        on = ap (λ (l : List ℕ). take (mark_of marks other) l) (sym (rest other differ)) ∙ ap (λ (k : ℕ). take k (after other)) (sym (others other differ))

    pub front_on : (x : T) → new ≡ Some x → t.tells → IsFront now after (t.seen x)
    front_on x is tells = (
      (λ other. elim (same_file other file) [
        | inl same ↦ subst (λ (f : FileId). mark_of now f ≤ length (after f)) (sym same) (within_file x is tells)
        | inr differ ↦ within_other x is tells other differ
      ]),
      (λ other. elim (same_file other file) [
        | inl same ↦ subst (λ (f : FileId). t.seen x f ≡ take (mark_of now f) (after f)) (sym same) (same_in_file x is tells)
        | inr differ ↦ same_in_other x is tells other differ
      ]),
    )

-- the same by another name of the mark
pub beyond_as : {T : Type 0} (old new : Option T) (at mark was is : ℕ) → was ≡ is → (was < at → (new ≡ old) × (mark ≡ was)) → is < at → (new ≡ old) × (mark ≡ is)
beyond_as old new at mark was is e f = subst (λ (m : ℕ). m < at → (new ≡ old) × (mark ≡ m)) e f

pub followed_as : {T : Type 0} (t : Ghosts T) (file : FileId) (at : ℕ) (bytes : List ℕ) (old new : Option T) (mark was is : ℕ) → was ≡ is
    → (at ≤ was → ForSome new (λ x. (mark ≡ max was (at + length bytes)) × ForSome old (λ s. t.tells → IsFollowed file at bytes (t.seen s) (t.seen x))))
    → at ≤ is → ForSome new (λ x. (mark ≡ max is (at + length bytes)) × ForSome old (λ s. t.tells → IsFollowed file at bytes (t.seen s) (t.seen x)))
followed_as t file at bytes old new mark was is e f =
    subst (λ (m : ℕ). at ≤ m → ForSome new (λ x. (mark ≡ max m (at + length bytes)) × ForSome old (λ s. t.tells → IsFollowed file at bytes (t.seen s) (t.seen x)))) e f
