-- Rows are read from chunks of bytes as they were written.
use Rattle.std.proofs.Common.{◌≡◌, ℕ, zero, suc, ◌+◌, ◌*◌, ◌<◌, ◌≤◌, true, ◌&&◌, List, [], ◌∷◌, ◌++◌, length, get_or, take, drop, map, Option, Some, None, refl, sym, ap, subst, ◌∙◌, append_assoc, arith, add-one, drop-cons}
use Rattle.std.specs.Int.{w32, w64, from_be_bytes}
use Rattle.std.specs.List.{flat_map, AllByRecursion}
use Rattle.std.specs.Simd.{first_chunks}
use Rattle.std.proofs.lemmas.Bool.{ltb-true, lt-ltb, and_parts}
use Rattle.std.proofs.lemmas.Option.{cond_some}
use Rattle.std.proofs.lemmas.List.{take_at, drop_at, take-append-drop, drop-drop, length-append, length-take-le, length-drop, nil_from_length}
use Rattle.std.proofs.lemmas.List.Concat.{flat_map-cons}
use Rattle.im_base_types.specs.declared.tables.ActiveTransaction.{ActiveTransaction}
use Rattle.im_base_types.specs.declared.tables.DirtyPage.{DirtyPage}
use Rattle.im_log_record.specs.Entry.{active_in, dirty_in}
use Rattle.im_log_record.specs.Spelling.{word32, word64, IsAbove, Rise, IsActive, IsDirty, active_bytes, dirty_bytes}
use Rattle.im_log_record.specs.Reading.{IsBytes, part_at, is_above, rises, rows_at}
use Rattle.im_log_record.proofs.Words.{IsBytes-drop, IsBytes-take, bind_some, Takes, part_takes, part_again, word32_back, word64_back, word32_value, word64_value, length-word32, length-word64}

-- ---- rising numbers

above_takes : (last : Option ℕ) (n : ℕ) → is_above last n ≡ true → IsAbove last n
above_takes None n e = tt
above_takes (Some last) n e = ltb-true last n e

above_again : (last : Option ℕ) (n : ℕ) → IsAbove last n → is_above last n ≡ true
above_again None n h = refl
above_again (Some last) n h = lt-ltb last n h

rise_takes : {X : Type 0} (number : X → ℕ) (last : Option ℕ) (xs : List X) → rises number last xs ≡ true → Rise number last xs
rise_takes number last [] e = tt
rise_takes number last (x ∷ xs) e =
    let p = and_parts (is_above last (number x)) (rises number (Some (number x)) xs) e in
    (above_takes last (number x) p.0, rise_takes number (Some (number x)) xs p.1)

rise_again : {X : Type 0} (number : X → ℕ) (last : Option ℕ) (xs : List X) → Rise number last xs → rises number last xs ≡ true
rise_again number last [] h = refl
rise_again number last (x ∷ xs) h = rw (above_again last (number x) h.0) (rise_again number (Some (number x)) xs h.1)

-- a loop over the rows tests one and goes on after it
pub rises_from : {X Y : Type 0} (row : Y → X) (number : X → ℕ) (list : List Y) (i : ℕ) (x : Y) (last : Option ℕ) → i < length list → x ≡ get_or list i x
    → rises number last (map row (drop i list)) ≡ (is_above last (number (row x)) && rises number (Some (number (row x))) (map row (drop (i + 1) list)))
rises_from row number list i x last lt is =
    rw (drop-cons list i x lt, sym is, add-one i) refl

-- ---- rows of so many bytes

-- a reader of whole chunks and a spelling that belong together
pub record IsRow {X : Type 0} (width : ℕ) (row : List ℕ → X) (spell : X → List ℕ) (Is : X → Type 0) : Type 0 where
  pub wide : (x : X) → length (spell x) ≡ width
  pub takes : (bytes : List ℕ) → length bytes ≡ width → IsBytes bytes → (spell (row bytes) ≡ bytes) × Is (row bytes)
  pub again : (x : X) → Is x → row (spell x) ≡ x

pub record AreTaken {X : Type 0} (spell : X → List ℕ) (Is : X → Type 0) (number : X → ℕ) (n : ℕ) (bytes : List ℕ) (x : List X × List ℕ) : Type 0 where
  pub parts : Takes bytes (flat_map spell x.0) x.1
  pub count : length x.0 ≡ n
  pub fit : AllByRecursion Is x.0
  pub rise : Rise number None x.0

record AreRows {X : Type 0} (spell : X → List ℕ) (Is : X → Type 0) (n : ℕ) (bytes : List ℕ) (rows : List X) : Type 0 where
  pub spelled : flat_map spell rows ≡ bytes
  pub count : length rows ≡ n
  pub fit : AllByRecursion Is rows

chunks_take : {X : Type 0} (width : ℕ) (row : List ℕ → X) (spell : X → List ℕ) (Is : X → Type 0) → IsRow width row spell Is
    → (n : ℕ) (bytes : List ℕ) → length bytes ≡ width * n → IsBytes bytes → AreRows spell Is n bytes (map row (first_chunks width n bytes))
chunks_take width row spell Is field zero bytes len fits = record { spelled = sym (nil_from_length bytes (omega (arith, len))); count = refl; fit = tt }
chunks_take width row spell Is field (suc n) bytes len fits =
    let long : width ≤ length bytes = omega (arith, len) in
    let one = field.takes (take width bytes) (length-take-le width bytes long) (IsBytes-take width bytes fits) in
    let left : length (drop width bytes) ≡ width * n = omega (arith, len, length-drop width bytes) in
    let others = chunks_take width row spell Is field n (drop width bytes) left (IsBytes-drop width bytes fits) in
    record {
      spelled = flat_map-cons spell (row (take width bytes)) (map row (first_chunks width n (drop width bytes))) ∙ rw (one.0, others.spelled) (take-append-drop width bytes);
      count = ap suc others.count;
      fit = (one.1, others.fit);
    }

chunks_again : {X : Type 0} (width : ℕ) (row : List ℕ → X) (spell : X → List ℕ) (Is : X → Type 0) → IsRow width row spell Is
    → (xs : List X) → AllByRecursion Is xs → map row (first_chunks width (length xs) (flat_map spell xs)) ≡ xs
chunks_again width row spell Is field [] fit = refl
chunks_again width row spell Is field (x ∷ xs) fit =
    rw (flat_map-cons spell x xs, take_at (spell x) (flat_map spell xs) width (field.wide x), drop_at (spell x) (flat_map spell xs) width (field.wide x), field.again x fit.0, chunks_again width row spell Is field xs fit.1) refl

pub length-rows : {X : Type 0} (width : ℕ) (spell : X → List ℕ) → ((x : X) → length (spell x) ≡ width) → (xs : List X) → length (flat_map spell xs) ≡ width * length xs
length-rows width spell wide [] = omega arith
length-rows width spell wide (x ∷ xs) =
    rw flat_map-cons (omega (arith, wide x, length-append (spell x) (flat_map spell xs), length-rows width spell wide xs))

pub rows_take : {X : Type 0} (width : ℕ) (row : List ℕ → X) (spell : X → List ℕ) (Is : X → Type 0) (number : X → ℕ) → IsRow width row spell Is
    → (n : ℕ) (bytes : List ℕ) (x : List X × List ℕ) → IsBytes bytes → rows_at width row number n bytes ≡ Some x → AreTaken spell Is number n bytes x
unfolding rows_at
rows_take {X} width row spell Is number field n bytes x fits e =
    let a = bind_some (part_at (width * n) bytes) _ x e in
    let rows = map row (first_chunks width n a.0.0) in
    let g = cond_some (rises number None rows) (rows, a.0.1) x a.2 in
    let t = part_takes (width * n) bytes a.0 fits a.1 in
    let r = chunks_take width row spell Is field n a.0.0 t.1 t.2 in
    subst (AreTaken spell Is number n bytes) g.1
    (record { parts = subst (λ (text : List ℕ). Takes bytes text a.0.1) (sym r.spelled) t.0; count = r.count; fit = r.fit; rise = rise_takes number None rows g.0 })

pub rows_again : {X : Type 0} (width : ℕ) (row : List ℕ → X) (spell : X → List ℕ) (Is : X → Type 0) (number : X → ℕ) → IsRow width row spell Is
    → (xs : List X) (rest : List ℕ) → AllByRecursion Is xs → Rise number None xs → rows_at width row number (length xs) (flat_map spell xs ++ rest) ≡ Some (xs, rest)
unfolding rows_at
rows_again width row spell Is number field xs rest fit rise =
    rw (part_again (width * length xs) (flat_map spell xs) rest (length-rows width spell field.wide xs), chunks_again width row spell Is field xs fit, rise_again number None xs rise) refl

-- ---- the rows of the two lists

parts_of : (a b c : ℕ) (bytes : List ℕ) → c ≡ a + b → (take a bytes ++ take b (drop a bytes)) ++ drop c bytes ≡ bytes
parts_of a b c bytes e =
    append_assoc (take a bytes) (take b (drop a bytes)) (drop c bytes)
    ∙ ap (λ (t : List ℕ). take a bytes ++ (take b (drop a bytes) ++ t)) (ap (λ (n : ℕ). drop n bytes) e ∙ sym (drop-drop b a bytes))
    ∙ ap (λ (t : List ℕ). take a bytes ++ t) (take-append-drop b (drop a bytes))
    ∙ take-append-drop a bytes

joined : (a a1 b b1 c c1 : List ℕ) → a ≡ a1 → b ≡ b1 → c ≡ c1 → (a ++ b) ++ c ≡ (a1 ++ b1) ++ c1
joined a a1 b b1 c c1 x y z = cc

same_active : (t t1 l l1 u u1 : ℕ) → t ≡ t1 → l ≡ l1 → u ≡ u1
    → let x : ActiveTransaction = record { transaction = t; last = l; undo_next = u } in let y : ActiveTransaction = record { transaction = t1; last = l1; undo_next = u1 } in x ≡ y
same_active t t1 l l1 u u1 a b c = rw (a, b, c) refl

same_dirty : (p p1 r r1 : ℕ) → p ≡ p1 → r ≡ r1 → let x : DirtyPage = record { page = p; rec_lsn = r } in let y : DirtyPage = record { page = p1; rec_lsn = r1 } in x ≡ y
same_dirty p p1 r r1 a b = rw (a, b) refl

pub active_row : IsRow 24 active_in active_bytes IsActive
unfolding active_in
active_row = record {
  wide = λ x. omega (arith, length-append (word64 x.transaction ++ word64 x.last) (word64 x.undo_next), length-append (word64 x.transaction) (word64 x.last), length-word64 x.transaction, length-word64 x.last, length-word64 x.undo_next);
  takes = λ bytes len fits.
      (let t = word64_back (take 8 bytes) (length-take-le 8 bytes (omega (arith, len))) (IsBytes-take 8 bytes fits) in
      let behind = IsBytes-drop 8 bytes fits in
      let l = word64_back (take 8 (drop 8 bytes)) (length-take-le 8 (drop 8 bytes) (omega (arith, len, length-drop 8 bytes))) (IsBytes-take 8 (drop 8 bytes) behind) in
      let u = word64_back (drop 16 bytes) (omega (arith, len, length-drop 16 bytes)) (IsBytes-drop 16 bytes fits) in
      (joined _ _ _ _ _ _ t.0 l.0 u.0 ∙ parts_of 8 8 16 bytes refl, record { transaction = t.1; last = l.1; undo_next = u.1 }));
  again = λ x is.
      (let a = word64 x.transaction in
      let b = word64 x.last in
      let c = word64 x.undo_next in
      let all : (a ++ b) ++ c ≡ a ++ (b ++ c) = append_assoc a b c in
      let first : take 8 ((a ++ b) ++ c) ≡ a = ap (take 8) all ∙ take_at a (b ++ c) 8 (length-word64 x.transaction) in
      let second : take 8 (drop 8 ((a ++ b) ++ c)) ≡ b = ap (λ (t : List ℕ). take 8 (drop 8 t)) all ∙ ap (take 8) (drop_at a (b ++ c) 8 (length-word64 x.transaction)) ∙ take_at b c 8 (length-word64 x.last) in
      let third : drop 16 ((a ++ b) ++ c) ≡ c = drop_at (a ++ b) c 16 (omega (arith, length-append a b, length-word64 x.transaction, length-word64 x.last)) in
      same_active _ _ _ _ _ _
      (ap (from_be_bytes w64) first ∙ word64_value x.transaction is.transaction)
      (ap (from_be_bytes w64) second ∙ word64_value x.last is.last)
      (ap (from_be_bytes w64) third ∙ word64_value x.undo_next is.undo_next));
}

pub dirty_row : IsRow 12 dirty_in dirty_bytes IsDirty
unfolding dirty_in
dirty_row = record {
  wide = λ x. omega (arith, length-append (word32 x.page) (word64 x.rec_lsn), length-word32 x.page, length-word64 x.rec_lsn);
  takes = λ bytes len fits.
      (let p = word32_back (take 4 bytes) (length-take-le 4 bytes (omega (arith, len))) (IsBytes-take 4 bytes fits) in
      let r = word64_back (drop 4 bytes) (omega (arith, len, length-drop 4 bytes)) (IsBytes-drop 4 bytes fits) in
      (rw (p.0, r.0) (take-append-drop 4 bytes), record { page = p.1; rec_lsn = r.1 }));
  again = λ x is.
      (let a = word32 x.page in
      let b = word64 x.rec_lsn in
      same_dirty _ _ _ _
      (ap (from_be_bytes w32) (take_at a b 4 (length-word32 x.page)) ∙ word32_value x.page is.page)
      (ap (from_be_bytes w64) (drop_at a b 4 (length-word32 x.page)) ∙ word64_value x.rec_lsn is.rec_lsn));
}

pub length-actives : (xs : List ActiveTransaction) → length (flat_map active_bytes xs) ≡ 24 * length xs
length-actives xs = length-rows 24 active_bytes active_row.wide xs

pub length-dirties : (xs : List DirtyPage) → length (flat_map dirty_bytes xs) ≡ 12 * length xs
length-dirties xs = length-rows 12 dirty_bytes dirty_row.wide xs
