-- One field of a header written: the form and the other fields stay.
use Rattle.std.proofs.Common.{◌≡◌, ⊎_elim, ◌⊎◌, ℕ, ◌+◌, ◌*◌, ◌<◌, ◌≤◌, Bool, true, false, List, length, slice_index, sum_by, ◌==◌, refl, sym, ap, ap₂, subst, ◌∙◌, inl, inr, if◌then◌else◌, arith}
use Rattle.std.proofs.lemmas.Bool.{cases_lt}
use Rattle.im_base_types.specs.declared.page_kind.PageKind.{PageKind}
use Rattle.im_base_types.specs.declared.page_kind.PageKind.TheVariants.{Free, Meta, Leaf, Inner}
use Rattle.im_base_types.specs.Pages.{Entry}
use Rattle.im_theory_page.specs.Number.{u32_at, u64_at, SameOutside}
use Rattle.im_theory_page.specs.Entry.{no_entry, size}
use Rattle.im_theory_page.specs.Form.{count_of, start_of, slot_at, key_from, cell_size, entry_from, entries_of, IsPacked}
use Rattle.im_theory_page.specs.Header.{FitsKind, HasPrev, HasNext, HasLeftmost}
use Rattle.im_theory_page.specs.Page.{kind_of, is_leaf, said_by, IsPageHeader, IsForm, HoldsEntries, with_entries}
use Rattle.im_page.proofs.CellLemmas.{SameBytes, same_entry, same_u32, same_number}
use Rattle.im_page.proofs.HeaderLemmas.{same_page}
use Rattle.im_page.proofs.ListLemmas.{made, made_same}

-- the bytes of slots and cells, with count and cell start, stay
pub record SameCells (old new : List ℕ) : Type 0 where
  pub len : length new ≡ length old
  pub counts : (k : ℕ) → 12 ≤ k → k < 16 → slice_index new k ≡ slice_index old k
  pub cells : (k : ℕ) → 32 ≤ k → slice_index new k ≡ slice_index old k

pub cells_same : (old new : List ℕ) (from to : ℕ) → SameOutside old new from to → (from < 16 → to ≤ 12) → to ≤ 32 → SameCells old new
cells_same old new from to h beside low = record {
  len = h.len;
  counts = λ k a b. ⊎_elim (λ (x : k < from). h.below k x) (λ (x : from ≤ k). let y : to ≤ 12 = beside (omega arith) in h.above k (omega arith)) (cases_lt k from);
  cells = λ k a. h.above k (omega arith);
}

same_count : (old new : List ℕ) → SameCells old new → count_of new ≡ count_of old
same_count old new h = ap₂ (λ a b. a * 256 + b) (h.counts 12 (omega arith) (omega arith)) (h.counts 13 (omega arith) (omega arith))

same_start : (old new : List ℕ) → SameCells old new → start_of new ≡ start_of old
same_start old new h = ap₂ (λ a b. a * 256 + b) (h.counts 14 (omega arith) (omega arith)) (h.counts 15 (omega arith) (omega arith))

same_slot : (old new : List ℕ) → SameCells old new → (i : ℕ) → slot_at new i ≡ slot_at old i
same_slot old new h i = ap₂ (λ a b. a * 256 + b) (h.cells (32 + 2 * i) (omega arith)) (h.cells (32 + 2 * i + 1) (omega arith))

-- cell i is the same
record SameCell (leaf : Bool) (old new : List ℕ) (i : ℕ) : Type 0 where
  slot : slot_at new i ≡ slot_at old i
  len : slice_index new (slot_at new i) ≡ slice_index old (slot_at old i)
  entry : entry_from leaf new (slot_at new i) ≡ entry_from leaf old (slot_at old i)

same_cell : (leaf : Bool) (old new : List ℕ) → SameCells old new → IsPacked leaf old → (i : ℕ) → i < count_of old → SameCell leaf old new i
same_cell leaf old new h p i lt =
    let slot = same_slot old new h i in
    let at : ℕ = slot_at old i in
    let low : 32 ≤ at = omega (arith, p.low i lt, p.slots) in
    let same : SameBytes old new at at (cell_size leaf old at) = record { same = λ k kl. h.cells (at + k) (omega arith) } in
    record {
      slot = slot;
      len = ap (slice_index new) slot ∙ h.cells at low;
      entry = ap (entry_from leaf new) slot ∙ same_entry leaf old new at at same (omega (arith, p.high i lt, p.len)) (omega (arith, p.high i lt, p.len, h.len));
    }

pub entries_kept : (leaf : Bool) (old new : List ℕ) → SameCells old new → IsPacked leaf old → entries_of leaf new ≡ entries_of leaf old
unfolding entries_of
entries_kept leaf old new h p =
    ap (made (λ i. entry_from leaf new (slot_at new i))) (same_count old new h)
    ∙ made_same no_entry (λ i. entry_from leaf old (slot_at old i)) (λ i. entry_from leaf new (slot_at new i)) (count_of old) (λ i lt. (same_cell leaf old new h p i lt).entry)

pub packed_kept : (leaf : Bool) (old new : List ℕ) → SameCells old new → IsPacked leaf old → IsPacked leaf new
unfolding entry_from
packed_kept leaf old new h p =
    let count = same_count old new h in
    let start = same_start old new h in
    let cell : (i : ℕ) → i < count_of new → SameCell leaf old new i = λ i lt. same_cell leaf old new h p i (omega arith) in
    record {
      len = h.len ∙ p.len;
      slots = omega (arith, p.slots);
      start = omega (arith, p.start);
      low = λ i lt. omega (arith, p.low i (omega arith), (cell i lt).slot);
      high = λ i lt. omega (arith, p.high i (omega arith), (cell i lt).slot, (cell i lt).len);
      keyed = λ i lt. omega (arith, p.keyed i (omega arith), (cell i lt).len);
      apart = λ i j li lj ne. ⊎_elim
          (λ (x : slot_at old i + cell_size leaf old (slot_at old i) ≤ slot_at old j). inl (omega (arith, (cell i li).slot, (cell i li).len, (cell j lj).slot)))
          (λ (x : slot_at old j + cell_size leaf old (slot_at old j) ≤ slot_at old i). inr (omega (arith, (cell j lj).slot, (cell j lj).len, (cell i li).slot)))
          (p.apart i j (omega arith) (omega arith) ne);
      full = omega (arith, p.full, ap (sum_by (size leaf)) (entries_kept leaf old new h p));
      clear = λ k low high. h.cells k (omega arith) ∙ p.clear k (omega arith) (omega arith);
      rises = λ i j ij lj.
          let left : key_from new (slot_at new i) ≡ key_from old (slot_at old i) = ap (λ (e : Entry). e.0) (cell i (omega arith)).entry in
          let right : key_from new (slot_at new j) ≡ key_from old (slot_at old j) = ap (λ (e : Entry). e.0) (cell j lj).entry in
          rw (left, right) (p.rises i j ij (omega arith));
    }

-- where a field of the header may be written without the cells changing
abbrev IsField : ℕ → ℕ → Type 0
IsField from to = (to ≤ 8) ⊎ (((10 ≤ from) × (to ≤ 11)) ⊎ ((16 ≤ from) × (to ≤ 28)))

byte : (old new : List ℕ) (from to k : ℕ) → SameOutside old new from to → (from ≤ k → to ≤ k) → slice_index new k ≡ slice_index old k
byte old new from to k h outside = ⊎_elim (λ (x : k < from). h.below k x) (λ (x : from ≤ k). h.above k (outside x)) (cases_lt k from)

four : (old new : List ℕ) (from to at : ℕ) → SameOutside old new from to → (from < at + 4 → to ≤ at) → u32_at new at ≡ u32_at old at
four old new from to at h outside =
    same_u32 old new at at 4 at at
    (record { same = λ k lt. byte old new from to (at + k) h (λ (x : from ≤ at + k). let y : to ≤ at = outside (omega arith) in omega arith) })
    (omega arith) (omega arith) refl

eight : (old new : List ℕ) (from to : ℕ) → SameOutside old new from to → 8 ≤ from → u64_at new 0 ≡ u64_at old 0
eight old new from to h le = same_number true old new 0 0 8 0 0 (record { same = λ k lt. h.below (0 + k) (omega arith) }) (omega arith) (omega arith) refl

cells_of_field : (old new : List ℕ) (from to : ℕ) → SameOutside old new from to → IsField from to → SameCells old new
cells_of_field old new from to h f = cells_same old new from to h (omega arith) (omega arith)

same_kind : (old new : List ℕ) (from to : ℕ) → SameOutside old new from to → IsField from to → slice_index new 8 ≡ slice_index old 8
same_kind old new from to h f = byte old new from to 8 h (omega arith)

form_kept : (old new : List ℕ) (from to : ℕ) → SameOutside old new from to → IsField from to → IsForm old → slice_index new 10 ≤ 1 → IsPageHeader new → IsForm new
form_kept old new from to h f form mark header =
    let kind = same_kind old new from to h f in
    record {
      kind = omega (arith, kind, form.kind);
      flags = mark;
      zero = byte old new from to 11 h (omega arith) ∙ form.zero;
      zeros = four old new from to 28 h (omega arith) ∙ form.zeros;
      header = header;
      packed = subst (λ b. IsPacked (b == 2) new) (sym kind) (packed_kept (is_leaf old) old new (cells_of_field old new from to h f) form.packed);
    }

entries_said : (old new : List ℕ) (from to : ℕ) → SameOutside old new from to → IsField from to → IsForm old → entries_of (is_leaf new) new ≡ entries_of (is_leaf old) old
entries_said old new from to h f form =
    ap (λ b. entries_of (b == 2) new) (same_kind old new from to h f) ∙ entries_kept (is_leaf old) old new (cells_of_field old new from to h f) form.packed

count_kept : (old new : List ℕ) (from to : ℕ) → SameOutside old new from to → IsField from to → count_of new ≡ count_of old
count_kept old new from to h f = same_count old new (cells_of_field old new from to h f)

pub lsn_written : (old new : List ℕ) (v : ℕ) → IsForm old → SameOutside old new 0 8 → u64_at new 0 ≡ v
    → IsForm new × (said_by new ≡ record (said_by old) { lsn = v })
lsn_written old new v form h is =
    let f : IsField 0 8 = inl (omega arith) in
    let kind = same_kind old new 0 8 h f in
    let level = byte old new 0 8 9 h (omega arith) in
    let mark = byte old new 0 8 10 h (omega arith) in
    let prev = four old new 0 8 16 h (omega arith) in
    let next = four old new 0 8 20 h (omega arith) in
    let leftmost = four old new 0 8 24 h (omega arith) in (
      form_kept old new 0 8 h f form (omega (arith, mark, form.flags)) (rw (kind, level, prev, next, leftmost, count_kept old new 0 8 h f) form.header),
      same_page (said_by new) (record (said_by old) { lsn = v }) is (ap kind_of kind) level (ap (λ b. b == 1) mark) prev next leftmost (entries_said old new 0 8 h f form),
    )

pub mark_written : (old new : List ℕ) (v : Bool) → IsForm old → SameOutside old new 10 11 → slice_index new 10 ≡ (if v then 1 else 0)
    → IsForm new × (said_by new ≡ record (said_by old) { body = record (said_by old).body { marked = v } })
mark_written old new v form h is =
    let f : IsField 10 11 = inr (inl (omega arith, omega arith)) in
    let kind = same_kind old new 10 11 h f in
    let level = byte old new 10 11 9 h (omega arith) in
    let prev = four old new 10 11 16 h (omega arith) in
    let next = four old new 10 11 20 h (omega arith) in
    let leftmost = four old new 10 11 24 h (omega arith) in (
      form_kept old new 10 11 h f form (rw is (small v)) (rw (kind, level, prev, next, leftmost, count_kept old new 10 11 h f) form.header),
      same_page (said_by new) (record (said_by old) { body = record (said_by old).body { marked = v } }) (eight old new 10 11 h (omega arith)) (ap kind_of kind) level
          (ap (λ b. b == 1) is ∙ read_back v) prev next leftmost (entries_said old new 10 11 h f form),
    )
  where
    small : (b : Bool) → (if b then 1 else 0) ≤ 1
    small true = omega arith
    small false = omega arith

    read_back : (b : Bool) → ((if b then 1 else 0) == 1) ≡ b
    read_back true = refl
    read_back false = refl

-- a kind that has the field may have any value in it
any_prev : (kind : PageKind) (level prev next leftmost count v : ℕ) → HasPrev kind → FitsKind kind level prev next leftmost count → FitsKind kind level v next leftmost count
any_prev Free level prev next leftmost count v has fits = absurd (⊎_elim (λ (e : Free ≡ Meta). cc) (λ (e : Free ≡ Leaf). cc) has)
any_prev Meta level prev next leftmost count v has fits = fits
any_prev Leaf level prev next leftmost count v has fits = fits
any_prev Inner level prev next leftmost count v has fits = absurd (⊎_elim (λ (e : Inner ≡ Meta). cc) (λ (e : Inner ≡ Leaf). cc) has)

any_next : (kind : PageKind) (level prev next leftmost count v : ℕ) → HasNext kind → FitsKind kind level prev next leftmost count → FitsKind kind level prev v leftmost count
any_next Free level prev next leftmost count v has fits = fits
any_next Meta level prev next leftmost count v has fits = fits
any_next Leaf level prev next leftmost count v has fits = fits
any_next Inner level prev next leftmost count v has fits =
    absurd (⊎_elim (λ (e : Inner ≡ Free). cc) (λ (h : (Inner ≡ Meta) ⊎ (Inner ≡ Leaf)). ⊎_elim (λ (e : Inner ≡ Meta). cc) (λ (e : Inner ≡ Leaf). cc) h) has)

any_leftmost : (kind : PageKind) (level prev next leftmost count v : ℕ) → HasLeftmost kind → FitsKind kind level prev next leftmost count → FitsKind kind level prev next v count
any_leftmost Free level prev next leftmost count v has fits = absurd (⊎_elim (λ (e : Free ≡ Meta). cc) (λ (e : Free ≡ Inner). cc) has)
any_leftmost Meta level prev next leftmost count v has fits = fits
any_leftmost Leaf level prev next leftmost count v has fits = absurd (⊎_elim (λ (e : Leaf ≡ Meta). cc) (λ (e : Leaf ≡ Inner). cc) has)
any_leftmost Inner level prev next leftmost count v has fits = fits

pub prev_written : (old new : List ℕ) (v : ℕ) → IsForm old → HasPrev (said_by old).body.kind → SameOutside old new 16 20 → u32_at new 16 ≡ v
    → IsForm new × (said_by new ≡ record (said_by old) { body = record (said_by old).body { prev = v } })
prev_written old new v form has h is =
    let f : IsField 16 20 = inr (inr (omega arith, omega arith)) in
    let kind = same_kind old new 16 20 h f in
    let level = byte old new 16 20 9 h (omega arith) in
    let mark = byte old new 16 20 10 h (omega arith) in
    let next = four old new 16 20 20 h (omega arith) in
    let leftmost = four old new 16 20 24 h (omega arith) in (
      form_kept old new 16 20 h f form (omega (arith, mark, form.flags))
          (rw (kind, level, is, next, leftmost, count_kept old new 16 20 h f) (any_prev _ _ _ _ _ _ v has form.header)),
      same_page (said_by new) (record (said_by old) { body = record (said_by old).body { prev = v } }) (eight old new 16 20 h (omega arith)) (ap kind_of kind) level
          (ap (λ b. b == 1) mark) is next leftmost (entries_said old new 16 20 h f form),
    )

pub next_written : (old new : List ℕ) (v : ℕ) → IsForm old → HasNext (said_by old).body.kind → SameOutside old new 20 24 → u32_at new 20 ≡ v
    → IsForm new × (said_by new ≡ record (said_by old) { body = record (said_by old).body { next = v } })
next_written old new v form has h is =
    let f : IsField 20 24 = inr (inr (omega arith, omega arith)) in
    let kind = same_kind old new 20 24 h f in
    let level = byte old new 20 24 9 h (omega arith) in
    let mark = byte old new 20 24 10 h (omega arith) in
    let prev = four old new 20 24 16 h (omega arith) in
    let leftmost = four old new 20 24 24 h (omega arith) in (
      form_kept old new 20 24 h f form (omega (arith, mark, form.flags))
          (rw (kind, level, prev, is, leftmost, count_kept old new 20 24 h f) (any_next _ _ _ _ _ _ v has form.header)),
      same_page (said_by new) (record (said_by old) { body = record (said_by old).body { next = v } }) (eight old new 20 24 h (omega arith)) (ap kind_of kind) level
          (ap (λ b. b == 1) mark) prev is leftmost (entries_said old new 20 24 h f form),
    )

pub leftmost_written : (old new : List ℕ) (v : ℕ) → IsForm old → HasLeftmost (said_by old).body.kind → SameOutside old new 24 28 → u32_at new 24 ≡ v
    → IsForm new × (said_by new ≡ record (said_by old) { body = record (said_by old).body { leftmost = v } })
leftmost_written old new v form has h is =
    let f : IsField 24 28 = inr (inr (omega arith, omega arith)) in
    let kind = same_kind old new 24 28 h f in
    let level = byte old new 24 28 9 h (omega arith) in
    let mark = byte old new 24 28 10 h (omega arith) in
    let prev = four old new 24 28 16 h (omega arith) in
    let next = four old new 24 28 20 h (omega arith) in (
      form_kept old new 24 28 h f form (omega (arith, mark, form.flags))
          (rw (kind, level, prev, next, is, count_kept old new 24 28 h f) (any_leftmost _ _ _ _ _ _ v has form.header)),
      same_page (said_by new) (record (said_by old) { body = record (said_by old).body { leftmost = v } }) (eight old new 24 28 h (omega arith)) (ap kind_of kind) level
          (ap (λ b. b == 1) mark) prev next is (entries_said old new 24 28 h f form),
    )

any_count : (kind : PageKind) (level prev next leftmost count n : ℕ) → HoldsEntries kind → FitsKind kind level prev next leftmost count → FitsKind kind level prev next leftmost n
any_count Free level prev next leftmost count n holds fits = absurd (⊎_elim (λ (e : Free ≡ Leaf). cc) (λ (e : Free ≡ Inner). cc) holds)
any_count Meta level prev next leftmost count n holds fits = absurd (⊎_elim (λ (e : Meta ≡ Leaf). cc) (λ (e : Meta ≡ Inner). cc) holds)
any_count Leaf level prev next leftmost count n holds fits = fits
any_count Inner level prev next leftmost count n holds fits = fits

-- where slots and cells are written and nothing else, the page has other entries
pub entries_written : (old new : List ℕ) → IsForm old → HoldsEntries (said_by old).body.kind → IsPacked (is_leaf old) new
    → ((k : ℕ) → k < 12 → slice_index new k ≡ slice_index old k) → ((k : ℕ) → 16 ≤ k → k < 32 → slice_index new k ≡ slice_index old k)
    → IsForm new × (said_by new ≡ with_entries (said_by old) (entries_of (is_leaf old) new))
entries_written old new form holds packed head links =
    let kind : slice_index new 8 ≡ slice_index old 8 = head 8 (omega arith) in
    let level : slice_index new 9 ≡ slice_index old 9 = head 9 (omega arith) in
    let mark : slice_index new 10 ≡ slice_index old 10 = head 10 (omega arith) in
    let lsn : u64_at new 0 ≡ u64_at old 0 = same_number true old new 0 0 8 0 0 (record { same = λ k lt. head (0 + k) (omega arith) }) (omega arith) (omega arith) refl in
    let word : (at : ℕ) → 16 ≤ at → at ≤ 28 → u32_at new at ≡ u32_at old at =
    λ at a b. same_u32 old new at at 4 at at (record { same = λ k lt. links (at + k) (omega arith) (omega arith) }) (omega arith) (omega arith) refl in
    let prev : u32_at new 16 ≡ u32_at old 16 = word 16 (omega arith) (omega arith) in
    let next : u32_at new 20 ≡ u32_at old 20 = word 20 (omega arith) (omega arith) in
    let leftmost : u32_at new 24 ≡ u32_at old 24 = word 24 (omega arith) (omega arith) in (
      record {
        kind = omega (arith, kind, form.kind);
        flags = omega (arith, mark, form.flags);
        zero = head 11 (omega arith) ∙ form.zero;
        zeros = word 28 (omega arith) (omega arith) ∙ form.zeros;
        header = rw (kind, level, prev, next, leftmost) (any_count _ _ _ _ _ _ (count_of new) holds form.header);
        packed = subst (λ b. IsPacked (b == 2) new) (sym kind) packed;
      },
      same_page (said_by new) (with_entries (said_by old) (entries_of (is_leaf old) new)) lsn (ap kind_of kind) level (ap (λ b. b == 1) mark) prev next leftmost
          (ap (λ b. entries_of (b == 2) new) kind),
    )
