-- The form of a page as a fact and as a test.
use Rattle.std.proofs.Common.{suc, ◌≡◌, ◌⊎◌, ℕ, ◌+◌, ◌*◌, ◌<◌, ◌≤◌, Bool, true, false, List, Some, None, length, sum_by, slice_index, refl, ap, inl, inr, ⊎_elim, nat_le, if◌then◌else◌, arith}
use Rattle.std.specs.Bool.{Decides}
use Rattle.std.proofs.lemmas.Bool.{cases_lt, le-leb}
use Rattle.std.proofs.lemmas.Bool.Decides.{Decides-and, Decides-or, Decides-eqb, Decides-like, Decides-below_and, nat_tests}
use Rattle.std.specs.declared.cmp.Ordering.{Ordering}
use Rattle.std.specs.declared.cmp.Ordering.TheVariants.{Less, Equal, Greater}
use Rattle.im_base_types.specs.Keys.{key_order, IsBelow}
use Rattle.im_base_types.specs.declared.page_kind.PageKind.{PageKind}
use Rattle.im_base_types.specs.declared.page_kind.PageKind.TheVariants.{Free, Meta, Leaf, Inner}
use Rattle.im_theory_page.specs.Number.{u32_at}
use Rattle.im_theory_page.specs.Entry.{size}
use Rattle.im_theory_page.specs.Form.{count_of, start_of, slot_at, cell_size, key_from, entries_of, IsPacked}
use Rattle.im_theory_page.specs.Tests as tests
use Rattle.im_theory_page.specs.Page.{kind_of, is_leaf, said_by, IsForm, is_form, page_of}
use Rattle.im_theory_page.specs.Header.{FitsKind, fits_kind}

le_decides : (a b : ℕ) → Decides (nat_le a b) (a ≤ b)
le_decides a b = (λ e. grind (arith, nat_tests), λ h. le-leb a b h)

below_decides : (test : ℕ → Bool) (P : ℕ → Type 0) → ((k : ℕ) → Decides (test k) (P k)) → (n : ℕ) → Decides (tests.all_below test n) ((k : ℕ) → k < n → P k)
below_decides test P each n = Decides-below_and test P (tests.all_below test) each refl (λ m. refl) n

less_decides : (o : Ordering) → Decides (tests.is_less o) (o ≡ Less)
less_decides Less = (λ e. refl, λ e. refl)
less_decides Equal = (λ e. cc, λ e. cc)
less_decides Greater = (λ e. cc, λ e. cc)

cell_decides : (leaf : Bool) (bytes : List ℕ) (at : ℕ)
    → Decides (tests.is_cell leaf bytes at) ((start_of bytes ≤ at) × ((at + cell_size leaf bytes at ≤ 4096) × (1 ≤ slice_index bytes at)))
cell_decides leaf bytes at =
    Decides-and _ _ (le_decides (start_of bytes) at) (Decides-and _ _ (le_decides (at + cell_size leaf bytes at) 4096) (le_decides 1 (slice_index bytes at)))

apart_decides : (leaf : Bool) (bytes : List ℕ) (i j : ℕ)
    → Decides (tests.are_apart leaf bytes i j) ((i ≡ j) ⊎ ((slot_at bytes i + cell_size leaf bytes (slot_at bytes i) ≤ slot_at bytes j) ⊎ (slot_at bytes j + cell_size leaf bytes (slot_at bytes j) ≤ slot_at bytes i)))
apart_decides leaf bytes i j =
    Decides-or _ _ (Decides-eqb i j)
    (Decides-or _ _ (le_decides (slot_at bytes i + cell_size leaf bytes (slot_at bytes i)) (slot_at bytes j)) (le_decides (slot_at bytes j + cell_size leaf bytes (slot_at bytes j)) (slot_at bytes i)))

order_decides : (bytes : List ℕ) (i j : ℕ) → Decides (tests.is_below bytes i j) (IsBelow (key_from bytes (slot_at bytes i)) (key_from bytes (slot_at bytes j)))
order_decides bytes i j =
    Decides-like (tests.is_below bytes i j) (λ e. record { less = e }) (λ b. b.less) (less_decides (key_order (key_from bytes (slot_at bytes i)) (key_from bytes (slot_at bytes j))))

zero_decides : (bytes : List ℕ) (k : ℕ) → Decides (tests.is_free_zero bytes k) ((slice_index bytes k ≡ 0) ⊎ (suc k ≤ 32 + 2 * count_of bytes))
zero_decides bytes k = Decides-or _ _ (Decides-eqb (slice_index bytes k) 0) (le_decides (suc k) (32 + 2 * count_of bytes))

-- the clauses of the test, one by one
abbrev Clauses : Bool → List ℕ → Type 0
Clauses leaf bytes =
    (length bytes ≡ 4096)
    × ((32 + 2 * count_of bytes ≤ start_of bytes)
    × ((start_of bytes ≤ 4096)
    × (((i : ℕ) → i < count_of bytes → (start_of bytes ≤ slot_at bytes i) × ((slot_at bytes i + cell_size leaf bytes (slot_at bytes i) ≤ 4096) × (1 ≤ slice_index bytes (slot_at bytes i))))
    × (((i : ℕ) → i < count_of bytes → (j : ℕ) → j < count_of bytes → (i ≡ j) ⊎ ((slot_at bytes i + cell_size leaf bytes (slot_at bytes i) ≤ slot_at bytes j) ⊎ (slot_at bytes j + cell_size leaf bytes (slot_at bytes j) ≤ slot_at bytes i)))
    × ((start_of bytes + sum_by (size leaf) (entries_of leaf bytes) ≡ 4096)
    × (((k : ℕ) → k < start_of bytes → (slice_index bytes k ≡ 0) ⊎ (suc k ≤ 32 + 2 * count_of bytes))
    × ((j : ℕ) → j < count_of bytes → (i : ℕ) → i < j → IsBelow (key_from bytes (slot_at bytes i)) (key_from bytes (slot_at bytes j)))))))))

clauses_decided : (leaf : Bool) (bytes : List ℕ) → Decides (tests.is_packed leaf bytes) (Clauses leaf bytes)
clauses_decided leaf bytes =
    Decides-and _ _ (Decides-eqb (length bytes) 4096)
    (Decides-and _ _ (le_decides (32 + 2 * count_of bytes) (start_of bytes))
    (Decides-and _ _ (le_decides (start_of bytes) 4096)
    (Decides-and _ _ (below_decides _ _ (λ i. cell_decides leaf bytes (slot_at bytes i)) (count_of bytes))
    (Decides-and _ _ (below_decides _ _ (λ i. below_decides _ _ (λ j. apart_decides leaf bytes i j) (count_of bytes)) (count_of bytes))
    (Decides-and _ _ (Decides-eqb (start_of bytes + sum_by (size leaf) (entries_of leaf bytes)) 4096)
    (Decides-and _ _ (below_decides _ _ (zero_decides bytes) (start_of bytes))
    (below_decides _ _ (λ j. below_decides _ _ (λ i. order_decides bytes i j) j) (count_of bytes))))))))

pub packed_decided : (leaf : Bool) (bytes : List ℕ) → Decides (tests.is_packed leaf bytes) (IsPacked leaf bytes)
packed_decided leaf bytes =
    Decides-like (tests.is_packed leaf bytes)
    (λ (c : Clauses leaf bytes). record {
      len = c.0;
      slots = c.1.0;
      start = c.1.1.0;
      low = λ i lt. (c.1.1.1.0 i lt).0;
      high = λ i lt. (c.1.1.1.0 i lt).1.0;
      keyed = λ i lt. (c.1.1.1.0 i lt).1.1;
      apart = λ i j li lj ne. ⊎_elim (λ (e : i ≡ j). absurd (ne e)) (λ h. h) (c.1.1.1.1.0 i li j lj);
      full = c.1.1.1.1.1.0;
      clear = λ k low high. ⊎_elim (λ (e : slice_index bytes k ≡ 0). e) (λ (h : suc k ≤ 32 + 2 * count_of bytes). absurd (omega arith)) (c.1.1.1.1.1.1.0 k high);
      rises = λ i j ij lt. c.1.1.1.1.1.1.1 j lt i ij;
    })
    (λ (h : IsPacked leaf bytes). (
      h.len,
      (
        h.slots,
        (
          h.start,
          (
            λ i lt. (h.low i lt, (h.high i lt, h.keyed i lt)),
            (
              λ i li j lj. ⊎_elim (λ (x : i < j). inr (h.apart i j li lj (λ e. omega arith)))
                  (λ (x : j ≤ i). ⊎_elim (λ (y : j < i). inr (h.apart i j li lj (λ e. omega arith))) (λ (y : i ≤ j). inl (omega arith)) (cases_lt j i))
                  (cases_lt i j),
              (
                h.full,
                (
                  λ k high. ⊎_elim (λ (x : k < 32 + 2 * count_of bytes). inr (omega arith)) (λ (x : 32 + 2 * count_of bytes ≤ k). inl (h.clear k x high)) (cases_lt k (32 + 2 * count_of bytes)),
                  λ j lj i ij. h.rises i j ij lj,
                ),
              ),
            ),
          ),
        ),
      ),
    ))
    (clauses_decided leaf bytes)

header_decided : (kind : PageKind) (level prev next leftmost count : ℕ) → Decides (fits_kind kind level prev next leftmost count) (FitsKind kind level prev next leftmost count)
header_decided Free level prev next leftmost count =
    Decides-like (fits_kind Free level prev next leftmost count) (λ h. (h.0, h.1.0, h.1.1.0, h.1.1.1)) (λ (h : FitsKind Free level prev next leftmost count). (h.0, (h.1, (h.2, h.3))))
    (Decides-and _ _ (Decides-eqb level 0) (Decides-and _ _ (Decides-eqb prev 0) (Decides-and _ _ (Decides-eqb leftmost 0) (Decides-eqb count 0))))
header_decided Meta level prev next leftmost count = Decides-and _ _ (Decides-eqb level 0) (Decides-eqb count 0)
header_decided Leaf level prev next leftmost count = Decides-and _ _ (Decides-eqb level 0) (Decides-eqb leftmost 0)
header_decided Inner level prev next leftmost count =
    Decides-like (fits_kind Inner level prev next leftmost count) (λ h. (h.0, h.1.0, h.1.1)) (λ (h : FitsKind Inner level prev next leftmost count). (h.0, (h.1, h.2)))
    (Decides-and _ _ (le_decides 1 level) (Decides-and _ _ (Decides-eqb prev 0) (Decides-eqb next 0)))

pub form_decided : (bytes : List ℕ) → Decides (is_form bytes) (IsForm bytes)
unfolding is_form
form_decided bytes =
    Decides-like (is_form bytes)
    (λ c. record { kind = c.0; flags = c.1.0; zero = c.1.1.0; zeros = c.1.1.1.0; header = c.1.1.1.1.0; packed = c.1.1.1.1.1 })
    (λ (h : IsForm bytes). (h.kind, (h.flags, (h.zero, (h.zeros, (h.header, h.packed))))))
    (Decides-and _ _ (le_decides (slice_index bytes 8) 3)
    (Decides-and _ _ (le_decides (slice_index bytes 10) 1)
    (Decides-and _ _ (Decides-eqb (slice_index bytes 11) 0)
    (Decides-and _ _ (Decides-eqb (u32_at bytes 28) 0)
    (Decides-and _ _ (header_decided (kind_of (slice_index bytes 8)) (slice_index bytes 9) (u32_at bytes 16) (u32_at bytes 20) (u32_at bytes 24) (count_of bytes)) (packed_decided (is_leaf bytes) bytes))))))

-- bytes of the form are the page that they say
pub page_of_form : (bytes : List ℕ) → IsForm bytes → page_of bytes ≡ Some (said_by bytes)
unfolding page_of
page_of_form bytes h = ap (λ t. if t then Some (said_by bytes) else None) ((form_decided bytes).1 h)

-- other bytes are no page
pub no_page : (bytes : List ℕ) → ¬ (IsForm bytes) → page_of bytes ≡ None
unfolding page_of
no_page bytes n = by (is_form bytes) (form_decided bytes)
  where
    by : (t : Bool) → Decides t (IsForm bytes) → (if t then Some (said_by bytes) else None) ≡ None
    by true d = absurd (n (d.0 refl))
    by false d = refl
