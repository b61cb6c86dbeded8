-- A header that is written, and what stays below it.
use Rattle.std.proofs.Common.{◌≡◌, ℕ, ◌+◌, ◌*◌, ◌<◌, ◌≤◌, Bool, true, List, [], length, map, slice_index, sum_by, ◌==◌, refl, ap, ap₂, ◌∙◌, arith}
use Rattle.std.specs.List.{range_with_len}
use Rattle.im_base_types.specs.declared.page_kind.PageKind.{PageKind}
use Rattle.im_base_types.specs.Pages.{Page}
use Rattle.im_theory_page.specs.Number.{u64_at}
use Rattle.im_theory_page.specs.Entry.{size}
use Rattle.im_theory_page.specs.Form.{count_of, start_of, slot_at, entry_from, entries_of, IsPacked}
use Rattle.im_theory_page.specs.Header.{FitsKind, empty_body}
use Rattle.im_theory_page.specs.Page.{kind_of, is_leaf, said_by, IsForm}
use Rattle.im_page.specs.Edit.{IsErased, HasHeader}
use Rattle.im_page.proofs.CellLemmas.{same_number}

-- pages are the same where their fields are
pub same_page : (p q : Page) → p.lsn ≡ q.lsn → p.body.kind ≡ q.body.kind → p.body.level ≡ q.body.level → p.body.marked ≡ q.body.marked → p.body.prev ≡ q.body.prev
    → p.body.next ≡ q.body.next → p.body.leftmost ≡ q.body.leftmost → p.body.entries ≡ q.body.entries → p ≡ q
same_page p q a b e f g h i j = λ (t : 𝕀). record { lsn = a t; body = record { kind = b t; level = e t; marked = f t; prev = g t; next = h t; leftmost = i t; entries = j t } }

-- a page whose cells begin at the end has no entry
pub none_packed : (leaf : Bool) (bytes : List ℕ) → length bytes ≡ 4096 → count_of bytes ≡ 0 → start_of bytes ≡ 4096
    → ((k : ℕ) → 32 ≤ k → k < 4096 → slice_index bytes k ≡ 0) → IsPacked leaf bytes × (entries_of leaf bytes ≡ [])
unfolding entries_of
none_packed leaf bytes len count start zeros =
    let none : entries_of leaf bytes ≡ [] = ap (λ n. map (λ i. entry_from leaf bytes (slot_at bytes i)) (range_with_len 0 n)) count in (
      record {
        len = len;
        slots = omega (arith, count, start);
        start = omega (arith, start);
        low = λ i lt. absurd (omega (arith, count));
        high = λ i lt. absurd (omega (arith, count));
        keyed = λ i lt. absurd (omega (arith, count));
        apart = λ i j lt. absurd (omega (arith, count));
        full = omega (arith, start, ap (sum_by (size leaf)) none);
        clear = λ k low high. zeros k (omega (arith, count)) (omega (arith, start));
        rises = λ i j ij lt. absurd (omega (arith, count));
      },
      none,
    )

-- an erased page with a header is an empty page
pub empty_page : (old mid new : List ℕ) (kind : PageKind) (code level prev next leftmost : ℕ) → length old ≡ 4096 → IsErased old mid
    → HasHeader mid new code level prev next leftmost → kind_of code ≡ kind → code ≤ 3 → FitsKind kind level prev next leftmost 0
    → IsForm new × (said_by new ≡ record { lsn = u64_at old 0; body = empty_body kind level prev next leftmost })
empty_page old mid new kind code level prev next leftmost len erased head is known fits =
    let low : (k : ℕ) → 10 ≤ k → k < 14 → slice_index new k ≡ 0 = λ k a b. head.middle k a (omega arith) ∙ erased.low k (omega arith) b in
    let high : (k : ℕ) → 28 ≤ k → k < 4096 → slice_index new k ≡ 0 = λ k a b. head.high k a ∙ erased.high k (omega arith) b in
    let count : count_of new ≡ 0 = omega (arith, low 12 (omega arith) (omega arith), low 13 (omega arith) (omega arith)) in
    let start : start_of new ≡ 4096 = ap₂ (λ a b. a * 256 + b) (head.middle 14 (omega arith) (omega arith)) (head.middle 15 (omega arith) (omega arith)) ∙ erased.started in
    let kinds : kind_of (slice_index new 8) ≡ kind = ap kind_of head.is_kind ∙ is in
    let none = none_packed (is_leaf new) new (head.len ∙ erased.len ∙ len) count start (λ k a b. high k (omega arith) b) in
    let same : (k : ℕ) → k < 8 → slice_index new k ≡ slice_index old k = λ k lt. head.low k lt ∙ erased.lsn k lt in
    let mark : slice_index new 10 ≡ 0 = low 10 (omega arith) (omega arith) in (
      record {
        kind = omega (arith, head.is_kind);
        flags = omega (arith, mark);
        zero = low 11 (omega arith) (omega arith);
        zeros = omega (arith, high 28 (omega arith) (omega arith), high 29 (omega arith) (omega arith), high 30 (omega arith) (omega arith), high 31 (omega arith) (omega arith));
        header = rw (kinds, head.is_level, head.is_prev, head.is_next, head.is_leftmost, count) fits;
        packed = none.0;
      },
      same_page (said_by new) (record { lsn = u64_at old 0; body = empty_body kind level prev next leftmost })
          (same_number true old new 0 0 8 0 0 (record { same = λ k lt. same (0 + k) (omega arith) }) (omega arith) (omega arith) refl) kinds head.is_level (ap (λ b. b == 1) mark) head.is_prev head.is_next head.is_leftmost none.1,
    )
