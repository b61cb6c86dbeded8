-- The pages of a file of pages before and after a change at one page's place.
use Rattle.std.proofs.Common.{◌≡◌, ⊎_elim, ℕ, ◌+◌, ◌-◌, ◌*◌, ◌<◌, ◌≤◌, min, List, ◌++◌, length, take, drop, length-take, length-drop, length-append, append_assoc, take-take, drop-drop, Some, sym, ◌∙◌, ap, arith}
use Rattle.std.specs.Prelude.{nat_lt}
use Rattle.std.proofs.lemmas.Bool.{cases_lt, cond-true, cond-false, lt-ltb, le-ltb}
use Rattle.std.proofs.lemmas.List.{drop-take, take_at, drop_at}
use Rattle.im_theory_page.specs.Header.{initial}
use Rattle.im_theory_page.specs.Page.{page_of}
use Rattle.im_theory_page.specs.PageFile.{page_count, page_bytes, file_page}

-- ---- the page count

pub counted : (file : List ℕ) (p : ℕ) → p * 4096 + 4096 ≤ length file → p < page_count file
counted file p within = omega (arith, within)

pub counted_within : (file : List ℕ) (p : ℕ) → p < page_count file → p * 4096 + 4096 ≤ length file
counted_within file p less = omega (arith, less)

-- where a page up to the count may be written
pub place_within : (file : List ℕ) (p : ℕ) → p ≤ page_count file → p * 4096 ≤ length file
place_within file p le = omega (arith, le)

pub page_here : (file : List ℕ) (p : ℕ) → p * 4096 + 4096 ≤ length file → file_page file p ≡ page_of (page_bytes file p)
unfolding file_page
page_here file p within = cond-true (nat_lt p (page_count file)) (page_of (page_bytes file p)) (Some (initial p)) (lt-ltb p (page_count file) (counted file p within))

pub page_past : (file : List ℕ) (p : ℕ) → length file < p * 4096 + 4096 → file_page file p ≡ Some (initial p)
unfolding file_page
page_past file p past =
    let le : page_count file ≤ p = omega (arith, past) in
    cond-false (nat_lt p (page_count file)) (page_of (page_bytes file p)) (Some (initial p)) (le-ltb p (page_count file) le)

-- ---- the other pages

-- a page that both files have with the same bytes, or neither has
page_same : (old new : List ℕ) (q : ℕ) → (q * 4096 + 4096 ≤ length old → q * 4096 + 4096 ≤ length new) → (length old < q * 4096 + 4096 → length new < q * 4096 + 4096)
    → page_bytes new q ≡ page_bytes old q → file_page new q ≡ file_page old q
page_same old new q both neither same = ⊎_elim
    (λ (past : length old < q * 4096 + 4096). page_past new q (neither past) ∙ sym (page_past old q past))
    (λ (within : q * 4096 + 4096 ≤ length old). page_here new q (both within) ∙ ap page_of same ∙ sym (page_here old q within))
    (cases_lt (length old) (q * 4096 + 4096))

-- a part of a front is that part of the whole
part_of_front : (n m k : ℕ) (bytes : List ℕ) → n + m ≤ k → take m (drop n (take k bytes)) ≡ take m (drop n bytes)
part_of_front n m k bytes le =
    let rest : k ≡ n + (k - n) = omega (arith, le) in
    ap (λ (j : ℕ). take m (drop n (take j bytes))) rest
    ∙ ap (λ (l : List ℕ). take m l) (drop-take n (k - n) bytes)
    ∙ take-take m (k - n) (drop n bytes) (omega (arith, le))

-- where the bytes before page p stay, each page before it does
pub same_before : (old new : List ℕ) (p q : ℕ) → take (p * 4096) new ≡ take (p * 4096) old → q < p → file_page new q ≡ file_page old q
same_before old new p q same less =
    let lengths : min (p * 4096) (length new) ≡ min (p * 4096) (length old) = sym (length-take (p * 4096) new) ∙ ap length same ∙ length-take (p * 4096) old in
    let le : q * 4096 + 4096 ≤ p * 4096 = omega (arith, less) in
    page_same old new q (λ within. omega (arith, lengths, le, within)) (λ past. omega (arith, lengths, le, past))
    (sym (part_of_front (q * 4096) 4096 (p * 4096) new le)
    ∙ ap (λ (l : List ℕ). take 4096 (drop (q * 4096) l)) same
    ∙ part_of_front (q * 4096) 4096 (p * 4096) old le)

-- where the bytes after page p stay, each page after it does
pub same_behind : (old new : List ℕ) (p q : ℕ) → drop (p * 4096 + 4096) new ≡ drop (p * 4096 + 4096) old → p < q → file_page new q ≡ file_page old q
same_behind old new p q same less =
    let lengths : length new - (p * 4096 + 4096) ≡ length old - (p * 4096 + 4096) = sym (length-drop (p * 4096 + 4096) new) ∙ ap length same ∙ length-drop (p * 4096 + 4096) old in
    let le : p * 4096 + 4096 ≤ q * 4096 = omega (arith, less) in
    let at : p * 4096 + 4096 + (q * 4096 - (p * 4096 + 4096)) ≡ q * 4096 = omega (arith, le) in
    page_same old new q (λ within. omega (arith, lengths, le, within)) (λ past. omega (arith, lengths, le, past))
    (ap (λ (l : List ℕ). take 4096 l)
    (ap (λ (j : ℕ). drop j new) (sym at) ∙ sym (drop-drop (q * 4096 - (p * 4096 + 4096)) (p * 4096 + 4096) new)
    ∙ ap (λ (l : List ℕ). drop (q * 4096 - (p * 4096 + 4096)) l) same
    ∙ drop-drop (q * 4096 - (p * 4096 + 4096)) (p * 4096 + 4096) old ∙ ap (λ (j : ℕ). drop j old) at))

-- ---- the page that is written

module _ (old bytes new : List ℕ) (p : ℕ) (place : p * 4096 ≤ length old) (whole : length bytes ≡ 4096)
    (is : new ≡ take (p * 4096) old ++ bytes ++ drop (p * 4096 + length bytes) old) where
  front : length (take (p * 4096) old) ≡ p * 4096
  front = omega (arith, length-take (p * 4096) old, place)

  apart : new ≡ take (p * 4096) old ++ (bytes ++ drop (p * 4096 + length bytes) old)
  apart = is ∙ append_assoc (take (p * 4096) old) bytes (drop (p * 4096 + length bytes) old)

  long : p * 4096 + 4096 ≤ length new
  long = omega (arith, ap length is, length-append (take (p * 4096) old ++ bytes) (drop (p * 4096 + length bytes) old), length-append (take (p * 4096) old) bytes, front, whole)

  -- it is what was written
  pub written_here : file_page new p ≡ page_of bytes
  written_here =
      let bytes_are : page_bytes new p ≡ bytes =
      ap (λ (l : List ℕ). take 4096 (drop (p * 4096) l)) apart
      ∙ ap (λ (l : List ℕ). take 4096 l) (drop_at (take (p * 4096) old) (bytes ++ drop (p * 4096 + length bytes) old) (p * 4096) front)
      ∙ take_at bytes (drop (p * 4096 + length bytes) old) 4096 whole in
      page_here new p long ∙ ap page_of bytes_are

  pub written_before : take (p * 4096) new ≡ take (p * 4096) old
  written_before = ap (λ (l : List ℕ). take (p * 4096) l) apart ∙ take_at (take (p * 4096) old) (bytes ++ drop (p * 4096 + length bytes) old) (p * 4096) front

  pub written_behind : drop (p * 4096 + 4096) new ≡ drop (p * 4096 + 4096) old
  written_behind =
      let size : length (take (p * 4096) old ++ bytes) ≡ p * 4096 + 4096 = omega (arith, length-append (take (p * 4096) old) bytes, front, whole) in
      ap (λ (l : List ℕ). drop (p * 4096 + 4096) l) is
      ∙ drop_at (take (p * 4096) old ++ bytes) (drop (p * 4096 + length bytes) old) (p * 4096 + 4096) size
      ∙ ap (λ (n : ℕ). drop (p * 4096 + n) old) whole
