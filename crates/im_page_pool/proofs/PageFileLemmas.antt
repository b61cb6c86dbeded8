-- The pages of a file before and after one of them was written.
use Rattle.std.proofs.Common.{◌≡◌, true, false, ⊎_elim, ℕ, ◌+◌, ◌-◌, ◌*◌, ◌/◌, ◌<◌, ◌≤◌, min, max, nat_lt, List, ◌++◌, length, take, drop, Some, sym, ap, subst, ◌∙◌, arith, length-take, length-drop, length-append}
use Rattle.std.proofs.lemmas.Bool.{cases_lt}
use Rattle.std.proofs.lemmas.Bool.Decides.{nat_tests}
use Rattle.std.proofs.lemmas.List.{take-take, drop-drop, drop-take, take_at, drop_at, append_assoc, length-take-le}
use Rattle.im_base_types.specs.Pages.{Page}
use Rattle.im_base_types.specs.declared.file_id.FileId.TheVariants.{Pages}
use Rattle.im_theory_page.specs.Header.{initial}
use Rattle.im_theory_page.specs.Page.{page_of}
use Rattle.im_base_disk.specs.Disk.{Files, Holds, Torn, InFile, Stepped, Follows}
use Rattle.im_theory_page.specs.PageFile.{page_count, page_bytes, file_page}
use Rattle.im_page_pool.specs.Writes.{WritesPage, TearsPage}

pub file_page_within : (file : List ℕ) (p : ℕ) → p < page_count file → file_page file p ≡ page_of (page_bytes file p)
unfolding file_page
file_page_within file p h = let t : nat_lt p (page_count file) ≡ true = grind (arith, nat_tests) in rw t

pub file_page_past : (file : List ℕ) (p : ℕ) → page_count file ≤ p → file_page file p ≡ Some (initial p)
unfolding file_page
file_page_past file p h = let t : nat_lt p (page_count file) ≡ false = grind (arith, nat_tests) in rw t

-- what reading finds: the length that the disk tells, and past it the initial page
pub read_past : (file : List ℕ) (n p : ℕ) (page : Page) → n ≡ length file → n / 4096 ≤ p → page ≡ initial p → file_page file p ≡ Some page
read_past file n p page len past is = let e = ap (λ (k : ℕ). k / 4096) len in file_page_past file p (omega arith) ∙ ap (λ (x : Page). Some x) (sym is)

-- else the page that its bytes are
pub read_within : (file : List ℕ) (n p : ℕ) → n ≡ length file → p < n / 4096 → page_of (page_bytes file p) ≡ file_page file p
read_within file n p len within = let e = ap (λ (k : ℕ). k / 4096) len in sym (file_page_within file p (omega arith))

-- a page whose bytes are the same, in a file that has it as well, or in which it is past the end as well
same_page : (old new : List ℕ) (q : ℕ) → (q < page_count old → (q < page_count new) × (page_bytes new q ≡ page_bytes old q)) → (page_count old ≤ q → page_count new ≤ q) → file_page new q ≡ file_page old q
same_page old new q has past =
    ⊎_elim (λ (h : q < page_count old). let e = has h in file_page_within new q e.0 ∙ ap page_of e.1 ∙ sym (file_page_within old q h))
    (λ (h : page_count old ≤ q). file_page_past new q (past h) ∙ sym (file_page_past old q h))
    (cases_lt q (page_count old))

-- bytes within a front are those of the whole
within_front : (n m at : ℕ) (xs : List ℕ) → m + n ≤ at → take n (drop m (take at xs)) ≡ take n (drop m xs)
within_front n m at xs h =
    let e : m + (at - m) ≡ at = omega arith in
    subst (λ (k : ℕ). take n (drop m (take k xs)) ≡ take n (drop m xs)) e (ap (take n) (drop-take m (at - m) xs) ∙ take-take n (at - m) (drop m xs) (omega arith))

below : (p : ℕ) (old new : List ℕ) → Torn (p * 4096) 4096 old new → (q : ℕ) → q < p → file_page new q ≡ file_page old q
below p old new torn q lt =
    let len : min (p * 4096) (length new) ≡ min (p * 4096) (length old) = sym (length-take (p * 4096) new) ∙ ap length torn.before ∙ length-take (p * 4096) old in
    let up : length old ≤ length new = torn.no_shorter in
    same_page old new q
    (λ h. (omega arith, sym (within_front 4096 (q * 4096) (p * 4096) new (omega arith)) ∙ ap (λ (l : List ℕ). take 4096 (drop (q * 4096) l)) torn.before ∙ within_front 4096 (q * 4096) (p * 4096) old (omega arith)))
    (λ h. omega arith)

above : (p : ℕ) (old new : List ℕ) → Torn (p * 4096) 4096 old new → (q : ℕ) → p < q → file_page new q ≡ file_page old q
above p old new torn q lt =
    let at : ℕ = p * 4096 + 4096 in
    let e : at + (q * 4096 - at) ≡ q * 4096 = omega arith in
    let up : length old ≤ length new = torn.no_shorter in
    let down : length new ≤ max (length old) at = torn.no_longer in
    let rest : drop (q * 4096) new ≡ drop (q * 4096) old = subst (λ (k : ℕ). drop k new ≡ drop k old) e (sym (drop-drop (q * 4096 - at) at new) ∙ ap (drop (q * 4096 - at)) torn.after ∙ drop-drop (q * 4096 - at) at old) in
    same_page old new q
    (λ h. (omega arith, ap (take 4096) rest))
    (λ h. omega arith)

-- a torn write of a page leaves each other page as it was
pub tears_page : (p : ℕ) (old new : List ℕ) → Torn (p * 4096) 4096 old new → TearsPage p old new
tears_page p old new torn = record {
  range = torn;
  others = λ q ne. ⊎_elim (λ (h : q < p). below p old new torn q h) (λ (h : p ≤ q). above p old new torn q (omega (arith, ne))) (cases_lt q p);
}

module _ (p : ℕ) (page : Page) (bytes old new : List ℕ) (len : length bytes ≡ 4096) (place : p * 4096 ≤ length old) (holds : Holds (p * 4096) bytes old new) where
  abbrev rest : List ℕ
  rest = drop (p * 4096 + length bytes) old

  split : new ≡ take (p * 4096) old ++ (bytes ++ rest)
  split = holds ∙ append_assoc (take (p * 4096) old) bytes rest

  front : length (take (p * 4096) old) ≡ p * 4096
  front = length-take-le (p * 4096) old place

  long : length new ≡ max (length old) (p * 4096 + 4096)
  long =
      ap length split
      ∙ (let a = length-append (take (p * 4096) old) (bytes ++ rest) in
      let b = length-append bytes rest in
      let c = front in
      let d = length-drop (p * 4096 + length bytes) old in
      omega arith)

  has_bytes : page_bytes new p ≡ bytes
  has_bytes =
      ap (λ (l : List ℕ). take 4096 (drop (p * 4096) l)) split
      ∙ ap (take 4096) (drop_at (take (p * 4096) old) (bytes ++ rest) (p * 4096) front)
      ∙ take_at bytes rest 4096 len

  torn : Torn (p * 4096) 4096 old new
  torn = record {
    before = ap (take (p * 4096)) split ∙ take_at (take (p * 4096) old) (bytes ++ rest) (p * 4096) front;
    after =
        ap (drop (p * 4096 + 4096)) holds
        ∙ drop_at (take (p * 4096) old ++ bytes) rest (p * 4096 + 4096) (let a = length-append (take (p * 4096) old) bytes in let b = front in omega arith)
        ∙ ap (λ (n : ℕ). drop (p * 4096 + n) old) len;
    no_shorter = let a = long in omega arith;
    no_longer = let a = long in omega arith;
  }

  -- a whole write of a page
  pub writes_page : page_of bytes ≡ Some page → WritesPage p page old new
  writes_page is = record {
    here = let a = long in file_page_within new p (omega arith) ∙ ap page_of has_bytes ∙ is;
    others = (tears_page p old new torn).others;
    count = let a = long in omega arith;
  }

-- what a stop leaves of the file after a torn write of a page
module _ (p n : ℕ) (old : Files → Type 0) (len : n ≡ 4096) where
  pub stepped : (c : Files) → Stepped (InFile Pages (Torn (p * 4096) n)) old c → Stepped (InFile Pages (TearsPage p)) old c
  stepped c d = (d.0, d.1, record { changed = tears_page p (d.0 Pages) (c Pages) (subst (λ (k : ℕ). Torn (p * 4096) k (d.0 Pages) (c Pages)) len d.2.changed); others = d.2.others })

pub follows : (p n : ℕ) (old new : Files → Type 0) → n ≡ 4096 → Follows (InFile Pages (Torn (p * 4096) n)) old new → Follows (InFile Pages (TearsPage p)) old new
follows p n old new len f c left = stepped p n old len c (f c left)
