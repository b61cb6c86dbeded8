-- The beginning of a file of pages says what page 0 says.
use Rattle.std.proofs.Common.{◌≡◌, ℕ, nat_lt, ◌+◌, ◌*◌, ◌<◌, ◌≤◌, List, length, take, drop, slice_index, Some, None, refl, sym, ◌∙◌, ap, arith, inl, inr, get_or-take, get_or-drop}
use Rattle.std.specs.Int.{w32, w64, from_be_bytes}
use Rattle.std.proofs.lemmas.Bool.{cases_Bool, cond-true, cond-false, lt-ltb}
use Rattle.im_base_types.specs.Pages.{Page}
use Rattle.im_theory_page.specs.Number.{u32_at, u64_at}
use Rattle.im_theory_page.specs.Page.{is_form, page_of, said_by}
use Rattle.im_theory_page.specs.PageFile.{file_page, page_bytes, page_count}
use Rattle.im_theory_page.proofs.PageFileLemmas.{counted_within, page_here}
use Rattle.im_files_belonging.specs.declared.folder.PagesFront.{PagesFront}
use Rattle.im_engine_belonging.specs.Guards.{IsPagesFront, lsn_in}

-- a page that bytes are is what they say
said : (bytes : List ℕ) (g : Page) → page_of bytes ≡ Some g → g ≡ said_by bytes
unfolding page_of
said bytes g is = elim (cases_Bool (is_form bytes)) [
  | inl holds ↦ (let same : Some g ≡ Some (said_by bytes) = sym is ∙ cond-true (is_form bytes) (Some (said_by bytes)) None holds in cc)
  | inr fails ↦ (let clash : None ≡ Some g = sym (cond-false (is_form bytes) (Some (said_by bytes)) None fails) ∙ is in let never : ⊥ = cc in absurd never)
]

-- four bytes as a number
four : (l : List ℕ) → from_be_bytes w32 l ≡ u32_at l 0
four l = omega arith

at_front : (file : List ℕ) (i : ℕ) → i < 4 → slice_index (take 4 (drop 24 (take 28 file))) i ≡ slice_index (take 4096 (drop 0 file)) (24 + i)
at_front file i lt =
    get_or-take 4 (drop 24 (take 28 file)) i 0 lt ∙ get_or-drop 24 (take 28 file) i 0 ∙ get_or-take 28 file (24 + i) 0 (omega (arith, lt)) ∙ sym (get_or-take 4096 (drop 0 file) (24 + i) 0 (omega (arith, lt)) ∙ refl)

count_at : (file : List ℕ) → from_be_bytes w32 (take 4 (drop 24 (take 28 file))) ≡ u32_at (take 4096 (drop 0 file)) 24
count_at file =
    four (take 4 (drop 24 (take 28 file))) ∙ omega (arith, at_front file 0 (omega arith), at_front file 1 (omega arith), at_front file 2 (omega arith), at_front file 3 (omega arith))

-- The page count that the front says is the page's, where there is one, and none else.
pub front_count : (file : List ℕ) (front : PagesFront) (g : Page) → IsPagesFront file front → 4096 ≤ length file → file_page file 0 ≡ Some g → from_be_bytes w32 (take 4 (drop 24 front.bytes)) ≡ g.body.leftmost
front_count file front g is there page =
    ap (λ (l : List ℕ). from_be_bytes w32 (take 4 (drop 24 l))) (is.bytes there)
    ∙ count_at file
    ∙ sym (ap (λ (x : Page). x.body.leftmost) (said (page_bytes file 0) g (sym (page_here file 0 there) ∙ page)))

pub no_count : (file : List ℕ) (front : PagesFront) → IsPagesFront file front → length file < 4096 → from_be_bytes w32 (take 4 (drop 24 front.bytes)) ≡ 0
no_count file front is none = ap (λ (l : List ℕ). from_be_bytes w32 (take 4 (drop 24 l))) (is.none none)

-- ---- the LSN of a page

eight : (l : List ℕ) → from_be_bytes w64 l ≡ u64_at l 0
eight l = omega arith

at_place : (file : List ℕ) (k i : ℕ) → i < 8 → slice_index (take 8 (drop k file)) i ≡ slice_index (take 4096 (drop k file)) i
at_place file k i lt = get_or-take 8 (drop k file) i 0 lt ∙ sym (get_or-take 4096 (drop k file) i 0 (omega (arith, lt)))

lsn_at : (file : List ℕ) (k : ℕ) → from_be_bytes w64 (take 8 (drop k file)) ≡ u64_at (take 4096 (drop k file)) 0
lsn_at file k =
    eight (take 8 (drop k file))
    ∙ omega (arith, at_place file k 0 (omega arith), at_place file k 1 (omega arith), at_place file k 2 (omega arith), at_place file k 3 (omega arith), at_place file k 4 (omega arith), at_place file k 5 (omega arith), at_place file k 6 (omega arith), at_place file k 7 (omega arith))

-- the first bytes of a page that is there are its LSN
pub page_lsn : (file : List ℕ) (p : ℕ) (g : Page) → p < page_count file → file_page file p ≡ Some g → lsn_in file p ≡ g.lsn
page_lsn file p g there page =
    cond-true (nat_lt p (page_count file)) (from_be_bytes w64 (take 8 (drop (p * 4096) file))) 0 (lt-ltb p (page_count file) there)
    ∙ lsn_at file (p * 4096)
    ∙ sym (ap (λ (x : Page). x.lsn) (said (page_bytes file p) g (sym (page_here file p (counted_within file p there)) ∙ page)))
