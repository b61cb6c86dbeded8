-- Page counts that records say, and the pages that they name.
use Rattle.std.proofs.Common.{◌≡◌, ◌≢◌, ◌-◌, ◌^◌, inl, inr, ℕ, ◌∷◌, ◌++◌, max, Bool, true, false, List, Option, None, Some, refl, sym, ◌∙◌, ap, arith, replicate, if◌then◌else◌, ◌==◌, get_or-append-add}
use Rattle.std.proofs.lemmas.Bool.{cases_eq, cond-true, cond-false, eq-eqb, ne_eqb}
use Rattle.im_base_types.specs.Pages.{Page}
use Rattle.im_base_types.specs.Records.{Logged, Unreadable}
use Rattle.im_theory_log.specs.Histories.{Base, History}
use Rattle.im_theory_log.specs.PageCounts.{count_in, first_count}
use Rattle.im_restart_analysis.specs.Orderly.{IsCounted, IsCountedBy, pages_at_first}
use Rattle.im_restart_analysis.specs.Within.{greatest_in, greatest_said}
use Rattle.im_theory_page.specs.Number.{u32_at}
use Rattle.im_theory_page.specs.Page.{is_form, page_of, said_by}
use Rattle.im_log_record.specs.Entry as entries
use Rattle.im_log_record.specs.Entry.{Entry}
use Rattle.im_log.specs.Whats.{image_of, page_behind, smo_of, undo_smo_of, what_of}

-- ---- what a log begins with

-- a log that goes on is bounded by nothing
pub counted_by : (b : Base) (base : ℕ) → IsCounted b base → IsCountedBy (pages_at_first base) b
counted_by b base counted = elim (cases_eq base 0) [
  | inl first ↦ (let is : pages_at_first base ≡ first_count = cond-true (base == 0) first_count (2 ^ 32 - 1) (eq-eqb base 0 first) in let few = counted first in inl (omega (arith, is, few)))
  | inr other ↦ (let is : pages_at_first base ≡ 2 ^ 32 - 1 = cond-false (base == 0) first_count (2 ^ 32 - 1) (ne_eqb base 0 other) in inr (omega (arith, is)))
]

-- ---- what page 0 says, by the bytes after its LSN

said_is : (bytes : List ℕ) (g : Page) → page_of bytes ≡ Some g → said_by bytes ≡ g
unfolding page_of
said_is bytes g is = by (is_form bytes) is
  where
    by : (t : Bool) → (if t then Some (said_by bytes) else None) ≡ Some g → said_by bytes ≡ g
    by true is = cc is
    by false is = absurd (cc is)

pub behind_count : (bytes : List ℕ) (g : Page) → page_behind bytes ≡ Some g → g.body.leftmost ≡ u32_at bytes 16
behind_count bytes g is =
    let said : u32_at (replicate 8 0 ++ bytes) 24 ≡ g.body.leftmost = ap (λ (x : Page). x.body.leftmost) (said_is (replicate 8 0 ++ bytes) g is) in
    let one = get_or-append-add (replicate 8 0) bytes 16 0 in
    let two = get_or-append-add (replicate 8 0) bytes 17 0 in
    let three = get_or-append-add (replicate 8 0) bytes 18 0 in
    let four = get_or-append-add (replicate 8 0) bytes 19 0 in
    omega (arith, said, one, two, three, four)

-- of a structure change's record, where both of its images are pages
pub smo_count : (before after : Option Page) (bytes : List ℕ) → after ≡ page_behind bytes → smo_of before after ≢ Unreadable → count_in (smo_of before after) ≡ u32_at bytes 16
smo_count None after bytes is readable = absurd (readable refl)
smo_count (Some b) None bytes is readable = absurd (readable refl)
smo_count (Some b) (Some a) bytes is readable = behind_count bytes a (sym is)

pub undo_count : (after : Option Page) (bytes : List ℕ) → after ≡ page_behind bytes → undo_smo_of after ≢ Unreadable → count_in (undo_smo_of after) ≡ u32_at bytes 16
undo_count None bytes is readable = absurd (readable refl)
undo_count (Some a) bytes is readable = behind_count bytes a (sym is)

-- a record of this page, with these bytes in its image
pub said_at : (entry : Entry) (p : ℕ) (body : List ℕ) (result : ℕ) → result ≡ (if p == 0 then u32_at body 16 else 0) → entries.page_of entry ≡ p → count_in (what_of entry) ≡ u32_at body 16
    → result ≡ (if entries.page_of entry == 0 then count_in (what_of entry) else 0)
said_at entry p body result says page count =
    says ∙ ap (λ (n : ℕ). if p == 0 then n else 0) (sym count) ∙ ap (λ (q : ℕ). if q == 0 then count_in (what_of entry) else 0) (sym page)

-- ---- the greatest page count that images of page 0 say

-- of the images of a structure change
pub smo_greatest : (before after : Option Page) (old new : List ℕ) → before ≡ page_behind old → after ≡ page_behind new → smo_of before after ≢ Unreadable → greatest_in (smo_of before after) ≡ max (u32_at old 16) (u32_at new 16)
smo_greatest None after old new was is readable = absurd (readable refl)
smo_greatest (Some b) None old new was is readable = absurd (readable refl)
smo_greatest (Some b) (Some a) old new was is readable =
    let low = behind_count old b (sym was) in
    let high = behind_count new a (sym is) in
    ap (λ (n : ℕ). max n a.body.leftmost) low ∙ ap (λ (n : ℕ). max (u32_at old 16) n) high

pub undo_greatest : (after : Option Page) (bytes : List ℕ) → after ≡ page_behind bytes → undo_smo_of after ≢ Unreadable → greatest_in (undo_smo_of after) ≡ u32_at bytes 16
undo_greatest None bytes is readable = absurd (readable refl)
undo_greatest (Some a) bytes is readable = behind_count bytes a (sym is)

pub image_greatest : (copy : Option Page) (bytes : List ℕ) → copy ≡ page_of bytes → image_of copy ≢ Unreadable → greatest_in (image_of copy) ≡ u32_at bytes 24
image_greatest None bytes is readable = absurd (readable refl)
image_greatest (Some c) bytes is readable = ap (λ (g : Page). g.body.leftmost) (sym (said_is bytes c (sym is)))

-- a record of this page, whose images say this
pub greatest_at : (entry : Entry) (p n result : ℕ) → result ≡ (if p == 0 then n else 0) → entries.page_of entry ≡ p → greatest_in (what_of entry) ≡ n
    → result ≡ (if entries.page_of entry == 0 then greatest_in (what_of entry) else 0)
greatest_at entry p n result says page count =
    says ∙ ap (λ (m : ℕ). if p == 0 then m else 0) (sym count) ∙ ap (λ (q : ℕ). if q == 0 then greatest_in (what_of entry) else 0) (sym page)

-- with a record more
pub said_more : (r : Logged) (older : History) (old n : ℕ) → old ≡ greatest_said older → n ≡ (if r.page == 0 then greatest_in r.what else 0) → max old n ≡ greatest_said (r ∷ older)
said_more r older old n was says = elim (cases_eq r.page 0) [
  | inl here ↦ (
      let one : greatest_said (r ∷ older) ≡ max (greatest_in r.what) (greatest_said older) = cond-true (r.page == 0) (max (greatest_in r.what) (greatest_said older)) (greatest_said older) (eq-eqb r.page 0 here) in
      let two : n ≡ greatest_in r.what = says ∙ cond-true (r.page == 0) (greatest_in r.what) 0 (eq-eqb r.page 0 here) in
      omega (arith, one, two, was))
  | inr other ↦ (
      let one : greatest_said (r ∷ older) ≡ greatest_said older = cond-false (r.page == 0) (max (greatest_in r.what) (greatest_said older)) (greatest_said older) (ne_eqb r.page 0 other) in
      let two : n ≡ 0 = says ∙ cond-false (r.page == 0) (greatest_in r.what) 0 (ne_eqb r.page 0 other) in
      omega (arith, one, two, was))
]
