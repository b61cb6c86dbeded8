-- The end of a load: the pages that are held are written, and then page 0.
use Rattle.std.proofs.Common.{◌≡◌, ℕ, zero, suc, ◌+◌, ◌<◌, ◌≤◌, max, List, length, Some, sym, ◌∙◌, ap, subst, arith, ⊎_elim}
use Rattle.std.proofs.lemmas.Bool.{cases_eq, cases_lt}
use Rattle.im_base_types.specs.Pages.{Entry, Body, Page}
use Rattle.im_theory_page.specs.Header.{initial, empty_body}
use Rattle.im_base_types.specs.declared.page_kind.PageKind.TheVariants.{Meta}
use Rattle.im_theory_page.specs.PageFile.{file_page}
use Rattle.im_theory_page.proofs.PageFileLemmas.{page_past}
use Rattle.im_theory_tree.specs.Levels.{Pages}
use Rattle.im_load.specs.Loaded.{unlogged}
use Rattle.im_load.specs.Files.{HasPages, WritesPageAt, ArePages}
use Rattle.im_load.specs.Held.{Numbered, held_page}
use Rattle.im_load.specs.Loading.{HasFinal, HasWritten, HasTakenAll}
use Rattle.im_load.proofs.Holdings.{apart_of, low_at}

pub from_none : (pages : Pages) (at : ℕ → ℕ) (levels count : ℕ) (file : List ℕ) → HasFinal pages at levels count file → HasWritten pages at 0 levels count file
from_none pages at levels count file f = record { many = f.many; whole = f.whole; few = f.few; there = λ x some low away. f.there x some low (λ k le. away k (omega arith) le) }

-- one level more is written
pub from_more : (pages : Pages) (at : ℕ → ℕ) (from levels count : ℕ) (old file : List ℕ) → HasWritten pages at from levels count old → at from < count → WritesPageAt old file (at from) (unlogged pages (at from))
    → HasWritten pages at (suc from) levels count file
from_more pages at from levels count old file f low put = record {
  many = max f.many (at from + 1);
  whole = put.size f.many f.whole;
  few = (let few : f.many ≤ count = f.few in omega (arith, few, low));
  there = λ x some lt away. ⊎_elim
      (λ (own : x ≡ at from). (omega (arith, own), subst (λ y. file_page file y ≡ Some (unlogged pages y)) (sym own) put.here))
      (λ (off : x ≡ at from → ⊥).
      let was = f.there x some lt (λ k le top. ⊎_elim
      (λ (here : k ≡ from). λ same. off (same ∙ ap at here))
      (λ (other : k ≡ from → ⊥). away k (omega (arith, le, other)) top)
      (cases_eq k from)) in
      (omega (arith, was.0), put.others f.many x f.whole was.0 off ∙ was.1))
      (cases_eq x (at from));
}

-- all levels are written, and then page 0: the file is all pages
pub all_written : (pages : Pages) (at : ℕ → ℕ) (levels count : ℕ) (old file : List ℕ) → HasWritten pages at (suc levels) levels count old → 1 ≤ count → WritesPageAt old file 0 (unlogged pages 0)
    → ((x : ℕ) → count ≤ x → unlogged pages x ≡ initial x) → (p : ℕ) → file_page file p ≡ Some (unlogged pages p)
all_written pages at levels count old file f some put past zero = put.here
all_written pages at levels count old file f some put past (suc p) = ⊎_elim
    (λ (low : suc p < count).
    let was = f.there (suc p) (omega arith) low (λ k le top. absurd (omega (arith, le, top))) in
    put.others f.many (suc p) f.whole was.0 (λ z. absurd (omega (arith, z))) ∙ was.1)
    (λ (high : count ≤ suc p).
    let whole : HasPages file (max f.many (0 + 1)) = put.size f.many f.whole in
    let few : f.many ≤ count = f.few in
    page_past file (suc p) (omega (arith, whole, few, high, some)) ∙ ap Some (sym (past (suc p) high)))
    (cases_lt (suc p) count)

-- ---- the same, by what a loader holds

module _ (leaf : Numbered) (above : List Numbered) (count : ℕ) (tells : Type 0) (file : List ℕ) (es : List Entry) (t : HasTakenAll leaf above count tells file es) where
  low : (k : ℕ) → k ≤ length above → t.at k < count
  low k le = low_at t.pages t.at count k (apart_of t.pages t.at es t.holds.stands) (ap (λ (b : Body). b.leftmost) t.holds.meta) (omega (arith, le, t.holds.tall))

  pub leaf_written : tells → (new : List ℕ) → WritesPageAt file new leaf.0 leaf.1 → HasWritten t.pages t.at 1 (length above) count new
  leaf_written told new put =
      from_more t.pages t.at 0 (length above) count file new (from_none t.pages t.at (length above) count file (t.holds.final told)) (low 0 (omega arith))
      (subst (λ (x : Numbered). WritesPageAt file new x.0 x.1) t.holds.last put)

  pub above_written : (i : ℕ) → i < length above → (mid new : List ℕ) → HasWritten t.pages t.at (suc i) (length above) count mid → WritesPageAt mid new (held_page above i).0 (held_page above i).1
      → HasWritten t.pages t.at (suc (i + 1)) (length above) count new
  above_written i lt mid new so_far put =
      subst (λ (n : ℕ). HasWritten t.pages t.at (suc n) (length above) count new) (let same : suc i ≡ i + 1 = omega arith in same)
      (from_more t.pages t.at (suc i) (length above) count mid new so_far (low (suc i) (omega (arith, lt)))
      (subst (λ (x : Numbered). WritesPageAt mid new x.0 x.1) (t.above_are i lt) put))

  pub pages_written : (mid new : List ℕ) → HasWritten t.pages t.at (suc (length above)) (length above) count mid → WritesPageAt mid new 0 (record { lsn = 0; body = empty_body Meta 0 0 0 count }) → ArePages es new
  pages_written mid new so_far put = record {
    pages = t.pages;
    at = t.at;
    stands = t.holds.stands;
    rises = t.holds.rises;
    dense = t.holds.dense;
    each = all_written t.pages t.at (length above) count mid new so_far (let some = low 0 (omega arith) in omega (arith, some))
        (subst (λ (b : Body). WritesPageAt mid new 0 (record { lsn = 0; body = b })) (sym t.holds.meta) put)
        (λ x le. ap (λ (b : Body). let p : Page = record { lsn = 0; body = b } in p) (t.holds.past x le));
  }
