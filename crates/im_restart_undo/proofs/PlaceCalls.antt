-- Gets of a page that may be the leaf of a key.
use Rattle.std.proofs.Common.{◌≡◌, ◌<◌, ℕ, Bool, Option, Some, None, sym, ap, subst, ◌∙◌}
use Rattle.std.specs.Prelude.{Result, Ok, Err, IsErrAnd, IfSome, OnOk}
use Rattle.im_base_types.specs.declared.fault.Fault.{Fault}
use Rattle.im_base_types.specs.Keys.{Key}
use Rattle.im_base_types.specs.Pages.{Page}
use Rattle.im_base_disk.specs.declared.disk.Disk.{Ghosts}
use Rattle.im_page_pool.specs.declared.frame.Frame.{Frame}
use Rattle.im_page_pool.specs.Pool.{PoolView, page_at}
use Rattle.im_page_writer.specs.declared.page_writer.PageWriter.{PageWriter}
use Rattle.im_page_writer.specs.Outcome.{AllPages, AreLoaded, Outcome}
use Rattle.im_page_writer.proofs.Outcomes.{pages_still}
use Rattle.im_theory_tree.specs.Search.{IsOnWay}
use Rattle.im_tree_search.specs.Levels.{HasLevel, bodies_of}
use Rattle.im_tree_search.specs.Found.{IsReached}
use Rattle.im_restart_undo.specs.Place.{IsKnownLeaf, IsHeldPage, FindsPage, HasWholeTree}

-- ---- the tree

-- it is there still after a call that changed no page
pub whole_still : {D : Type 0} (d : Ghosts D) {m : Fault → Bool} {pages : AllPages} {v : PageWriter} {old : D} {w : PageWriter} {mid : D} → HasWholeTree d pages v old → Outcome d AreLoaded m v old w mid None → HasWholeTree d pages w mid
whole_still {D} d {m} {pages} {v} {old} {w} {mid} tree one = record { has = pages_still d tree.has one; good = tree.good }

-- ---- what was got

-- a page that was got is a leaf below the page count
pub known_held : (pages : AllPages) (pool : PoolView) (frame : Frame) (page : Page) (p : ℕ) → frame.number ≡ p → page ≡ page_at pool frame.number → page ≡ pages p → HasLevel 0 page.body
    → p < (bodies_of pages 0).leftmost → IsHeldPage pages (IsKnownLeaf (bodies_of pages)) pool frame
known_held pages pool frame page p is shown says level less =
    let here : page ≡ pages frame.number = says ∙ ap (λ (n : ℕ). pages n) (sym is) in
    record {
      page = sym shown ∙ here;
      has = record {
        leaf = ap (λ (g : Page). g.body.kind) (sym here) ∙ level.kind;
        level = ap (λ (g : Page). g.body.level) (sym here) ∙ level.level;
        counted = subst (λ (n : ℕ). n < (bodies_of pages 0).leftmost) (sym is) less;
      };
    }

-- a refusal has no answer
pub no_answer : {A : Type 0} (r : Result A Fault) (f : Fault) (P : Type 0) → IsErrAnd r (λ e. e ≡ f) → OnOk r P
no_answer (Ok a) f P is = absurd is
no_answer (Err e) f P is = tt

module _ (pages : AllPages) (pool : PoolView) (o : Option Frame) (frame : Frame) (is : o ≡ Some frame) where
  found_here : (P : ℕ → Type 0) (Wanted : Type 0) → FindsPage pages P Wanted pool o → IsHeldPage pages P pool frame
  found_here P Wanted found = subst (λ (x : Option Frame). IfSome x (IsHeldPage pages P pool)) is found.held

  -- what is lent of a known leaf
  pub lent_says : (p : ℕ) (Wanted : Type 0) (page : Page) → FindsPage pages (IsKnownLeaf (bodies_of pages)) Wanted pool o → IfSome o (λ f. f.number ≡ p) → page ≡ page_at pool frame.number → page.body ≡ bodies_of pages p
  lent_says p Wanted page found number shown =
      let held = found_here (IsKnownLeaf (bodies_of pages)) Wanted found in
      let same : frame.number ≡ p = subst (λ (x : Option Frame). IfSome x (λ f. f.number ≡ p)) is number in
      ap (λ (g : Page). g.body) (shown ∙ held.page) ∙ ap (λ (n : ℕ). bodies_of pages n) same

  -- a known leaf is that of a key
  pub way_held : (key : Key) (Known Wanted : Type 0) (page : Page) → FindsPage pages (IsKnownLeaf (bodies_of pages)) Known pool o → page ≡ page_at pool frame.number
      → (IsKnownLeaf (bodies_of pages) frame.number → page.body ≡ bodies_of pages frame.number → IsOnWay (bodies_of pages) 0 key frame.number) → FindsPage pages (IsOnWay (bodies_of pages) 0 key) Wanted pool (Some frame)
  way_held key Known Wanted page found shown to =
      let held = found_here (IsKnownLeaf (bodies_of pages)) Known found in
      record {
        held = record { page = held.page; has = to held.has (ap (λ (g : Page). g.body) (shown ∙ held.page)) };
        none = λ clash. absurd (let never : ⊥ = cc clash in never);
      }

  -- the leaf is held
  pub place_held : (key : Key) (Wanted : Type 0) → FindsPage pages (IsOnWay (bodies_of pages) 0 key) Wanted pool o → IsReached pages key 0 frame.number pool
  place_held key Wanted found = let held = found_here (IsOnWay (bodies_of pages) 0 key) Wanted found in record { shown = held.page; way = held.has }
