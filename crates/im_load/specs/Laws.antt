-- The laws of a load, step by step and at its end.
use Rattle.std.specs.Prelude.{◌≡◌, ℕ, zero, suc, ◌+◌, ◌≤◌, true, List, [], ◌∷◌, ◌++◌, Option, Some}
use Rattle.std.specs.FinMap.{empty, entries}
use Rattle.im_base_types.specs.Changes.{apply}
use Rattle.im_base_types.specs.Keys.{IsBelow}
use Rattle.im_base_types.specs.Pages.{Entry, Page}
use Rattle.im_theory_log.specs.Stores.{StandsFor}
use Rattle.im_theory_page.specs.Entry.{Rises}
use Rattle.im_theory_page.specs.Split.{LacksRoom}
use Rattle.im_theory_tree.specs.Allocations.{initial_bodies}
use Rattle.im_theory_tree.specs.Levels.{Pages, height}
use Rattle.im_theory_tree.specs.Theory.{page_tree}
use Rattle.im_load.specs.Edge.{moved, risen, IsAboveAll, Stands, AreDense}
use Rattle.im_load.specs.Steps.{PutsLast, ClosesLeaf, ClosesInner, RaisesLeaf, RaisesInner}
use Rattle.im_load.specs.Loaded.{load_effect, effects_of, loaded_base, unlogged}

-- These pages are a tree of these entries with this right edge, and so many levels stand under the root.
pub record BecomesTree (new : Pages) (at : ℕ → ℕ) (es : List Entry) (levels : ℕ) : Type 0 where
  pub stands : Stands new at [] es
  pub tall : height new ≡ levels

-- The steps of a load. An entry is taken only where its key is above all.
pub record LoadStepsKeep : Type 0 where
  -- a load begins with the pages of a new store
  pub begins : Stands initial_bodies (λ k. 1) [] []
  pub puts : (pages new : Pages) (at : ℕ → ℕ) (es : List Entry) (e : Entry) → Stands pages at [] es → IsAboveAll e.0 es → PutsLast pages new at e → BecomesTree new at (es ++ e ∷ []) (height pages)
  pub closes_leaf : (pages new : Pages) (at : ℕ → ℕ) (es : List Entry) (e : Entry) (q h : ℕ) → Stands pages at [] es → height pages ≡ suc h → IsAboveAll e.0 es → ClosesLeaf pages new at e q
      → BecomesTree new (moved at zero q) (es ++ e ∷ []) (height pages)
  pub closes_inner : (pages new : Pages) (at : ℕ → ℕ) (es : List Entry) (k d : ℕ) (front : List Entry) (up : Entry) (q : ℕ) → Stands pages at [] es → d + suc (suc k) ≡ height pages
      → ClosesInner pages new at (suc k) front up q → BecomesTree new (moved at (suc k) q) es (height pages)
  pub raises_leaf : (pages new : Pages) (at : ℕ → ℕ) (es : List Entry) (e : Entry) (l r : ℕ) → Stands pages at [] es → height pages ≡ zero → IsAboveAll e.0 es → RaisesLeaf pages new e l r
      → BecomesTree new (risen at zero r) (es ++ e ∷ []) 1
  pub raises_inner : (pages new : Pages) (at : ℕ → ℕ) (es : List Entry) (k : ℕ) (front : List Entry) (up : Entry) (l r : ℕ) → Stands pages at [] es → height pages ≡ suc k
      → RaisesInner pages new (suc k) front up l r → BecomesTree new (risen at (suc k) r) es (suc (suc k))

-- Where a leaf is closed only when it lacks room for an entry with the longest key, each leaf but the last does.
pub record StepsFill : Type 0 where
  pub begins : AreDense initial_bodies
  pub puts : (pages new : Pages) (at : ℕ → ℕ) (es : List Entry) (e : Entry) → Stands pages at [] es → PutsLast pages new at e → AreDense pages → AreDense new
  pub closes_leaf : (pages new : Pages) (at : ℕ → ℕ) (es : List Entry) (e : Entry) (q : ℕ) → Stands pages at [] es → 1 ≤ height pages → ClosesLeaf pages new at e q
      → LacksRoom true (pages (at zero)).entries → AreDense pages → AreDense new
  pub closes_inner : (pages new : Pages) (at : ℕ → ℕ) (es : List Entry) (k : ℕ) (front : List Entry) (up : Entry) (q : ℕ) → Stands pages at [] es → suc (suc k) ≤ height pages
      → ClosesInner pages new at (suc k) front up q → AreDense pages → AreDense new
  pub raises_leaf : (pages new : Pages) (at : ℕ → ℕ) (es : List Entry) (e : Entry) (l r : ℕ) → Stands pages at [] es → RaisesLeaf pages new e l r → LacksRoom true (pages 1).entries → AreDense pages → AreDense new
  pub raises_inner : (pages new : Pages) (at : ℕ → ℕ) (es : List Entry) (k : ℕ) (front : List Entry) (up : Entry) (l r : ℕ) → Stands pages at [] es → height pages ≡ suc k
      → RaisesInner pages new (suc k) front up l r → AreDense pages → AreDense new

-- Entries in rising order are the map that one effect makes, and where the file has each page with no LSN the empty log is lawful over them, covers the file, and the store stands for that effect.
pub record EndsStand : Type 0 where
  pub entries_are : (es : List Entry) → Rises es → entries (apply empty (load_effect es)) ≡ es
  pub stands : (pages : Pages) (at : ℕ → ℕ) (es : List Entry) (start : ℕ) (file : ℕ → Option Page) → Stands pages at [] es → Rises es → ((p : ℕ) → file p ≡ Some (unlogged pages p))
      → StandsFor (loaded_base pages (apply empty (load_effect es)) start) page_tree [] file (effects_of es)

-- A key above the last one of rising entries is above all, and they rise with it.
abbrev pub LastIsEnough : Type 0
LastIsEnough = (front : List Entry) (last e : Entry) → Rises (front ++ last ∷ []) → IsBelow last.0 e.0 → IsAboveAll e.0 (front ++ last ∷ []) × Rises ((front ++ last ∷ []) ++ e ∷ [])
