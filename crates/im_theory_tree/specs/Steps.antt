-- Structure changes as runs of steps, each from one good tree to the next.
use Rattle.std.specs.Prelude.{◌≡◌, ℕ, List, [], ◌∷◌, ◌++◌}
use Rattle.im_base_types.specs.Keys.{Key}
use Rattle.im_base_types.specs.Pages.{Entry}
use Rattle.im_theory_tree.specs.Levels.{Pages, Node, below, pages_under, the_root}
use Rattle.im_theory_tree.specs.Same.{SameButMark}
use Rattle.im_theory_tree.specs.Good.{times}
use Rattle.im_theory_tree.specs.Splits.{SplitsLeafOf, SplitsInnerOf, SplitsRootOf, SplitsLeafRootOf}
use Rattle.im_theory_tree.specs.Allocations.{TakesFree, TakesCount, GivesFree}
use Rattle.im_theory_tree.specs.Deletions.{DropsChildOf, DropsFirstOf, EmptiesRoot}
use Rattle.im_theory_tree.specs.KeyDeletions.{chain_down, DropsEntry, DropsLeftmost, DropsAll}

-- what a step does
pub data Step : Type 0 where
  -- a page is taken off the free list, or off the page count, or given back
  TakeFree : (n q : ℕ) → Step
  TakeCount : Step
  GiveFree : (q : ℕ) → Step
  -- a page is split
  SplitLeaf : (d : ℕ) (a b : List Node) (parent : Node) (before after : List Node) (n : Node) (q : ℕ) (s : Key) → Step
  SplitInner : (d h : ℕ) (a b : List Node) (parent : Node) (before after : List Node) (n : Node) (q : ℕ) (up : Entry) → Step
  SplitRoot : (h left right : ℕ) (up : Entry) → Step
  SplitLeafRoot : (left right : ℕ) (s : Key) → Step
  -- a page without entries leaves the tree, with those under it
  DropChild : (d h : ℕ) (a b : List Node) (parent : Node) (before after : List Node) (last c : Node) → Step
  DropFirst : (d h : ℕ) (a b : List Node) (parent : Node) (after : List Node) (c r : Node) → Step
  EmptyRoot : (h : ℕ) → Step
  -- marks change, and spare pages are listed in another order
  Relist : Step

-- the step leads from pages and spare pages to new ones
abbrev pub Leads : Step → Pages → List ℕ → Pages → List ℕ → Type 0
Leads (TakeFree n q) pages spare new left = (left ≡ q ∷ spare) × TakesFree pages new spare n q
Leads TakeCount pages spare new left = (left ≡ (pages 0).leftmost ∷ spare) × TakesCount pages new spare
Leads (GiveFree q) pages spare new left = (spare ≡ q ∷ left) × GivesFree pages new left q
Leads (SplitLeaf d a b parent before after n q s) pages spare new left = (spare ≡ q ∷ left) × SplitsLeafOf pages new left d a b parent before after n q s
Leads (SplitInner d h a b parent before after n q up) pages spare new left = (spare ≡ q ∷ left) × SplitsInnerOf pages new left d h a b parent before after n q up
Leads (SplitRoot h l r up) pages spare new left = (spare ≡ l ∷ r ∷ left) × SplitsRootOf pages new left h l r up
Leads (SplitLeafRoot l r s) pages spare new left = (spare ≡ l ∷ r ∷ left) × SplitsLeafRootOf pages new left l r s
Leads (DropChild d h a b parent before after last c) pages spare new left = (left ≡ pages_under pages h (c ∷ []) ++ spare) × DropsChildOf pages new spare d h a b parent before after last c
Leads (DropFirst d h a b parent after c r) pages spare new left = (left ≡ pages_under pages h (c ∷ []) ++ spare) × DropsFirstOf pages new spare d h a b parent after c r
Leads (EmptyRoot h) pages spare new left = (left ≡ pages_under pages h (below pages the_root) ++ spare) × EmptiesRoot pages new spare h
Leads Relist pages spare new left = ((x : ℕ) → SameButMark (pages x) (new x)) × ((x : ℕ) → times x left ≡ times x spare)

-- a step that was made, with the pages and the spare pages after it
pub record Made : Type 0 where
  pub step : Step
  pub pages : Pages
  pub spare : List ℕ

-- each step leads on from where the one before it ended
abbrev pub IsRun : Pages → List ℕ → List Made → Type 0
IsRun pages spare [] = Unit {0}
IsRun pages spare (m ∷ run) = Leads m.step pages spare m.pages m.spare × IsRun m.pages m.spare run

-- the pages where a run ends
abbrev pub end_pages : Pages → List Made → Pages
end_pages pages [] = pages
end_pages pages (m ∷ run) = end_pages m.pages run

-- the spare pages where a run ends
abbrev pub end_spare : List ℕ → List Made → List ℕ
end_spare spare [] = spare
end_spare spare (m ∷ run) = end_spare m.spare run

-- A chain of pages without entries goes, from after another child, as the leftmost child, or from under the root; the pages of the chain are spare after it.
pub data DropsChain (pages new : Pages) (gone : List ℕ) : Type 0 where
  FromEntry : (h : ℕ) (key : Key) (parent p i : ℕ) → DropsEntry pages new [] h key parent p i → gone ≡ chain_down pages h p → DropsChain pages new gone
  FromLeftmost : (h : ℕ) (key : Key) (parent p : ℕ) → DropsLeftmost pages new [] h key parent p → gone ≡ chain_down pages h p → DropsChain pages new gone
  FromRoot : (h : ℕ) → DropsAll pages new [] h → gone ≡ chain_down pages h (pages 1).leftmost → DropsChain pages new gone
