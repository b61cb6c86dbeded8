-- What a plan of a deletion answers.
use Rattle.std.specs.Prelude.{◌≡◌, ◌≤◌, ℕ, List, [], ◌∷◌, ◌++◌, length}
use Rattle.im_base_types.specs.declared.page_kind.PageKind.TheVariants.{Free}
use Rattle.im_page_writer.specs.Outcome.{AllPages}
use Rattle.im_theory_tree.specs.Levels.{Pages, walk}
use Rattle.im_theory_tree.specs.Good.{IsGoodTree}
use Rattle.im_theory_tree.specs.Steps.{DropsChain}
use Rattle.im_theory_tree.specs.Ways.{KeepsWays}
use Rattle.im_smo_pages.specs.Images.{Numbered}
use Rattle.im_smo_pages.specs.Changed.{SamePages}
use Rattle.im_smo_pages.specs.OnWay.{IsApart}
use Rattle.im_smo_pages.specs.Seen.{bodies, seen}
use Rattle.im_smo_drop_leaf.specs.Given.{given_pages}

-- The chain of pages without entries that page p ends leaves the tree, and its pages are given back, page p first and then upward.
pub record DeletesChain (pages new : Pages) (p : ℕ) : Type 0 where
  pub mid : Pages
  pub above : List ℕ
  pub drops : DropsChain pages mid (above ++ p ∷ [])
  pub gives : SamePages new (given_pages mid (above ++ p ∷ []))

-- The images, put in the place of the pages that are there, are a good tree with the same walk and no page spare, in which page p is free; there is an image at least.
pub record IsPlan (pages : AllPages) (p : ℕ) (images : List Numbered) : Type 0 where
  pub good : IsGoodTree (seen pages images) []
  pub same : walk (seen pages images) ≡ walk (bodies pages)
  pub some : 1 ≤ length images
  pub gone : (seen pages images p).kind ≡ Free
  pub by : DeletesChain (bodies pages) (seen pages images) p

-- A plan of a deletion keeps the ways of keys whose leaf is none of its images: no more is asked of it than what it is.
abbrev pub DeletionPlansKeepWays : Type 0
DeletionPlansKeepWays = (pages : AllPages) (p : ℕ) (images : List Numbered) → IsGoodTree (bodies pages) [] → IsPlan pages p images → KeepsWays (bodies pages) (seen pages images) (IsApart images)
