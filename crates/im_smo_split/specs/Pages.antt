-- The pages that a plan has taken.
use Rattle.std.specs.Prelude.{◌≡◌, ◌≢◌, ◌+◌, ℕ, List, [], ◌∷◌, ◌++◌, length}
use Rattle.im_page_writer.specs.Outcome.{AllPages}
use Rattle.im_theory_tree.specs.Levels.{walk}
use Rattle.im_theory_tree.specs.Good.{IsGoodTree}
use Rattle.im_smo_pages.specs.Images.{Numbered}
use Rattle.im_smo_pages.specs.Seen.{seen}

-- the last first
abbrev pub newest_first : List ℕ → List ℕ
newest_first [] = []
newest_first (n ∷ ns) = newest_first ns ++ n ∷ []

-- These pages are taken: they are spare, the last first; page 0 alone says something else, and the walk stays. Of the pages that are not free, `leftmost` without `prev`, there are so many more.
pub record Taken (store : AllPages) (images : List Numbered) (numbers : List ℕ) (new : List Numbered) : Type 0 where
  pub good : IsGoodTree (seen store new) (newest_first numbers)
  pub rest : (x : ℕ) → x ≢ 0 → seen store new x ≡ seen store images x
  pub same : walk (seen store new) ≡ walk (seen store images)
  pub counts : (seen store new 0).leftmost + (seen store images 0).prev ≡ (seen store images 0).leftmost + length numbers + (seen store new 0).prev
