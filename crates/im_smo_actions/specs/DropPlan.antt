-- A leaf that may leave the tree.
use Rattle.std.specs.Prelude.{◌≡◌, ◌≢◌, ℕ, []}
use Rattle.im_base_types.specs.Keys.{Key}
use Rattle.im_theory_tree.specs.Levels.{Pages}
use Rattle.im_theory_tree.specs.Search.{IsOnWay}

-- The leaf of the key has no entry, and is not the root.
pub record IsSpare (pages : Pages) (key : Key) : Type 0 where
  pub page : ℕ
  pub way : IsOnWay pages 0 key page
  pub other : page ≢ 1
  pub none : (pages page).entries ≡ []
