-- The effects that a made store stands for, given what its files say: a log, and the pages of the Pages file.
use Rattle.std.specs.Prelude.{◌≡◌, ℕ, List, ◌++◌, Option}
use Rattle.std.specs.FinMap.{empty}
use Rattle.im_base_types.specs.Pages.{Page}
use Rattle.im_base_types.specs.Changes.{Effect, apply_all, seen}
use Rattle.im_theory_log.specs.Tree.{Tree}
use Rattle.im_theory_log.specs.Histories.{History, Base}
use Rattle.im_theory_log.specs.Transactions.{committed}
use Rattle.im_theory_log.specs.Lawful.{IsLawful}
use Rattle.im_theory_log.specs.RedoPoints.{Covers}

-- the log is lawful, and covers the pages
pub record IsSound (b : Base) (tree : Tree) (log : History) (file : ℕ → Option Page) : Type 0 where
  pub lawful : IsLawful b tree log
  pub covers : Covers b log file

-- The store is sound, and the effects are those that made the base's map, then those of the log's Commits, as users see them.
-- What the files' bytes say stands where bytes are spoken of: there a store that is not made stands for no effect.
pub record StandsFor (b : Base) (tree : Tree) (log : History) (file : ℕ → Option Page) (effects : List Effect) : Type 0 where
  pub sound : IsSound b tree log file
  pub earlier : List Effect
  pub map : apply_all empty earlier ≡ b.map
  pub is : effects ≡ earlier ++ seen (committed log)
