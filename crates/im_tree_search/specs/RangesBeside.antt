-- Why a scan beside a structure change is hidden.
use Rattle.std.specs.Prelude.{◌≡◌, ◌<◌, ◌≤◌, ◌++◌, ℕ, true, length}
use Rattle.im_base_types.specs.Keys.{Key}
use Rattle.im_theory_tree.specs.Levels.{Pages, entries_in}
use Rattle.im_theory_tree.specs.Good.{first_page}
use Rattle.im_tree_search.specs.declared.change_beside.Beside.{Beside}
use Rattle.im_tree_search.specs.Ranges.{Passes, within}
use Rattle.im_tree_search.specs.Sights.{is_done, IsWayMade}

-- The walk of a range comes to page p, which is a leaf: the leaves before have no key above its end, and fewer entries of it than are asked.
pub record ScanComes (pages : Pages) (lo hi : Key) (limit p : ℕ) : Type 0 where
  pub n : ℕ
  pub passes : Passes pages lo hi n
  pub page : first_page passes.rest ≡ p
  pub some : 1 ≤ p
  pub fewer : length (within lo hi (entries_in pages (passes.before ++ passes.passed))) < limit

-- Why a scan answers that it is hidden: a page that is made stands on the way to where its range begins, or where its walk along the leaves comes to.
pub data ScanMeetsDone (pages : Pages) (beside : Beside) (lo hi : Key) (limit : ℕ) : Type 0 where
  on_way : IsWayMade pages beside lo → ScanMeetsDone pages beside lo hi limit
  along : (p : ℕ) → ScanComes pages lo hi limit p → is_done beside p ≡ true → ScanMeetsDone pages beside lo hi limit
