-- Reads beside a structure change: why they are hidden, and what an empty range asks and answers.
use Rattle.std.proofs.Common.{◌≡◌, ℕ, Bool, true, false, List, [], refl, sym, ap, subst}
use Rattle.std.specs.Prelude.{cond}
use Rattle.std.specs.FinMap.{entries}
use Rattle.im_base_types.specs.Keys.{Key}
use Rattle.im_base_types.specs.Maps.{IndexMap, is_below}
use Rattle.im_base_types.specs.Answers.{Scan, limit_of, scan}
use Rattle.im_theory_machine.specs.Locks.{Request}
use Rattle.im_theory_machine.specs.Rows.{asked, scan_row}
use Rattle.im_theory_machine.specs.Table.{Table, Decides}
use Rattle.im_theory_machine.specs.declared.verdict.Verdict.TheVariants.{Granted}
use Rattle.im_theory_tree.specs.Levels.{Pages}
use Rattle.im_tree_search.specs.declared.change_beside.Beside.{Beside}
use Rattle.im_tree_search.specs.Beside.{MeetsDone}
use Rattle.im_tree_search.specs.Levels.{start_at}
use Rattle.im_tree_search.specs.Sights.{is_done}
use Rattle.im_tree_search.proofs.Ranges.{empty_range}
use Rattle.im_engine_access.specs.Hidden.{MeetsMade}
use Rattle.im_engine_access.specs.LockAnswers.{seek_at}

pub seek_meets : (pages : Pages) (beside : Beside) (m : IndexMap) (key : Key) (inclusive : Bool) → MeetsDone pages (is_done beside) (start_at inclusive key) → MeetsMade pages beside (seek_at inclusive key) m
seek_meets pages beside m key true meets = meets
seek_meets pages beside m key false meets = meets

-- ---- a range that is empty by its bounds

none_asked : (table : Table) (t : ℕ) → Decides table t [] Granted table
none_asked table t = (λ s conflict. conflict.ask, record { own = λ n m. (λ x. x, λ x. x); lasting = λ n m. (λ x. x, λ x. x); others = λ s other. refl })

pub empty_asks : (table : Table) (t : ℕ) (m : IndexMap) (lo hi : Key) (n : ℕ) → is_below hi lo ≡ true → Decides table t (asked (Scan lo hi n) m) Granted table
empty_asks table t m lo hi n less = subst (λ (asks : List Request). Decides table t asks Granted table) (sym (ap (λ (x : Bool). cond x [] (scan_row lo hi (limit_of n) m)) less)) (none_asked table t)

pub empty_scan : (m : IndexMap) (lo hi : Key) (n : ℕ) → is_below hi lo ≡ true → [] ≡ scan lo hi (limit_of n) m
empty_scan m lo hi n less = (empty_range (entries m) lo hi (limit_of n) less).entries
