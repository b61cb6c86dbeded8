-- What is promised of lawful logs.
use Rattle.std.specs.Prelude.{◌≡◌, ◌≢◌, ℕ, List, [], ◌∷◌, ◌++◌, true, false, Option, ◌≤◌, max}
use Rattle.std.specs.FinMap.{entries}
use Rattle.im_base_types.specs.Changes.{Effect, apply_all}
use Rattle.im_base_types.specs.Nets.{AreNets}
use Rattle.im_base_types.specs.Pages.{Body}
use Rattle.im_base_types.specs.Records.{DummyClr, Logged}
use Rattle.im_theory_log.specs.Tree.{Tree}
use Rattle.im_theory_log.specs.Histories.{Base, History, IsFront, IsRecordOf, page_at}
use Rattle.im_theory_log.specs.PageCounts.{count_of, named_to}
use Rattle.im_theory_log.specs.Structure.{open_smo, settled}
use Rattle.im_theory_log.specs.Transactions.{to_undo, undo_next_of, top_of, net, is_finished, is_key, is_smo, IsCounted, committed, contents}
use Rattle.im_theory_log.specs.Lawful.{IsLawful, Follows, has_owner}

-- the pages as they are
abbrev pub bodies : Base → History → ℕ → Body
bodies b log p = (page_at b log p).body

-- ---- fronts and longer logs

-- a front of a lawful log: it is lawful, and what it committed begins what the log committed
pub record IsLawfulFront (b : Base) (tree : Tree) (f log : History) : Type 0 where
  pub lawful : IsLawful b tree f
  pub later : List Effect
  pub committed : committed f ++ later ≡ committed log

-- Each front of a lawful log is lawful.
abbrev pub FrontsAreLawful : Tree → Type 0
FrontsAreLawful tree = (b : Base) (f log : History) → IsFront f log → IsLawful b tree log → IsLawfulFront b tree f log

-- the pages as they are now are a good tree, with the walk of the settled pages
pub record IsRebuilt (b : Base) (tree : Tree) (log : History) : Type 0 where
  pub good : tree.Good (bodies b log)
  pub walk : tree.walk (bodies b log) ≡ tree.walk (settled b log)
  pub named : (bodies b log 0).leftmost ≤ max (count_of b) (named_to log)

-- A record of any kind that may come next leaves a lawful log. Of the end of a structure change it is asked that the pages are a good tree with the same walk.
abbrev pub LogsStayLawful : Tree → Type 0
LogsStayLawful tree = (b : Base) (older : History) (r : Logged) → IsLawful b tree older → Follows b tree r older → (r.what ≡ DummyClr → IsRebuilt b tree older) → IsLawful b tree (r ∷ older)

-- ---- what the tree holds

-- the settled tree holds the committed map with the nets, which touch different keys
pub record HoldsCommittedAndNets (b : Base) (tree : Tree) (log : History) : Type 0 where
  pub walk : tree.walk (settled b log) ≡ entries (contents b log)
  pub nets : AreNets (apply_all b.map (committed log)) (contents b log) (λ (t : ℕ). net t log)

abbrev pub TreeHoldsCommittedAndNets : Tree → Type 0
TreeHoldsCommittedAndNets tree = (b : Base) (log : History) → IsLawful b tree log → HoldsCommittedAndNets b tree log

-- every transaction that has a record has its Commit or End
abbrev pub AllFinished : History → Type 0
AllFinished log = (r : Logged) → IsRecordOf r log → has_owner r.what ≡ true → is_finished r.txn log ≡ true

-- nothing is left to undo, no structure change is open, and the pages are a good tree with the committed map and nothing else
pub record HoldsCommitted (b : Base) (tree : Tree) (log : History) : Type 0 where
  pub nothing_left : (t : ℕ) → to_undo t log ≡ []
  pub closed : open_smo log ≡ []
  pub good : tree.Good (bodies b log)
  pub walk : tree.walk (bodies b log) ≡ entries (apply_all b.map (committed log))

-- Where every transaction is finished, the tree has the committed transactions' effects alone.
abbrev pub FinishedTreeIsCommitted : Tree → Type 0
FinishedTreeIsCommitted tree = (b : Base) (log : History) → IsLawful b tree log → AllFinished log → HoldsCommitted b tree log

-- ---- undo

-- Reading on from a transaction's next LSN to undo comes to the newest record that it has left to undo, and to none where nothing is left.
abbrev pub ChainLeadsToStack : (ℕ → History → Option Logged) → Tree → Type 0
ChainLeadsToStack reads tree = (b : Base) (log : History) (t : ℕ) → t ≢ 0 → IsLawful b tree log → reads (undo_next_of t log) log ≡ top_of (to_undo t log)

-- no record of these is of a structure change
abbrev pub NoSmo : History → Type 0
NoSmo [] = Unit {0}
NoSmo (s ∷ rest) = (is_smo s.what ≡ false) × NoSmo rest

-- what is left to undo begins with the open structure change, and no other is below it
pub record IsOnTop (t : ℕ) (log : History) : Type 0 where
  pub bottom : History
  pub is : to_undo t log ≡ open_smo log ++ bottom
  pub plain : NoSmo bottom

-- The open structure change is what its owner has to undo first.
abbrev pub OpenChangeIsOnTop : Tree → Type 0
OpenChangeIsOnTop tree = (b : Base) (log : History) (newest : Logged) (rest : History) → IsLawful b tree log → open_smo log ≡ newest ∷ rest → IsOnTop newest.txn log

-- Each key record is compensated at most once. Where its transaction has a Commit, it is part of the committed effect and is not compensated, or was compensated before and is no
-- part of it; where it has an End, it was compensated.
abbrev pub CompensatedAtMostOnce : Tree → Type 0
CompensatedAtMostOnce tree = (b : Base) (log : History) (s : Logged) → IsLawful b tree log → IsRecordOf s log → is_key s.what ≡ true → IsCounted log s
