-- Which Commits a stop leaves: those that are durable, and of those that wait for a force a front.
use Rattle.std.specs.Prelude.{◌≡◌, ◌≢◌, ◌≤◌, ℕ, List, [], ◌++◌, None, Some, find}
use Rattle.std.specs.FinMap.{empty}
use Rattle.im_base_types.specs.Changes.{Effect, apply_all, seen}
use Rattle.im_theory_log.specs.Tree.{Tree}
use Rattle.im_theory_log.specs.Histories.{Base, History}
use Rattle.im_theory_log.specs.Lawful.{IsLawful}
use Rattle.im_theory_log.specs.Transactions.{committed}
use Rattle.im_theory_log.specs.Writer.{IsLeft}
use Rattle.im_base_types.specs.Answers.{Step, Commit, Refused}
use Rattle.im_base_types.specs.Refusals.{memory, unfinished}
use Rattle.im_base_types.specs.Lives.{Asked, Shown, NoneAcked, Survives, all_acked, effects, nothing_shown, shows}
use Rattle.im_base_txn.specs.declared.transaction.Mark.TheVariants.{Going}
use Rattle.im_base_txn.specs.declared.transaction.Transaction.{Transaction}
use Rattle.im_base_txn.specs.Rows.{is_of}
use Rattle.im_theory_machine.specs.Table.{Table}
use Rattle.im_theory_machine.specs.View.{View, owner_in}
use Rattle.im_theory_machine.specs.Machine.{start}
use Rattle.im_theory_steps.specs.Growth.{Commits}
use Rattle.im_theory_steps.specs.Serving.{IsServing}

-- The effects before the life made the earlier map and the log's first Commits; the asked ones are a front whose Commits are durable, and others in the log, none of which was acknowledged.
pub record AreCommitted (earlier before : List Effect) (asked : List Asked) (durable log : History) : Type 0 where
  pub front : List Asked
  pub rest : List Asked
  pub all : front ++ rest ≡ asked
  pub waiting : NoneAcked rest
  pub forced : earlier ++ seen (committed durable) ≡ before ++ effects front
  pub whole : earlier ++ seen (committed log) ≡ before ++ effects asked

-- what a stop left: a lawful log, whose Commits, after the earlier ones, are what the life may make of the effects before it
pub record IsAllowedLog (b : Base) (tree : Tree) (earlier before : List Effect) (asked : List Asked) (left : History) : Type 0 where
  pub lawful : IsLawful b tree left
  pub after : List Effect
  pub survives : Survives before asked after
  pub is : after ≡ earlier ++ seen (committed left)

-- Whatever front of the log a stop leaves, its Commits are what the life may add.
abbrev pub StopsAllow : Tree → Type 0
StopsAllow tree = (b : Base) (earlier before : List Effect) (asked : List Asked) (durable log left : History) → IsLawful b tree log → AreCommitted earlier before asked durable log → IsLeft durable log left
    → IsAllowedLog b tree earlier before asked left

-- How Commits stand from call to call.
pub record CommitsStand : Type 0 where
  -- after an opening
  pub begins : (earlier before : List Effect) (durable log : History) → earlier ++ seen (committed log) ≡ before → committed durable ≡ committed log → AreCommitted earlier before [] durable log
  -- where records join the log that commit nothing
  pub stay : (earlier before : List Effect) (asked : List Asked) (durable log longer : History) → AreCommitted earlier before asked durable log → committed longer ≡ committed log → AreCommitted earlier before asked durable longer
  -- where more of it becomes durable
  pub more : (earlier before : List Effect) (asked : List Asked) (durable log newer : History) → AreCommitted earlier before asked durable log → IsLeft durable log newer → AreCommitted earlier before asked newer log
  -- where all of it is durable, each may be acknowledged
  pub all : (earlier before : List Effect) (asked : List Asked) (log : History) → earlier ++ seen (committed log) ≡ before ++ effects asked → AreCommitted earlier before asked log log
  pub acked : (earlier before : List Effect) (asked : List Asked) (durable log : History) → AreCommitted earlier before asked durable log → AreCommitted earlier before (all_acked asked) log log
  -- where more is asked of which nothing is left
  pub lost : (before after : List Effect) (asked more : List Asked) → Survives before asked after → NoneAcked more → Survives before (asked ++ more) after

-- A Commit that is in the log is asked, whether a stop fell within its step or its step was refused after that record: it is left, or nothing of it.
abbrev pub CutCommitsStand : Type 0
CutCommitsStand = (b : Base) (earlier before : List Effect) (s : Shown) (v : View) (older longer durable : History) (rows : List Transaction) (next : ℕ) (held : Table) (t : ℕ) (row : Transaction)
    → IsServing b earlier before s v older rows next held → find (is_of t) rows ≡ Some row → row.mark ≡ Going → 1 ≤ row.changes → owner_in v ≢ Some t → Commits b t older longer → AreCommitted earlier before s.asked durable older
    → AreCommitted earlier before ((shows s (Commit t) None).asked) durable longer

-- No step but a Commit asks for an effect, and a stop within one leaves what was asked before it.
pub record OthersAskNothing : Type 0 where
  pub cut : (s : Shown) (step : Step) → ((t : ℕ) → step ≡ Commit t → ⊥) → (shows s step None).asked ≡ s.asked
  -- a Commit that is refused, but for want of memory, asks what one asks within which a stop fell
  pub refused : (s : Shown) (t fault : ℕ) → (fault ≡ memory → ⊥) → (fault ≡ unfinished → ⊥) → (shows s (Commit t) (Some (Refused fault))).asked ≡ (shows s (Commit t) None).asked
  -- and that is what was asked before, and perhaps an effect more that is not acknowledged
  pub more : (s : Shown) (t : ℕ) → (more : List Asked) × NoneAcked more × ((shows s (Commit t) None).asked ≡ s.asked ++ more)

-- A life may begin anew: what was asked is committed, and a stop leaves all of it.
pub record Settled (b : Base) (earlier before : List Effect) (s : Shown) (v : View) (durable log : History) (rows : List Transaction) (next : ℕ) (held : Table) : Type 0 where
  pub committed : v.committed ≡ apply_all empty (before ++ effects s.asked)
  pub serving : IsServing b earlier (before ++ effects s.asked) nothing_shown (start v.committed v.next) log rows next held
  pub commits : AreCommitted earlier (before ++ effects s.asked) [] durable log
  pub stops : (after : List Effect) → Survives before s.asked after → Survives (before ++ effects s.asked) [] after

-- So it may where an engine works and no transaction is active.
abbrev pub QuietLivesSettle : Type 0
QuietLivesSettle = (b : Base) (earlier before : List Effect) (s : Shown) (v : View) (durable log : History) (rows : List Transaction) (next : ℕ) (held : Table)
    → IsServing b earlier before s v log rows next held → AreCommitted earlier before s.asked durable log → v.active ≡ 0 → Settled b earlier before s v durable log rows next held
