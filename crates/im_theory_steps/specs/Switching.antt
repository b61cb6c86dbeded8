-- What a Switch leaves: the log goes on empty where no transaction is active.
use Rattle.std.specs.Prelude.{◌≡◌, ℕ, List, [], ◌++◌}
use Rattle.im_base_types.specs.Changes.{Effect, apply_all, seen}
use Rattle.im_base_types.specs.Answers.{Switch, Done}
use Rattle.im_base_types.specs.Lives.{Shown}
use Rattle.im_theory_log.specs.Histories.{Base, History}
use Rattle.im_theory_log.specs.Lawful.{IsLawful}
use Rattle.im_theory_log.specs.LogLaws.{AllFinished}
use Rattle.im_theory_log.specs.Transactions.{committed}
use Rattle.im_theory_log.specs.Tree.{Tree}
use Rattle.im_base_txn.specs.declared.transaction.Transaction.{Transaction}
use Rattle.im_theory_machine.specs.Table.{Table}
use Rattle.im_theory_machine.specs.View.{View}
use Rattle.im_theory_steps.specs.Durable.{AreCommitted}
use Rattle.im_theory_steps.specs.Serving.{IsServing, IsServed}

-- Every transaction of the old log is finished. The empty log serves over this base, after the effects that made it, and the step is the machine's; each effect that was asked is one of these.
pub record IsSwitched (c : Base) (earlier before : List Effect) (s : Shown) (v : View) (log : History) (rows : List Transaction) (next : ℕ) (held : Table) : Type 0 where
  pub finished : AllFinished log
  pub served : IsServed c (earlier ++ seen (committed log)) before s v Switch Done v [] rows next held
  pub commits : AreCommitted (earlier ++ seen (committed log)) before s.asked [] []

-- So it is where no transaction is active, over the map that the old log made.
abbrev pub SwitchesAreServed : Tree → Type 0
SwitchesAreServed tree = (b c : Base) (earlier before : List Effect) (s : Shown) (v : View) (log : History) (rows : List Transaction) (next : ℕ) (held : Table)
    → IsServing b earlier before s v log rows next held → v.active ≡ 0 → IsLawful b tree log → c.map ≡ apply_all b.map (committed log) → IsSwitched c earlier before s v log rows next held
