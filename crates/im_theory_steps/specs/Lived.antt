-- A life, whether or not its engine has failed: what it has shown, and the machine that it came to.
use Rattle.std.specs.Prelude.{◌≡◌, ℕ, true, false, List, None, Some}
use Rattle.std.specs.FinMap.{empty}
use Rattle.im_base_types.specs.Maps.{IndexMap}
use Rattle.im_base_types.specs.Changes.{Effect, apply_all}
use Rattle.im_theory_log.specs.Histories.{History, Base}
use Rattle.im_base_types.specs.Answers.{Step, Reply, Refused}
use Rattle.im_base_types.specs.Refusals.{failed as has_failed}
use Rattle.im_base_types.specs.Lives.{Shown, shows}
use Rattle.im_base_txn.specs.declared.transaction.Transaction.{Transaction}
use Rattle.im_theory_machine.specs.Locks.{Lock}
use Rattle.im_theory_machine.specs.Table.{Table}
use Rattle.im_theory_machine.specs.View.{View, broken}
use Rattle.im_theory_machine.specs.Machine.{Moves, Breaks, barred, IsReached}
use Rattle.im_theory_steps.specs.Acknowledged.{Shows}
use Rattle.im_theory_steps.specs.Serving.{IsServing}

-- Steps and replies have shown the machine and what it committed, and it came here by a run from this map.
pub record IsLived (base : IndexMap) (s : Shown) (v : View) : Type 0 where
  pub shows : Shows base s v
  pub reached : IsReached base v

-- A step with this reply is a step of the machine, and the life goes on.
abbrev pub IsLivedOn : IndexMap → Shown → View → Step → Reply → View → Type 0
IsLivedOn base s v step reply w = Moves v step reply w × IsLived base (shows s step (Some reply)) w

pub record LivesGoOn : Type 0 where
  -- between two steps of an engine that works
  pub serves : (b : Base) (earlier before : List Effect) (s : Shown) (v : View) (log : History) (rows : List Transaction) (next : ℕ) (held : Table) → IsServing b earlier before s v log rows next held → IsLived (apply_all empty before) s v
  -- a step that breaks the engine, whatever locks it leaves
  pub breaks : (base : IndexMap) (s : Shown) (v : View) (step : Step) (fault : ℕ) (ls : ℕ → List Lock) → IsLived base s v → barred v step ≡ None → Breaks fault → IsLivedOn base s v step (Refused fault) (broken v ls)
  -- a step of an engine that has failed
  pub refuses : (base : IndexMap) (s : Shown) (v : View) (step : Step) → IsLived base s v → v.failed ≡ true → IsLivedOn base s v step (Refused has_failed) v
  -- a look that breaks the engine
  pub looks : (base : IndexMap) (s : Shown) (v : View) (ls : ℕ → List Lock) → IsLived base s v → v.failed ≡ false → IsLived base (record s { failed = true }) (broken v ls)
