-- What a step that changes nothing answers.
use Rattle.std.specs.Prelude.{◌≡◌, ℕ}
use Rattle.im_base_types.specs.Maps.{IndexMap}
use Rattle.im_base_types.specs.Answers.{Access, Reply, answer}
use Rattle.im_theory_machine.specs.Rows.{asked}
use Rattle.im_theory_machine.specs.Table.{Table, Decides}
use Rattle.im_theory_tree.specs.Levels.{Pages}
use Rattle.im_tree_search.specs.declared.change_beside.Beside.{Beside}
use Rattle.im_tree_search.specs.declared.sight.Sight.{Sight}
use Rattle.im_tree_search.specs.Sights.{IfSeen}
use Rattle.im_engine_access.specs.declared.lock_answer.LockAnswer.{LockAnswer}
use Rattle.im_engine_access.specs.LockAnswers.{verdict_of, IfGranted}
use Rattle.im_engine_access.specs.Hidden.{MeetsMade}

-- The lock table has decided what the access of t asks on the map; where it is granted, the value is the answer on that map.
pub record IsRead {X : Type 0} (reply : X → Reply) (t : ℕ) (a : Access) (m : IndexMap) (old new : Table) (outcome : LockAnswer X) : Type 0 where
  pub decides : Decides old t (asked a m) (verdict_of outcome) new
  pub says : IfGranted outcome (λ x. reply x ≡ answer a m)

-- The same beside a structure change of another. Where the access is hidden, a page of the change that is made stands where it reads, and no lock was asked.
abbrev pub IsReadBeside : {X : Type 0} → (X → Reply) → ℕ → Access → IndexMap → Pages → Beside → Table → Table → Sight (LockAnswer X) → Type 0
IsReadBeside reply t a m pages beside old new sight = IfSeen (IsRead reply t a m old new) (MeetsMade pages beside a m × (new ≡ old)) sight
