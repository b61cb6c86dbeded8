-- Which accesses a structure change of another bars, and why one is hidden beside it.
use Rattle.std.specs.Prelude.{◌≡◌, ◌≢◌, ◌⊎◌, ℕ, true, [], None, Result, IfOk, IfErr}
use Rattle.std.specs.FinMap.{get}
use Rattle.im_base_types.specs.declared.fault.Fault.{Fault}
use Rattle.im_base_types.specs.declared.fault.Fault.TheVariants.{Device, LogFull}
use Rattle.im_base_types.specs.Keys.{Key}
use Rattle.im_base_types.specs.Maps.{IndexMap}
use Rattle.im_base_types.specs.Answers.{Access, Insert, Delete}
use Rattle.im_theory_tree.specs.Levels.{Pages}
use Rattle.im_theory_tree.specs.Search.{IsOnWay}
use Rattle.im_tree_search.specs.declared.change_beside.Beside.{Beside}
use Rattle.im_tree_search.specs.declared.sight.Sight.{Sight}
use Rattle.im_tree_search.specs.Sights.{IfSeen}
use Rattle.im_smo_split.specs.Tops.{LacksRoomFor}
use Rattle.im_smo_actions.specs.GoingBeside.{is_planned}
use Rattle.im_engine_access.specs.Edits.{HasOne}
use Rattle.im_engine_access.specs.Hidden.{MeetsMade}

-- The key's leaf is a page of the change, made or not; or a change is under way, and the key needs one of its own.
pub record IsBarred (pages : Pages) (beside : Beside) (key : Key) (Needs : Type 0) : Type 0 where
  pub leaf : ℕ
  pub way : IsOnWay pages 0 key leaf
  pub by : (is_planned beside leaf ≡ true) ⊎ ((beside.pages.now ≢ []) × Needs)

-- an access that would change the key is barred so, and no other
abbrev pub Bars : Pages → Beside → Access → IndexMap → Type 0
Bars pages beside (Insert k i) m = (get m k ≡ None) × IsBarred pages beside k (LacksRoomFor pages k)
Bars pages beside (Delete k) m = (get m k ≢ None) × IsBarred pages beside k (HasOne pages k)
Bars pages beside _ m = ⊥

-- Why an access is hidden: a page that is made stands where it reads, or the change bars it.
pub data TreeCause (pages : Pages) (beside : Beside) (a : Access) (m : IndexMap) : Type 0 where
  meets : MeetsMade pages beside a m → TreeCause pages beside a m
  barred : Bars pages beside a m → TreeCause pages beside a m

-- what a call is answered that is barred: it is hidden, or the files refused what it read
abbrev pub IsBarredOff : {X : Type 0} → Result (Sight X) Fault → Type 0
IsBarredOff result = IfOk result (IfSeen (λ x. ⊥) (Unit {0})) × IfErr result (λ e. (e ≡ Device) ⊎ (e ≡ LogFull))
