-- Why the structure change of another stands in the way of a step, and how its owner goes on with one.
use Rattle.std.specs.Prelude.{◌≡◌, ◌≢◌, ◌⊎◌, ◌<◌, ◌==◌, ℕ, suc, Bool, true, false, length, Option, None, Some}
use Rattle.std.specs.FinMap.{get}
use Rattle.im_base_types.specs.Answers.{Access, Insert, Delete, Step, Do, Commit, Rollback, Continue, RollTo}
use Rattle.im_base_types.specs.Keys.{Key}
use Rattle.im_base_types.specs.Maps.{IndexMap}
use Rattle.im_base_types.specs.Records.{What, Logged}
use Rattle.im_base_types.specs.declared.fault.Fault.{Fault}
use Rattle.im_base_steps.specs.declared.reply.Reply.{Reply}
use Rattle.im_base_steps.specs.declared.reply.Reply.TheVariants.{Inserted, Deleted, RolledBack, More, Done, Refused}
use Rattle.im_theory_log.specs.Histories.{History}
use Rattle.im_theory_tree.specs.Levels.{Pages}
use Rattle.im_theory_tree.specs.Search.{IsOnWay}
use Rattle.im_tree_search.specs.declared.change_beside.Beside.{Beside}
use Rattle.im_tree_search.specs.Sights.{is_done}
use Rattle.im_smo_split.specs.Tops.{LacksRoomFor}
use Rattle.im_smo_actions.specs.GoingBeside.{is_planned}
use Rattle.im_restart_analysis.specs.Undo.{IsNext}
use Rattle.im_restart_undo.specs.Planning.{HiddenBack, IsLeafOf, NeedsChange}
use Rattle.im_engine_access.specs.Edits.{HasOne}
use Rattle.im_engine_access.specs.Hidden.{MeetsMade}
use Rattle.im_engine.specs.declared.stepped.Aim.{Aim}
use Rattle.im_engine.specs.declared.stepped.Aim.TheVariants.{Puts, Drops, TakesBack, TookBack}
use Rattle.im_engine.specs.declared.stepped.Under.{Under}
use Rattle.im_engine.specs.Aims.{IsSameChange, IsSameUnder}

-- the step is of this transaction
abbrev pub is_of_owner : ℕ → Step → Bool
is_of_owner u (Do t a) = u == t
is_of_owner u (Commit t) = u == t
is_of_owner u (Rollback t) = u == t
is_of_owner u (Continue t) = u == t
is_of_owner u (RollTo t left) = u == t
is_of_owner u _ = false

-- ---- in the way

-- The key's leaf is a page of the change, made or not; or the key needs a change of its own.
pub record IsInTheWay (pages : Pages) (beside : Beside) (key : Key) (Needs : Type 0) : Type 0 where
  pub leaf : ℕ
  pub way : IsOnWay pages 0 key leaf
  pub by : (is_planned beside leaf ≡ true) ⊎ Needs

-- an access that would change its key is barred so, and no other
abbrev pub BarsAccess : Pages → Beside → Access → IndexMap → Type 0
BarsAccess pages beside (Insert k i) m = (get m k ≡ None) × IsInTheWay pages beside k (LacksRoomFor pages k)
BarsAccess pages beside (Delete k) m = (get m k ≢ None) × IsInTheWay pages beside k (HasOne pages k)
BarsAccess pages beside _ m = ⊥

-- A change that is taken back is barred where the page that its record names is made, its key's leaf is one of the change, or it needs a change of its own.
pub data BarsBack (pages : Pages) (beside : Beside) (page : ℕ) (w : What) : Type 0 where
  page_made : is_done beside page ≡ true → BarsBack pages beside page w
  leaf_planned : (leaf : ℕ) → IsLeafOf pages w leaf → is_planned beside leaf ≡ true → BarsBack pages beside page w
  change_needed : NeedsChange pages w → BarsBack pages beside page w

-- Which steps the change bars, whatever they meet on their way: no lock is asked, and nothing is logged of them.
abbrev pub Bars : Pages → Beside → IndexMap → History → Step → Type 0
Bars pages beside m log (Do t a) = BarsAccess pages beside a m
Bars pages beside m log (Continue t) = (found : Logged) × IsNext t log found × BarsBack pages beside found.page found.what
Bars pages beside m log _ = ⊥

-- Why a step is told that the change stands in its way: it is barred, or meets a page that is made.
abbrev pub TreeCause : Pages → Beside → IndexMap → History → Step → Type 0
TreeCause pages beside m log (Do t a) = MeetsMade pages beside a m ⊎ BarsAccess pages beside a m
TreeCause pages beside m log (Continue t) = (found : Logged) × IsNext t log found × HiddenBack pages beside found.page found.what
TreeCause pages beside m log _ = ⊥

-- ---- its owner goes on

abbrev pub IsRefusal : Reply → Type 0
IsRefusal reply = (fault : Fault) × (reply ≡ Refused fault)

-- what its last step answers; after one for a change that is taken back it is More, or the end of a rollback or of a return
abbrev pub EndsAs : Aim → Reply → Type 0
EndsAs (Puts key rid leaf) reply = reply ≡ Inserted
EndsAs (Drops key) reply = reply ≡ Deleted
EndsAs TakesBack reply = (reply ≡ More) ⊎ (reply ≡ RolledBack) ⊎ (reply ≡ Done)
EndsAs TookBack reply = (reply ≡ More) ⊎ (reply ≡ RolledBack) ⊎ (reply ≡ Done)

-- Its owner's Continue makes one page of it, as long as one is left, and after the last one ends it. Refused at a page, it is as it was.
pub record GoesOnWith (u : Under) (reply : Reply) (new : Option Under) : Type 0 where
  pub page : u.begun.change.done < length u.begun.change.images → ((reply ≡ More) × (x : Under) × (new ≡ Some x) × IsSameChange suc u x) ⊎ (IsRefusal reply × IsSameUnder (Some u) new)
  pub end : u.begun.change.done ≡ length u.begun.change.images → (EndsAs u.aim reply × (new ≡ None)) ⊎ IsRefusal reply
