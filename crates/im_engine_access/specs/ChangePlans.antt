-- How a key comes or goes beside a structure change of another: what is laid down before anything is logged.
use Rattle.std.specs.Prelude.{◌≡◌, ◌≢◌, ◌≤◌, ◌⊎◌, ℕ, Bool, true, false, List, [], length, None, Some, Result, IfOk, IfErr}
use Rattle.std.specs.FinMap.{get}
use Rattle.im_base_types.specs.declared.fault.Fault.{Fault}
use Rattle.im_base_types.specs.declared.fault.Fault.TheVariants.{Capacity, PagesFull}
use Rattle.im_base_types.specs.Keys.{Key}
use Rattle.im_base_types.specs.Maps.{IndexMap}
use Rattle.im_base_types.specs.Answers.{Insert, Delete}
use Rattle.im_page_writer.specs.Outcome.{AllPages, IsSound}
use Rattle.im_theory_machine.specs.Changing.{asked_begun}
use Rattle.im_theory_machine.specs.Locks.{Request}
use Rattle.im_theory_machine.specs.Rows.{asked}
use Rattle.im_theory_machine.specs.Table.{Table, Decides}
use Rattle.im_theory_machine.specs.declared.verdict.Verdict.TheVariants.{Granted as GrantedAll, Wait as MustWait, Die as MustDie}
use Rattle.im_theory_page.specs.Split.{HasRoom}
use Rattle.im_theory_tree.specs.Search.{IsOnWay}
use Rattle.im_tree_search.specs.declared.change_beside.Beside.{Beside}
use Rattle.im_tree_search.specs.declared.sight.Sight.{Sight}
use Rattle.im_tree_search.specs.Levels.{bodies_of}
use Rattle.im_tree_search.specs.Sights.{IfSeen}
use Rattle.im_smo_pages.specs.Images.{IsRising}
use Rattle.im_smo_drop_leaf.specs.Emptied.{emptied}
use Rattle.im_smo_drop_leaf.specs.Plan.{IsPlan}
use Rattle.im_smo_split.specs.Plan.{IsOver, Planned}
use Rattle.im_smo_split.specs.Tops.{LacksRoomFor}
use Rattle.im_smo_actions.specs.declared.planned_change.PlannedChange.{PlannedChange}
use Rattle.im_smo_actions.specs.GoingBeside.{is_planned}
use Rattle.im_smo_actions.specs.Structure.{IsUsedUp}
use Rattle.im_engine_access.specs.declared.change_plan.Coming.{Coming}
use Rattle.im_engine_access.specs.declared.change_plan.Coming.TheVariants.{There, Fits, Splits, UsedUp}
use Rattle.im_engine_access.specs.declared.change_plan.Leaving.{Leaving}
use Rattle.im_engine_access.specs.declared.change_plan.Leaving.TheVariants.{Gone, Takes, Empties}
use Rattle.im_engine_access.specs.declared.lock_answer.LockAnswer.{LockAnswer}
use Rattle.im_engine_access.specs.declared.lock_answer.LockAnswer.TheVariants.{Granted, Wait, Die}
use Rattle.im_engine_access.specs.Barred.{Bars, IsBarredOff, TreeCause}
use Rattle.im_engine_access.specs.Edits.{IsLimited}
use Rattle.im_engine_access.specs.LockAnswers.{verdict_of, IfGranted}

-- ---- a key that comes

-- The key is not there; its leaf, this page, has room for it, and is none of the change's.
pub record KeyFits (pages : AllPages) (beside : Beside) (key : Key) (m : IndexMap) (page : ℕ) : Type 0 where
  pub absent : get m key ≡ None
  pub apart : is_planned beside page ≡ false
  pub way : IsOnWay (bodies_of pages) 0 key page
  pub room : HasRoom true (bodies_of pages page).entries (key, 0)

-- The key is not there, its leaf lacks room for it, and no change is under way: these pages are the split of that leaf, this one the key's leaf after it.
pub record KeySplits (pages : AllPages) (beside : Beside) (key : Key) (dense : Bool) (max : ℕ) (m : IndexMap) (plan : PlannedChange) (leaf : ℕ) : Type 0 where
  pub absent : get m key ≡ None
  pub alone : beside.pages.now ≡ []
  pub lacks : LacksRoomFor (bodies_of pages) key
  pub planned : Planned dense pages key (Some max) plan.images leaf
  pub some : 1 ≤ length plan.images
  pub rising : IsRising plan.images
  pub count : plan.count ≡ (bodies_of pages 0).leftmost

-- The same, where page numbers or levels are used up.
pub record KeyLacksNumbers (pages : AllPages) (beside : Beside) (key : Key) (dense : Bool) (m : IndexMap) : Type 0 where
  pub absent : get m key ≡ None
  pub alone : beside.pages.now ≡ []
  pub lacks : LacksRoomFor (bodies_of pages) key
  pub used_up : IsUsedUp dense (bodies_of pages) key

-- so a key may come
abbrev pub IsComing : AllPages → Beside → Key → Bool → ℕ → IndexMap → Coming → Type 0
IsComing pages beside key dense max m There = (i : ℕ) × (get m key ≡ Some i)
IsComing pages beside key dense max m (Fits page) = KeyFits pages beside key m page
IsComing pages beside key dense max m (Splits plan leaf) = KeySplits pages beside key dense max m plan leaf
IsComing pages beside key dense max m UsedUp = KeyLacksNumbers pages beside key dense m

-- whether a change begins that goes on over several steps
abbrev pub begins : Bool → Coming → Bool
begins stepped There = false
begins stepped (Fits page) = false
begins stepped (Splits plan leaf) = stepped
begins stepped UsedUp = false

-- the locks by that: where one begins the next name until it ends
abbrev pub asks_row : Bool → Key → ℕ → IndexMap → List Request
asks_row true key rid m = asked_begun key m
asks_row false key rid m = asked (Insert key rid) m

abbrev pub asks_of : Bool → Coming → Key → ℕ → IndexMap → List Request
asks_of stepped coming key rid m = asks_row (begins stepped coming) key rid m

-- what planning the split keeps
pub record ComingPlanned (pages : AllPages) (beside : Beside) (key : Key) (dense : Bool) (max : ℕ) (m : IndexMap) (result : Result Coming Fault) : Type 0 where
  pub sound : IsSound result (IsComing pages beside key dense max m)
  -- the locks are asked as for a change that begins, or for page numbers that are wanting
  pub limited : IfOk result (λ _. IsLimited dense (bodies_of pages) key max)
  pub full : IfErr result (λ e. e ≡ PagesFull → LacksRoomFor (bodies_of pages) key × IsOver dense (bodies_of pages) key max)

-- The lock table has decided them; where they are granted, the key may come so. Who waits or dies has asked as an Insert asks that ends at once.
abbrev pub IsComingDecided : Bool → (Coming → Type 0) → Table → ℕ → Key → ℕ → IndexMap → Table → LockAnswer Coming → Type 0
IsComingDecided stepped P old t key rid m new (Granted x) = Decides old t (asks_of stepped x key rid m) GrantedAll new × P x
IsComingDecided stepped P old t key rid m new (Wait holder) = Decides old t (asked (Insert key rid) m) (MustWait holder) new
IsComingDecided stepped P old t key rid m new Die = Decides old t (asked (Insert key rid) m) MustDie new

-- what laying an insert down keeps
pub record ComingKept (stepped : Bool) (pages : AllPages) (beside : Beside) (t : ℕ) (key : Key) (rid : ℕ) (dense : Bool) (max : ℕ) (m : IndexMap) (old new : Table) (result : Result (Sight (LockAnswer Coming)) Fault) : Type 0 where
  pub sound : IsSound result (IfSeen (IsComingDecided stepped (IsComing pages beside key dense max m) old t key rid m new) (TreeCause (bodies_of pages) beside (Insert key rid) m × (new ≡ old)))
  pub full : IfErr result (λ e. e ≡ PagesFull → (get m key ≡ None) × LacksRoomFor (bodies_of pages) key × IsOver dense (bodies_of pages) key max)
  -- whatever was decided: a plan over the limit has asked no lock
  pub limited : IfOk result (IfSeen (λ _. get m key ≡ None → IsLimited dense (bodies_of pages) key max) (Unit {0}))
  pub first : Bars (bodies_of pages) beside (Insert key rid) m → IsBarredOff result

-- ---- a key that goes

-- The key is there with this row id. Its leaf, this page, is none of the change's, and is the root or has another number of entries than one.
pub record KeyTakes (pages : AllPages) (beside : Beside) (key : Key) (m : IndexMap) (page rid : ℕ) : Type 0 where
  pub there : get m key ≡ Some rid
  pub apart : is_planned beside page ≡ false
  pub way : IsOnWay (bodies_of pages) 0 key page
  pub more : (page ≡ 1) ⊎ (length (bodies_of pages page).entries ≢ 1)

-- The key is there with this row id, its leaf, this page, has nothing else and is not the root, and no change is under way: these pages take the leaf out of the tree once the key is gone.
pub record KeyEmpties (pages : AllPages) (beside : Beside) (key : Key) (m : IndexMap) (page rid : ℕ) (plan : PlannedChange) : Type 0 where
  pub there : get m key ≡ Some rid
  pub alone : beside.pages.now ≡ []
  pub way : IsOnWay (bodies_of pages) 0 key page
  pub under : page ≢ 1
  pub one : length (bodies_of pages page).entries ≡ 1
  pub planned : IsPlan (emptied pages page) page plan.images
  pub rising : IsRising plan.images
  pub count : plan.count ≡ (bodies_of pages 0).leftmost

-- so a key may go
abbrev pub IsLeaving : AllPages → Beside → Key → IndexMap → Leaving → Type 0
IsLeaving pages beside key m Gone = get m key ≡ None
IsLeaving pages beside key m (Takes page rid) = KeyTakes pages beside key m page rid
IsLeaving pages beside key m (Empties page rid plan) = KeyEmpties pages beside key m page rid plan

-- whether the key is there
abbrev pub is_there_for : Leaving → Bool
is_there_for Gone = false
is_there_for (Takes page rid) = true
is_there_for (Empties page rid plan) = true

-- The lock table has decided what the Delete asks; where it is granted, the key may go so.
pub record IsLeavingDecided (P : Leaving → Type 0) (old : Table) (t : ℕ) (key : Key) (m : IndexMap) (new : Table) (answer : LockAnswer Leaving) : Type 0 where
  pub decides : Decides old t (asked (Delete key) m) (verdict_of answer) new
  pub so : IfGranted answer P

-- what laying a delete down keeps
pub record LeavingKept (pages : AllPages) (beside : Beside) (t : ℕ) (key : Key) (m : IndexMap) (old new : Table) (result : Result (Sight (LockAnswer Leaving)) Fault) : Type 0 where
  pub sound : IsSound result (IfSeen (IsLeavingDecided (IsLeaving pages beside key m) old t key m new) (TreeCause (bodies_of pages) beside (Delete key) m × (new ≡ old)))
  pub first : Bars (bodies_of pages) beside (Delete key) m → IsBarredOff result

-- refusals of what is laid down after the grant: page numbers are used up
abbrev pub wants_numbers : Fault → Bool
wants_numbers Capacity = true
wants_numbers e = false
