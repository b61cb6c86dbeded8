-- Accesses that change nothing, beside a structure change.
use Rattle.std.proofs.Common.{◌≡◌, ℕ, List, Option, None, Some, refl, subst}
use Rattle.std.specs.FinMap.{entries}
use Rattle.im_base_types.specs.Answers.{Access, Reply}
use Rattle.im_base_types.specs.Changes.{Effect}
use Rattle.im_base_types.specs.Lives.{Shown}
use Rattle.im_base_types.specs.Maps.{IndexMap}
use Rattle.im_base_disk.specs.declared.disk.Disk.{Ghosts}
use Rattle.im_theory_log.specs.Histories.{Base}
use Rattle.im_theory_log.specs.Structure.{settled}
use Rattle.im_page_writer.specs.Outcome.{AllPages}
use Rattle.im_theory_tree.specs.Levels.{walk}
use Rattle.im_theory_machine.specs.View.{View}
use Rattle.im_tree_search.specs.declared.change_beside.Beside.{Beside}
use Rattle.im_tree_search.specs.declared.sight.Sight.{Sight}
use Rattle.im_tree_search.specs.declared.sight.Sight.TheVariants.{Seen, Hidden}
use Rattle.im_tree_search.specs.Levels.{bodies_of}
use Rattle.im_tree_search.specs.Sights.{HasTreeBut}
use Rattle.im_smo_actions.specs.GoingBeside.{settled_pages}
use Rattle.im_engine_access.specs.declared.lock_answer.LockAnswer.{LockAnswer}
use Rattle.im_engine_access.specs.Hidden.{MeetsMade}
use Rattle.im_engine_access.specs.Reads.{IsRead, IsReadBeside}
use Rattle.im_engine_access.proofs.NoneBeside.{made_none}
use Rattle.im_engine.specs.declared.engine.Engine.{Engine}
use Rattle.im_engine.specs.declared.stepped.Under.{Under}
use Rattle.im_engine.specs.Aims.{IsBesideOf, IsToldTo}
use Rattle.im_engine.specs.Running.{IsRunning}
use Rattle.im_engine.proofs.SteppedTold.{tree_here, walk_here}

module _ {D : Type 0} (d : Ghosts D) (t : ℕ) (a : Access) (old new : Engine D d) (beside : Beside) where
  -- what a search says that was answered so
  abbrev pub Says : {X : Type 0} → (X → Reply) → Sight (LockAnswer X) → Type 0
  Says says o = (pages : AllPages) (m : IndexMap) → HasTreeBut d pages beside old.writer old.disk → walk (bodies_of pages) ≡ entries m → IsReadBeside says t a m (bodies_of pages) beside old.locks new.locks o

  module _ {b : Base} (before : List Effect) (s : Shown) (v : View) (r : IsRunning d b before s v old) (is : IsBesideOf old.under beside) {X : Type 0} (says : X → Reply) (o : Sight (LockAnswer X)) (read : Says says o) where
    abbrev Here : Sight (LockAnswer X) → Type 0
    Here y = IsReadBeside says t a v.walk (bodies_of (settled_pages b r.now)) beside old.locks new.locks y

    here : Here o
    here = read (settled_pages b r.now) v.walk (tree_here d before s v old r beside is).tree (walk_here d before s v old r beside is)

    -- what it has seen it answers as it does where none is under way
    pub seen_here : (x : LockAnswer X) → o ≡ Seen x → IsRead says t a v.walk old.locks new.locks x
    seen_here x same = subst (λ (y : Sight (LockAnswer X)). Here y) same here

    -- and it is hidden only by the structure change under way, with no lock asked
    pub hidden_here : o ≡ Hidden → (u : Under) × (old.under ≡ Some u) × IsToldTo u beside × MeetsMade (settled b r.now.log) beside a v.walk × (new.locks ≡ old.locks)
    hidden_here same = by old.under refl is
      where
        why : MeetsMade (settled b r.now.log) beside a v.walk × (new.locks ≡ old.locks)
        why = subst (λ (y : Sight (LockAnswer X)). Here y) same here

        by : (under : Option Under) → old.under ≡ under → IsBesideOf under beside → (u : Under) × (old.under ≡ Some u) × IsToldTo u beside × MeetsMade (settled b r.now.log) beside a v.walk × (new.locks ≡ old.locks)
        by None so none = absurd (made_none (settled b r.now.log) beside a v.walk none why.0)
        by (Some u) so told = (u, so, told, why.0, why.1)
