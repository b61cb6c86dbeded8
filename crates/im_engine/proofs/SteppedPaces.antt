-- How a step goes on with the structure change under way, or beside it.
use Rattle.std.proofs.Common.{◌≡◌, inl, ℕ, List, true, Option, None, Some, refl, sym, ap, subst, ◌∙◌, ne_eqb}
use Rattle.im_base_types.specs.Answers as answers
use Rattle.im_base_types.specs.Answers.{Access, Fetch, Seek, Next, Prev, Scan, Insert, Delete, Do, Continue}
use Rattle.im_base_types.specs.Changes.{Effect}
use Rattle.im_base_types.specs.Lives.{Shown}
use Rattle.im_base_types.specs.Maps.{IndexMap}
use Rattle.im_theory_log.specs.Histories.{Base}
use Rattle.im_theory_log.specs.Structure.{settled}
use Rattle.im_base_disk.specs.declared.disk.Disk.{Ghosts}
use Rattle.im_base_steps.specs.declared.reply.Reply.{Reply}
use Rattle.im_base_steps.specs.Calls.{told_by}
use Rattle.im_theory_machine.specs.View.{View, owner_of, owns_in}
use Rattle.im_theory_steps.specs.Checks.{checked_by}
use Rattle.im_theory_tree.specs.Levels.{Pages}
use Rattle.im_tree_search.specs.declared.change_beside.Beside.{Beside}
use Rattle.im_engine.specs.declared.engine.Engine.{Engine}
use Rattle.im_engine.specs.declared.stepped.Under.{Under}
use Rattle.im_engine.specs.Aims.{IsSameUnder, IsToldTo, under_of}
use Rattle.im_engine.specs.Paces.{BarsAccess, TreeCause}
use Rattle.im_engine.specs.Running.{IsRunning}
use Rattle.im_engine.specs.Told.{IsBlockedBy, IsPaced}
use Rattle.im_engine.proofs.Causes.{reads}
use Rattle.im_engine.proofs.SteppedMade.{alone}

-- what is as it was is the same
pub same_under : (under : Option Under) → IsSameUnder under under
same_under None = tt
same_under (Some u) = record { images = refl; owner = refl; leads = refl; count = refl; aim = refl; done = refl }

-- an access that changes nothing is barred by no page that is not made
pub reads_unbarred : (a : Access) → reads a ≡ true → (pages : Pages) (beside : Beside) (m : IndexMap) → BarsAccess pages beside a m → ⊥
reads_unbarred (Fetch k) is pages beside m bars = bars
reads_unbarred (Seek k) is pages beside m bars = bars
reads_unbarred (Next k) is pages beside m bars = bars
reads_unbarred (Prev k) is pages beside m bars = bars
reads_unbarred (Scan lo hi n) is pages beside m bars = bars
reads_unbarred (Insert k r) is pages beside m bars = cc is
reads_unbarred (Delete k) is pages beside m bars = cc is

module _ {D : Type 0} (d : Ghosts D) (t : ℕ) (a : Access) (old : Engine D d) (checked : checked_by old.txns.rows (owns_in (under_of old.under) (Do t a)) (Do t a) ≡ None) where
  -- the structure change under way is another's
  pub blocked_by : {b : Base} (before : List Effect) (s : Shown) (v : View) (r : IsRunning d b before s v old) (u : Under) → old.under ≡ Some u → (beside : Beside) → IsToldTo u beside → TreeCause (settled b r.now.log) beside v.walk r.now.log (Do t a)
      → IsBlockedBy d b before s v (Do t a) old r
  blocked_by before s v r u under beside told cause = record {
    u = u;
    under = under;
    beside = beside;
    told = told;
    other = ne_eqb u.begun.change.transaction t (λ same. alone d t a old checked before s v r (ap owner_of (r.same ∙ ap under_of under) ∙ ap (λ (n : ℕ). Some n) same));
    cause = cause;
  }

  -- an access that changes nothing, and so no structure change
  pub paced_read : (new : Engine D d) → reads a ≡ true → new.under ≡ old.under → (reply : Reply) → (told_by reply ≡ answers.BlockedTree → (b : Base) (before : List Effect) (s : Shown) (v : View) (r : IsRunning d b before s v old) → IsBlockedBy d b before s v (Do t a) old r)
      → IsPaced d (Do t a) reply old new
  paced_read new is same reply tree = record {
    tree = tree;
    first = λ none b before s v r u under other beside told bars. absurd (reads_unbarred a is (settled b r.now.log) beside v.walk bars);
    told = λ none u under clash. absurd (let never : Do t a ≡ Continue u.begun.change.transaction = clash in cc never);
    own = λ none b before s v r u under clash. absurd (let never : Do t a ≡ Continue u.begun.change.transaction = clash in cc never);
    others = λ b before s v r not. inl (subst (λ (x : Option Under). IsSameUnder old.under x) (sym same) (same_under old.under));
  }
