-- How a step goes on with the structure change under way, where it leaves it as it is; and what its owner is never told.
use Rattle.std.proofs.Common.{◌≡◌, ◌≢◌, ◌⊎◌, inl, inr, ℕ, Bool, true, false, cond, is_some, Option, None, Some, refl, sym, ap, subst, ◌∙◌, ◌==◌, eqb-true}
use Rattle.im_base_types.specs.Answers as answers
use Rattle.im_base_types.specs.Answers.{Step, Begin, Do, Commit, Rollback, Continue, RollTo, FlushPage, Force, Checkpoint, Switch}
use Rattle.im_base_types.specs.Maps.{IndexMap}
use Rattle.im_theory_log.specs.Histories.{History}
use Rattle.im_base_disk.specs.declared.disk.Disk.{Ghosts}
use Rattle.im_base_steps.specs.declared.reply.Reply.{Reply}
use Rattle.im_base_steps.specs.declared.reply.Reply.TheVariants as replies
use Rattle.im_base_steps.specs.Calls.{told_by}
use Rattle.im_theory_tree.specs.Levels.{Pages}
use Rattle.im_theory_machine.specs.View.{pending_for, pending_of}
use Rattle.im_tree_search.specs.declared.change_beside.Beside.{Beside}
use Rattle.im_engine.specs.declared.engine.Engine.{Engine}
use Rattle.im_engine.specs.declared.stepped.Aim.{Aim}
use Rattle.im_engine.specs.declared.stepped.Aim.TheVariants.{Puts, Drops, TakesBack, TookBack}
use Rattle.im_engine.specs.declared.stepped.Under.{Under}
use Rattle.im_engine.specs.Aims.{IsSameUnder, aim_of, under_of}
use Rattle.im_engine.specs.Paces.{Bars, EndsAs, IsRefusal}
use Rattle.im_engine.specs.Told.{IsPaced, check_of}
use Rattle.im_engine.proofs.Running.{plain_under}

pub same_under : (u : Option Under) → IsSameUnder u u
same_under None = tt
same_under (Some u) = record { images = refl; owner = refl; leads = refl; count = refl; aim = refl; done = refl }

pub kept_under : (old new : Option Under) → new ≡ old → IsSameUnder old new
kept_under old new is = subst (λ (u : Option Under). IsSameUnder old u) (sym is) (same_under old)

-- a step that neither reads nor changes a key
abbrev pub is_aside : Step → Bool
is_aside (Do t a) = false
is_aside (Continue t) = false
is_aside _ = true

bars_none : (pages : Pages) (beside : Beside) (m : IndexMap) (log : History) (step : Step) → is_aside step ≡ true → Bars pages beside m log step → ⊥
bars_none pages beside m log (Do t a) is bars = cc is
bars_none pages beside m log (Continue t) is bars = cc is
bars_none pages beside m log Begin is bars = bars
bars_none pages beside m log (Commit t) is bars = bars
bars_none pages beside m log (Rollback t) is bars = bars
bars_none pages beside m log (RollTo t n) is bars = bars
bars_none pages beside m log (FlushPage p) is bars = bars
bars_none pages beside m log Force is bars = bars
bars_none pages beside m log Checkpoint is bars = bars
bars_none pages beside m log Switch is bars = bars

module _ {D : Type 0} (d : Ghosts D) (step : Step) (reply : Reply) (old new : Engine D d) (stays : new.under ≡ old.under) (not : told_by reply ≢ answers.BlockedTree) where
  -- by a store that makes each structure change within a step
  pub paced_alone : old.stepped ≡ false → IsPaced d step reply old new
  paced_alone plain = record {
    tree = λ is. absurd (not is);
    first = λ passed b before s v r u is. absurd (never u is);
    told = λ passed u is. absurd (never u is);
    own = λ passed b before s v r u is. absurd (never u is);
    others = λ b before s v r other. inl (kept_under old.under new.under stays);
  }
    where
      never : (u : Under) → old.under ≡ Some u → ⊥
      never u is = let clash : None ≡ Some u = sym (plain_under d old plain) ∙ is in cc clash

  -- a step that leaves keys alone goes on beside it
  pub paced_beside : is_aside step ≡ true → IsPaced d step reply old new
  paced_beside aside = record {
    tree = λ is. absurd (not is);
    first = λ passed b before s v r u is other beside told bars. absurd (bars_none _ beside v.walk r.now.log step aside bars);
    told = λ passed u is own. absurd (let clash : true ≡ false = sym aside ∙ ap is_aside own in cc clash);
    own = λ passed b before s v r u is own. absurd (let clash : true ≡ false = sym aside ∙ ap is_aside own in cc clash);
    others = λ b before s v r other. inl (kept_under old.under new.under stays);
  }

  -- one that a check bars
  pub paced_barred : (check_of d step old ≡ None → ⊥) → IsPaced d step reply old new
  paced_barred barred = record {
    tree = λ is. absurd (not is);
    first = λ passed. absurd (barred passed);
    told = λ passed. absurd (barred passed);
    own = λ passed. absurd (barred passed);
    others = λ b before s v r other. inl (kept_under old.under new.under stays);
  }

-- ---- who has an Insert or a Delete that goes on

no_refusal : (reply : Reply) → IsRefusal reply → reply ≡ replies.RolledBack → ⊥
no_refusal reply is rolled = let clash : replies.Refused is.0 ≡ replies.RolledBack = sym is.1 ∙ rolled in cc clash

ends_other : (aim : Aim) (reply : Reply) → is_some (pending_for (aim_of aim)) ≡ true → EndsAs aim reply → reply ≡ replies.RolledBack → ⊥
ends_other (Puts key rid leaf) reply goes ends rolled = let clash : replies.Inserted ≡ replies.RolledBack = sym ends ∙ rolled in cc clash
ends_other (Drops key) reply goes ends rolled = let clash : replies.Deleted ≡ replies.RolledBack = sym ends ∙ rolled in cc clash
ends_other TakesBack reply goes ends rolled = cc goes
ends_other TookBack reply goes ends rolled = cc goes

owns_by : (o : Bool) (a : Option answers.Access) → is_some (cond o a None) ≡ true → (o ≡ true) × (is_some a ≡ true)
owns_by true a is = (refl, is)
owns_by false a is = absurd (cc is)

-- is never told that it is rolled back
pub owner_stays : (u : Under) (reply : Reply) (t : ℕ) → is_some (pending_of (under_of (Some u)) t) ≡ true → (u.begun.change.transaction ≡ t → IsRefusal reply ⊎ ((reply ≡ replies.More) ⊎ EndsAs u.aim reply)) → reply ≡ replies.RolledBack → ⊥
owner_stays u reply t owns told rolled =
    let by = owns_by (u.begun.change.transaction == t) (pending_for (aim_of u.aim)) owns in
    elim (told (eqb-true u.begun.change.transaction t by.0)) [
      | inl refused ↦ no_refusal reply refused rolled
      | inr (inl more) ↦ (let clash : replies.More ≡ replies.RolledBack = sym more ∙ rolled in cc clash)
      | inr (inr ends) ↦ ends_other u.aim reply by.1 ends rolled
    ]
