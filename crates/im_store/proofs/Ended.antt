-- How a store ends, by how its upkeep and then its engine did.
use Rattle.std.proofs.Common.{◌∙◌, inl, inr, refl, subst, sym}
use Rattle.std.specs.Prelude.{◌≡◌, ◌⊎◌, true, false, Result, Ok, Err, OnOk, IfErr}
use Rattle.im_base_types.specs.declared.fault.Fault.{Fault}
use Rattle.im_base_types.specs.declared.fault.Fault.TheVariants.{Device, Failed}
use Rattle.im_base_disk.specs.Disk.{Files}
use Rattle.im_base_disk.specs.declared.disk.Disk.{Ghosts}
use Rattle.im_base_disk.specs.Runs.{IsSynced, LeavesOnly}
use Rattle.im_base_disk.proofs.Runs.{started}
use Rattle.im_engine.specs.declared.engine.Engine.{Engine}
use Rattle.im_store.specs.Rule.{WasRefused}
use Rattle.im_store.specs.Upkeep.{IsKeptUp, none}
use Rattle.im_store.specs.declared.open_store.OpenStore.{OpenStore}
use Rattle.im_store.specs.Stores.{IsEnd, WasEnded}

-- what the engine says of its own end
pub record IsEngineEnd {D : Type 0} (d : Ghosts D) (last : Engine D d) (r : Result Unit Fault) (left : D) : Type 0 where
  pub seen : d.seen left ≡ d.seen last.disk
  pub outcomes : (c : Files) → d.may_leave left c → d.may_leave last.disk c
  pub stops : LeavesOnly d last.disk left (d.may_leave last.disk)
  pub synced : OnOk r ((last.failed ≡ false) × IsSynced d left × (d.failed left ≡ false))
  pub causes : IfErr r (λ e. ((e ≡ Failed) × (last.failed ≡ true) × (left ≡ last.disk)) ⊎ ((e ≡ Device) × (d.failed left ≡ true)))

made_on : {A : Type 0} (r : Result Unit Fault) → A → OnOk r A
made_on (Ok _) a = a
made_on (Err e) a = tt

module _ {D : Type 0} (d : Ghosts D) where
  -- the causes of the engine's end are those of the store's
  causes_on : (old : OpenStore D d) (last : Engine D d) (left : D) (r : Result Unit Fault) → IfErr r (λ e. ((e ≡ Failed) × (last.failed ≡ true) × (left ≡ last.disk)) ⊎ ((e ≡ Device) × (d.failed left ≡ true)))
      → IfErr r (λ e. WasRefused d old.engine last e ⊎ ((e ≡ Failed) × (last.failed ≡ true)) ⊎ ((e ≡ Device) × (d.failed left ≡ true)))
  causes_on old last left (Ok _) is = tt
  causes_on old last left (Err e) (inl broken) = inr (inl (broken.0, broken.1))
  causes_on old last left (Err e) (inr lost) = inr (inr lost)

  -- an engine that had failed
  pub broken_end : (only_now : (disk : D) (c : Files) → d.left_since disk (d.moment disk) c → d.may_leave disk c) (old : OpenStore D d) (left : D) → old.engine.failed ≡ true → left ≡ old.engine.disk → IsEnd d old (Err Failed) left
  broken_end only_now old left fails same = subst (λ (x : D). IsEnd d old (Err Failed) x) (sym same) (record {
    last = old.engine;
    kept = none;
    seen = refl;
    outcomes = λ c may. may;
    stops = started d old.engine.disk (d.may_leave old.engine.disk) (λ told f now. only_now old.engine.disk f now);
    made = tt;
    synced = tt;
    broken = λ _. (refl, refl);
    causes = inr (inl (refl, fails));
  })

  -- one that worked, and all was made
  pub made_end : (old : OpenStore D d) (last : Engine D d) (r : Result Unit Fault) (left : D) → old.engine.failed ≡ false → IsKeptUp d old.engine last → WasEnded d old last → IsEngineEnd d last r left → IsEnd d old r left
  made_end old last r left works kept made end = record {
    last = last;
    kept = kept;
    seen = end.seen;
    outcomes = end.outcomes;
    stops = end.stops;
    made = made_on r made;
    synced = end.synced;
    broken = λ fails. absurd (let never : true ≡ false = sym fails ∙ works in cc never);
    causes = causes_on old last left r end.causes;
  }

  -- and something was refused
  pub refused_end : (old : OpenStore D d) (last : Engine D d) (fault : Fault) (r : Result Unit Fault) (left : D) → old.engine.failed ≡ false → IsKeptUp d old.engine last → WasRefused d old.engine last fault → IsEngineEnd d last r left → IsEnd d old (Err fault) left
  refused_end old last fault r left works kept was end = record {
    last = last;
    kept = kept;
    seen = end.seen;
    outcomes = end.outcomes;
    stops = end.stops;
    made = tt;
    synced = tt;
    broken = λ fails. absurd (let never : true ≡ false = sym fails ∙ works in cc never);
    causes = inl was;
  }
