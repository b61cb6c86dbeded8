-- A restart with the current log of two: what its bytes spell, and why the choice refuses.
use Rattle.std.proofs.Common.{◌≡◌, ◌⊎◌, inl, inr, false, sym, ◌∙◌, subst}
use Rattle.im_base_types.specs.declared.fault.Fault.{Fault}
use Rattle.im_base_types.specs.declared.fault.Fault.TheVariants.{Capacity, Device, Memory, NotAStore}
use Rattle.im_base_disk.specs.declared.disk.Disk.{Ghosts}
use Rattle.im_base_disk.specs.Disk.{Files}
use Rattle.im_log_choice.specs.Current.{IsCurrent, HasCurrent}
use Rattle.im_log_choice.specs.Switching.{ReadsNamed}
use Rattle.im_restart.specs.Restart.{SpellsLog}
use Rattle.im_engine.specs.Stands.{SpellsCurrent}
use Rattle.im_engine.proofs.Named.{spells_by}

-- the choice refuses for one of the causes for which the reading of a log does
pub chosen_causes : (e : Fault) → (e ≡ NotAStore) ⊎ (e ≡ Device) → (e ≡ Memory) ⊎ (e ≡ Device) ⊎ (e ≡ NotAStore)
chosen_causes e (inl is) = inr (inr is)
chosen_causes e (inr is) = inr (inl is)

-- and never since numbers are used up
pub not_full : (e : Fault) → (e ≡ NotAStore) ⊎ (e ≡ Device) → {X : Type 0} → e ≡ Capacity → X
not_full e (inl is) {X} full = let clash : NotAStore ≡ Capacity = sym is ∙ full in absurd (cc clash)
not_full e (inr is) {X} full = let clash : Device ≡ Capacity = sym is ∙ full in absurd (cc clash)

module _ {D : Type 0} (d : Ghosts D) (old mid : D) (reads : ReadsNamed d old mid) where
  pub spells_old : IsCurrent false (d.seen mid) → HasCurrent (d.seen mid) → SpellsLog (d.seen mid) → SpellsCurrent (d.seen old)
  spells_old current has spells =
      spells_by (d.seen old) reads.swapped (subst (λ (f : Files). IsCurrent false f) reads.seen current) (subst (λ (f : Files). HasCurrent f) reads.seen has) (subst (λ (f : Files). SpellsLog f) reads.seen spells)

  pub still_unspelled : IsCurrent false (d.seen mid) → HasCurrent (d.seen mid) → ¬ (SpellsCurrent (d.seen old)) → ¬ (SpellsLog (d.seen mid))
  still_unspelled current has none spells = none (spells_old current has spells)
