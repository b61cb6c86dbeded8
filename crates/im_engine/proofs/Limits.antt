-- Refusals of the limits of an opening, before anything is read.
use Rattle.std.proofs.Common.{inl, inr, sym, subst, ◌∙◌}
use Rattle.std.specs.Prelude.{◌≡◌, ◌⊎◌, Some}
use Rattle.im_base_types.specs.declared.fault.Fault.{Fault}
use Rattle.im_base_types.specs.declared.fault.Fault.TheVariants.{PoolSize, Workers}
use Rattle.im_base_disk.specs.declared.disk.Disk.{Ghosts}
use Rattle.im_restart.specs.Opening.{OpeningEnds, Opens}

-- such a refusal is no other one
pub limits_alone : (f e : Fault) → (f ≡ PoolSize) ⊎ (f ≡ Workers) → (PoolSize ≡ e → ⊥) → (Workers ≡ e → ⊥) → f ≡ e → ⊥
limits_alone f e (inl frames) pool workers is = pool (sym frames ∙ is)
limits_alone f e (inr few) pool workers is = workers (sym few ∙ is)

-- and what a restart is refused is none
module _ {D : Type 0} (d : Ghosts D) (new : D) (f : Fault) (opens : Opens d new (Some f)) where
  pub not_frames : f ≡ PoolSize → ⊥
  not_frames is = let ends : OpeningEnds d new (Some PoolSize) = subst (λ (x : Fault). OpeningEnds d new (Some x)) is opens.ends in let clash = ends.0 in cc clash

  pub not_workers : f ≡ Workers → ⊥
  not_workers is = let ends : OpeningEnds d new (Some Workers) = subst (λ (x : Fault). OpeningEnds d new (Some x)) is opens.ends in let clash = ends.0 in cc clash
