-- How the store of a call is opened.
use Rattle.std.proofs.Common.{inl, inr, arith}
use Rattle.std.proofs.Math.Nat.{lt_of_not-le}
use Rattle.std.specs.Prelude.{◌≡◌, ◌⊎◌, ◌↔◌, ◌<◌, ◌≤◌, ℕ, true, false, Ok}
use Rattle.im_base_disk.specs.declared.disk.Disk.{Ghosts}
use Rattle.im_calls.specs.declared.opening.Opening.{Opening}
use Rattle.im_calls.specs.Openings.{HasBounds, IsOpenedOn}
use Rattle.im_engine.specs.declared.config.Config.{Config}
use Rattle.im_store.specs.declared.bounds.Bounds.{Bounds}
use Rattle.im_store.specs.Stores.{IsOpenedStore}
use Rattle.im_store.specs.declared.open_store.OpenStore.{OpenStore}

-- a store that was opened with these limits is what is asked
pub opened_on : {D : Type 0} (d : Ghosts D) (asked : Opening) (disk : D) (config : Config) (bounds : Bounds) (s : OpenStore D d) → config.frames ≡ asked.frames → config.more.frames ≡ asked.more
    → config.max_pages ≡ asked.max_pages → (config.group ≡ true) ↔ (asked.group ≡ 1) → config.workers ≡ 1 → config.dense ≡ true → HasBounds asked bounds → IsOpenedStore d config bounds disk (Ok s) → IsOpenedOn d asked disk s
opened_on d asked disk config bounds s frames more pages group workers dense bounded opened = record {
  config = config;
  frames = frames;
  more = more;
  max_pages = pages;
  group = group;
  workers = workers;
  dense = dense;
  bounds = bounds;
  bounded = bounded;
  opened = opened;
}

wider : {A B C : Type 0} → A ⊎ B → A ⊎ B ⊎ C
wider (inl a) = inl a
wider (inr b) = inr (inl b)

narrower : {A B C : Type 0} → (C → ⊥) → A ⊎ B ⊎ C → A ⊎ B
narrower never (inl a) = inl a
narrower never (inr (inl b)) = inr b
narrower never (inr (inr c)) = absurd (never c)

-- a number that the test of how many there may be does not take is above them
pub not_taken : (more : ℕ) → (more ≤ 261120 → false ≡ true) → 261120 < more
not_taken more taken = lt_of_not-le (λ few. let never : false ≡ true = taken few in cc never)

-- where those that are asked more are few enough, it goes by the others alone whether frames are refused
pub frames_refused : {P : Type 0} (frames more : ℕ) → more ≤ 261120 → P ↔ ((frames < 8) ⊎ (1024 < frames)) → P ↔ ((frames < 8) ⊎ (1024 < frames) ⊎ (261120 < more))
frames_refused frames more few is = (λ refused. wider (is.0 refused), λ wrong. is.1 (narrower (λ (many : 261120 < more). omega (arith, few, many)) wrong))
