-- What an opening of the engine makes of one of a store.
use Rattle.std.proofs.Common.{◌∙◌, ap, inl, inr, refl, subst, sym, arith}
use Rattle.std.proofs.Math.Nat.{lt_of_not-le}
use Rattle.std.specs.Prelude.{◌≡◌, ◌⊎◌, ◌↔◌, ◌<◌, ◌≤◌, ◌+◌, ℕ, Bool, true, None, Result, Ok, Err, IfErr}
use Rattle.im_base_types.specs.declared.fault.Fault.{Fault}
use Rattle.im_base_types.specs.declared.fault.Fault.TheVariants.{Device, PoolSize, Workers}
use Rattle.im_base_disk.specs.declared.disk.Disk.{Ghosts}
use Rattle.im_base_disk.specs.Disk.{Files}
use Rattle.im_base_disk.specs.Runs.{Reads}
use Rattle.im_engine.specs.declared.config.Config.{Config}
use Rattle.im_engine.specs.declared.engine.Engine.{Engine}
use Rattle.im_engine.specs.Opening.{IsOpening}
use Rattle.im_store.specs.declared.bounds.Bounds.{Bounds}
use Rattle.im_store.specs.declared.upkeep.Upkeep.{Upkeep}
use Rattle.im_log_choice.specs.Found.{HasFirst}
use Rattle.im_store.specs.LogFiles.{HasLong}
use Rattle.im_store.specs.Noted.{fresh}
use Rattle.im_store.specs.declared.open_store.OpenStore.{OpenStore}
use Rattle.im_store.specs.Stores.{AreRight, IsOpenedStore}

-- frames and workers for which nothing was refused
pub right : (frames workers : ℕ) → (((frames < 8) ⊎ (1024 < frames)) → ⊥) → (((8 ≤ frames) × (frames ≤ 1024)) × ((workers < 1) ⊎ (16 < workers)) → ⊥)
    → ((8 ≤ frames) × (frames ≤ 1024)) × ((1 ≤ workers) × (workers ≤ 16))
right frames workers few none =
    let low : 8 < frames + 1 = lt_of_not-le (λ h. few (inl (omega (arith, h)))) in
    let high : frames < 1025 = lt_of_not-le (λ h. few (inr (omega (arith, h)))) in
    let is : (8 ≤ frames) × (frames ≤ 1024) = (omega (arith, low), omega (arith, high)) in
    let one : 1 < workers + 1 = lt_of_not-le (λ h. none (is, inl (omega (arith, h)))) in
    let most : workers < 17 = lt_of_not-le (λ h. none (is, inr (omega (arith, h)))) in
    (is, (omega (arith, one), omega (arith, most)))

-- and where they are right neither is refused
pub not_frames : (frames workers : ℕ) → ((8 ≤ frames) × (frames ≤ 1024)) × ((1 ≤ workers) × (workers ≤ 16)) → ((frames < 8) ⊎ (1024 < frames)) → ⊥
not_frames frames workers is (inl low) = omega (arith, is.0.0, low)
not_frames frames workers is (inr high) = omega (arith, is.0.1, high)

pub not_workers : (frames workers : ℕ) → ((8 ≤ frames) × (frames ≤ 1024)) × ((1 ≤ workers) × (workers ≤ 16)) → ((8 ≤ frames) × (frames ≤ 1024)) × ((workers < 1) ⊎ (16 < workers)) → ⊥
not_workers frames workers is (_, inl low) = omega (arith, is.1.0, low)
not_workers frames workers is (_, inr high) = omega (arith, is.1.1, high)

-- a refusal of theirs is none where they are right
pub none_refused : (f : Fault) (frames workers : ℕ) → (f ≡ PoolSize → (frames < 8) ⊎ (1024 < frames)) → (f ≡ Workers → ((8 ≤ frames) × (frames ≤ 1024)) × ((workers < 1) ⊎ (16 < workers))) → (f ≡ PoolSize) ⊎ (f ≡ Workers)
    → ((8 ≤ frames) × (frames ≤ 1024)) × ((1 ≤ workers) × (workers ≤ 16)) → ⊥
none_refused f frames workers few none (inl pool) is = not_frames frames workers is (few pool)
none_refused f frames workers few none (inr work) is = not_workers frames workers is (none work)

-- a refusal, and what else is known
pub refused_with : {A : Type 0} (r : Result A Fault) (P : Fault → Type 0) (Q : Type 0) → IfErr r P → Q → IfErr r (λ e. P e × Q)
refused_with (Ok a) P Q why so = tt
refused_with (Err e) P Q why so = (why, so)

module _ {D : Type 0} (d : Ghosts D) (config : Config) (bounds : Bounds) (old read : D) where
  -- the engine was opened
  pub store_opened : (s : OpenStore D d) (e : Engine D d) (first long bare : Bool) → s.engine ≡ e → Reads d old read → ((AreRight config → ⊥) → read ≡ old) → IsOpening d config read (Ok e)
      → s.upkeep ≡ record (fresh d bounds e) { is_upgraded = first; is_long = long; is_bare = bare } → s.unkept ≡ None → (d.tells → (first ≡ true) ↔ HasFirst (d.seen read))
      → (AreRight config → d.tells → (long ≡ true) ↔ HasLong (d.seen old)) → IsOpenedStore d config bounds old (Ok s)
  store_opened s e first long bare same reads still opening stood kept has had =
      let is = subst (λ (x : Engine D d). IsOpening d config read (Ok x)) (sym same) opening in
      let stands = subst (λ (x : Engine D d). s.upkeep ≡ record (fresh d bounds x) { is_upgraded = first; is_long = long; is_bare = bare }) (sym same) stood in
      let left : s.upkeep.is_upgraded ≡ first = ap (λ (u : Upkeep). u.is_upgraded) stood in
      let lengthy : s.upkeep.is_long ≡ long = ap (λ (u : Upkeep). u.is_long) stood in
      let stripped : s.upkeep.is_bare ≡ bare = ap (λ (u : Upkeep). u.is_bare) stood in
      let rights = right config.frames config.workers is.frames.1 is.workers.1 in
      record {
        opening = inl (record { read = read; reads = reads; still = still; opening = is });
        upkeep = stands ∙ ap (λ (b : Bool). record (fresh d bounds s.engine) { is_upgraded = b; is_long = long; is_bare = bare }) (sym left)
            ∙ ap (λ (b : Bool). record (fresh d bounds s.engine) { is_upgraded = s.upkeep.is_upgraded; is_long = b; is_bare = bare }) (sym lengthy)
            ∙ ap (λ (b : Bool). record (fresh d bounds s.engine) { is_upgraded = s.upkeep.is_upgraded; is_long = s.upkeep.is_long; is_bare = b }) (sym stripped);
        first = λ told.
            (let both = subst (λ (f : Files). (first ≡ true) ↔ HasFirst f) reads.seen (has told) in (λ so. both.0 (sym left ∙ so), λ it. left ∙ both.1 it));
        long = λ told. (let both = had rights told in (λ so. both.0 (sym lengthy ∙ so), λ it. lengthy ∙ both.1 it));
        unkept = kept;
        opened = (read, reads, is);
        frames = is.frames;
        workers = is.workers;
        untouched = tt;
        device = is.device;
        causes = tt;
      }

  -- it was refused
  pub store_refused : (x : Fault × D) → Reads d old read → ((AreRight config → ⊥) → read ≡ old) → IsOpening d config read (Err x) → IsOpenedStore d config bounds old (Err x)
  store_refused x reads still is = record {
    opening = inl (record { read = read; reads = reads; still = still; opening = is });
    upkeep = tt;
    first = tt;
    long = tt;
    unkept = tt;
    opened = tt;
    frames = is.frames;
    workers = is.workers;
    untouched = λ why. is.untouched why ∙ still (λ rights. wrong rights why);
    device = is.device;
    causes = is.causes;
  }
    where
      wrong : AreRight config → (x.0 ≡ PoolSize) ⊎ (x.0 ≡ Workers) → ⊥
      wrong rights (inl pool) = not_frames config.frames config.workers rights (is.frames.0 pool)
      wrong rights (inr workers) = not_workers config.frames config.workers rights (is.workers.0 workers)

module _ {D : Type 0} (d : Ghosts D) (config : Config) (bounds : Bounds) (old : D) where
  -- the look at the logs was refused
  device_refused : (x : D) → AreRight config → Reads d old x → d.failed x ≡ true → IsOpenedStore d config bounds old (Err (Device, x))
  device_refused x rights reads fails = record {
    opening = inr (record { disk = x; right = rights; reads = reads; fails = fails; is = refl });
    upkeep = tt;
    first = tt;
    long = tt;
    unkept = tt;
    opened = tt;
    frames = (λ never. absurd (cc never), λ few. absurd (not_frames config.frames config.workers rights few));
    workers = (λ never. absurd (cc never), λ few. absurd (not_workers config.frames config.workers rights few));
    untouched = λ why. absurd (neither why);
    device = (λ _. fails, λ _. refl);
    causes = inr (inr (inr (inl refl)));
  }
    where
      neither : (Device ≡ PoolSize) ⊎ (Device ≡ Workers) → ⊥
      neither (inl never) = cc never
      neither (inr never) = cc never

  pub look_refused : (fault : Fault) (x : D) → fault ≡ Device → AreRight config → Reads d old x → d.failed x ≡ true → IsOpenedStore d config bounds old (Err (fault, x))
  look_refused fault x is rights reads fails = subst (λ (f : Fault). IsOpenedStore d config bounds old (Err (f, x))) (sym is) (device_refused x rights reads fails)
