-- An engine that a store hands out.
use Rattle.std.proofs.Common.{◌∙◌, ap, subst, sym}
use Rattle.std.specs.Prelude.{◌≡◌, [], false, Option, Some, IfSome, Result, Ok, Err, IfOk, OnOk}
use Rattle.im_base_disk.specs.declared.disk.Disk.{Ghosts}
use Rattle.im_engine.specs.declared.config.Config.{Config}
use Rattle.im_engine.specs.declared.engine.Engine.{Engine}
use Rattle.im_store.specs.Rule.{IsByRule, IsDue, WasRefused}
use Rattle.im_store.specs.Stores.{WasKept}
use Rattle.im_store.specs.declared.open_store.OpenStore.{OpenStore}
use Rattle.im_store.specs.declared.unkept.Unkept.{Unkept}
use Rattle.im_store.specs.declared.bounds.Bounds.{Bounds}
use Rattle.im_store.specs.declared.upkeep.Upkeep.{Upkeep}
use Rattle.im_files_disk.specs.declared.open_error.OpenError.{OpenError}
use Rattle.im_open.specs.Refusals.{IsKeptRefusal, IsOpenRefusal}
use Rattle.im_open.specs.declared.not_opened.NotOpened.{NotOpened}
use Rattle.im_open.specs.declared.not_opened.NotOpened.TheVariants.{Files, Store, Upkeep as UpkeepRefused}

-- what holds of what was made
pub on_ok : {A E P : Type 0} (r : Result A E) → P → OnOk r P
on_ok (Ok _) is = is
on_ok (Err _) is = tt

-- and what follows from it
pub if_ok : {A E : Type 0} {P Q : A → Type 0} (r : Result A E) → IfOk r P → ((a : A) → P a → Q a) → IfOk r Q
if_ok (Ok a) is then = then a is
if_ok (Err _) is then = tt

module _ {D : Type 0} (d : Ghosts D) where
  -- an opening that is refused is so before what is due is made
  pub kept_refusal : (from : D → Type 0) (refuses : OpenError → Type 0) (config : Config) (bounds : Bounds) (error : NotOpened) → IsOpenRefusal d from refuses config bounds error → IsKeptRefusal d from refuses config bounds error
  kept_refusal from refuses config bounds (Files error) is = is
  kept_refusal from refuses config bounds (Store fault) is = is
  kept_refusal from refuses config bounds (UpkeepRefused fault) is = absurd is

  pub failed_same : (e f : Engine D d) → f ≡ e → e.failed ≡ false → f.failed ≡ false
  failed_same e f same works = ap (λ (x : Engine D d). x.failed) same ∙ works

  pub rule_same : (u : Upkeep) (old e f : Engine D d) → f ≡ e → IsByRule d u old e → IsByRule d u old f
  rule_same u old e f same by = subst (λ (x : Engine D d). IsByRule d u old x) (sym same) by

  pub rows_same : (e f : Engine D d) → f ≡ e → e.txns.rows ≡ [] → f.txns.rows ≡ []
  rows_same e f same none = ap (λ (x : Engine D d). x.txns.rows) same ∙ none

  -- what was due and refused, where a store says so
  pub refused_so : (u : Upkeep) (old : Engine D d) (new : OpenStore D d) (x : Unkept) → new.unkept ≡ Some x → WasKept d u old new → IsDue d u old x.due × WasRefused d old new.engine x.fault
  refused_so u old new x is kept = subst (λ (o : Option Unkept). IfSome o (λ (y : Unkept). IsDue d u old y.due × WasRefused d old new.engine y.fault)) is kept.refused
