-- Pages of a structure change after calls that change none.
use Rattle.std.proofs.Common.{◌≡◌, ◌⊎◌, inl, inr, Bool, None, Some, true, ap, List, ℕ, refl, subst, sym}
use Rattle.std.specs.Prelude.{Result, Ok, Err, IfErr}
use Rattle.im_base_types.specs.declared.fault.Fault.{Fault}
use Rattle.im_base_types.specs.declared.fault.Fault.TheVariants.{Capacity, Memory, NotAStore}
use Rattle.im_base_disk.specs.declared.disk.Disk.{Ghosts}
use Rattle.im_page_writer.specs.declared.page_writer.PageWriter.{PageWriter}
use Rattle.im_page_writer.specs.Outcome.{mild, AllPages, AreLoaded, Outcome}
use Rattle.im_page_writer.proofs.Outcomes.{pages_still}
use Rattle.im_smo_pages.specs.Images.{Numbered}
use Rattle.im_smo_pages.specs.Kept.{mild_to_take, HasImages}

-- the tree is there still
pub images_still : {D : Type 0} (d : Ghosts D) {m : Fault → Bool} {pages : AllPages} {images : List Numbered} {spare : List ℕ} {v : PageWriter} {old : D} {w : PageWriter} {mid : D} → HasImages d pages images spare v old
    → Outcome d AreLoaded m v old w mid None → HasImages d pages images spare w mid
images_still {D} d {m} {pages} {images} {spare} {v} {old} {w} {mid} tree one = record { has = pages_still d tree.has one; good = tree.good }

-- what is mild is so for an allocation too
pub take_mildly : (e : Fault) → mild e ≡ true → mild_to_take e ≡ true
take_mildly Memory is = refl
take_mildly NotAStore is = refl
take_mildly e is = absurd (cc is)

-- an allocation that is refused for bytes that are no store's after calls that succeeded
pub no_store : {D : Type 0} (d : Ghosts D) {m : Fault → Bool} {v : PageWriter} {old : D} {w : PageWriter} {mid : D} (e : Fault) → e ≡ NotAStore → Outcome d AreLoaded m v old w mid None → Outcome d AreLoaded mild_to_take v old w mid (Some e)
no_store d {m} {v} {old} {w} {mid} e is one = subst (λ (x : Fault). Outcome d AreLoaded mild_to_take v old w mid (Some x)) (sym is) (record { ready = one.ready; frames = one.frames; ends = (refl, one.ends) })

pub mildly_taken : {A : Type 0} (r : Result A Fault) → IfErr r (λ e. (e ≡ Memory) ⊎ (e ≡ NotAStore) ⊎ (e ≡ Capacity)) → IfErr r (λ e. mild_to_take e ≡ true)
mildly_taken (Ok a) causes = tt
mildly_taken (Err e) causes = elim causes [ inl is ↦ ap mild_to_take is | inr more ↦ elim more [ inl is ↦ ap mild_to_take is | inr is ↦ ap mild_to_take is ] ]

pub mildly : {A : Type 0} (r : Result A Fault) → IfErr r (λ e. (e ≡ Memory) ⊎ (e ≡ NotAStore)) → IfErr r (λ e. mild e ≡ true)
mildly (Ok a) causes = tt
mildly (Err e) causes = elim causes [ inl is ↦ ap mild is | inr is ↦ ap mild is ]

pub mildly_copied : {A : Type 0} (r : Result A Fault) → IfErr r (λ e. e ≡ Memory) → IfErr r (λ e. mild e ≡ true)
mildly_copied (Ok a) is = tt
mildly_copied (Err e) is = ap mild is
