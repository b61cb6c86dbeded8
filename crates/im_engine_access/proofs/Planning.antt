-- The plan of an insert, and what is refused after the grant of its locks.
use Rattle.std.proofs.Common.{◌≡◌, ◌≢◌, ◌⊎◌, inl, inr, ℕ, Bool, true, false, [], is_some, Option, None, Some, Result, Ok, Err, refl, sym, ◌∙◌, ap, subst}
use Rattle.std.specs.Prelude.{IfOk, IfErr}
use Rattle.std.specs.FinMap.{get}
use Rattle.im_base_types.specs.declared.fault.Fault.{Fault}
use Rattle.im_base_types.specs.declared.fault.Fault.TheVariants.{Capacity, Failed, Memory, NotAStore, PagesFull}
use Rattle.im_base_types.specs.Keys.{Key}
use Rattle.im_base_types.specs.Maps.{IndexMap}
use Rattle.im_base_disk.specs.declared.disk.Disk.{Ghosts}
use Rattle.im_page_writer.specs.declared.page_writer.PageWriter.{PageWriter}
use Rattle.im_page_writer.specs.Outcome.{fault_of, want_of_memory, AllPages, AreLoaded, Outcome as Ends, Logs}
use Rattle.im_engine_access.specs.LockCalls.{AsksLocks}
use Rattle.im_theory_tree.specs.Levels.{Pages}
use Rattle.im_tree_search.specs.Levels.{bodies_of}
use Rattle.im_smo_split.specs.Kept.{mild_to_split}
use Rattle.im_smo_split.proofs.Reasons.{never_capacity}
use Rattle.im_smo_split.specs.Plan.{IsOver, WantsPages}
use Rattle.im_smo_actions.proofs.Changes.{runs_out}
use Rattle.im_tree_search.specs.declared.change_beside.Beside.{Beside}
use Rattle.im_engine_access.specs.declared.change_plan.Coming.{Coming}
use Rattle.im_engine_access.specs.declared.change_plan.Coming.TheVariants.{UsedUp}
use Rattle.im_engine_access.specs.ChangePlans.{ComingPlanned, IsComing, KeyLacksNumbers}
use Rattle.im_smo_actions.specs.Structure.{IsUsedUp}
use Rattle.im_engine_access.proofs.Inserts.{is_memory}

-- ---- what a leaf has of its key

none_of : (rid : Option ℕ) → is_some rid ≡ false → rid ≡ None
none_of None is = refl
none_of (Some i) is = absurd (cc is)

pub some_of : (rid : Option ℕ) → is_some rid ≡ true → (i : ℕ) × (rid ≡ Some i)
some_of None is = absurd (cc is)
some_of (Some i) is = (i, refl)

pub not_there : (rid : Option ℕ) (there : Bool) → there ≡ is_some rid → there ≡ false → rid ≡ None
not_there rid there is not = none_of rid (sym is ∙ not)

-- ---- a plan

pub unplanned : {D : Type 0} (d : Ghosts D) {m : Fault → Bool} {v : PageWriter} {old : D} {w : PageWriter} {new : D} (f : Fault) (r : Result Coming Fault) → IfOk r (λ coming. (coming ≡ UsedUp) × (f ≡ Capacity)) → IfErr r (λ y. (y ≡ f) × (y ≢ Capacity))
    → Ends d AreLoaded m v old w new (Some f) → Ends d AreLoaded m v old w new (fault_of r)
unplanned d {m} {v} {old} {w} {new} f (Ok coming) used others one =
    let moved : Ends d AreLoaded m v old w new (Some Capacity) = subst (λ (x : Fault). Ends d AreLoaded m v old w new (Some x)) used.1 one in
    record { ready = moved.ready; frames = moved.frames; ends = moved.ends.1 }
unplanned d {m} {v} {old} {w} {new} f (Err y) used others one = subst (λ (x : Fault). Ends d AreLoaded m v old w new (Some x)) (sym others.0) one

over_of : (pages : Pages) (key : Key) (dense : Bool) (max : ℕ) → (m : ℕ) × (Some max ≡ Some m) × IsOver dense pages key m → IsOver dense pages key max
over_of pages key dense max is = subst (λ (n : ℕ). IsOver dense pages key n) (let same : is.0 ≡ max = cc is.1 in same) is.2

pub unplanned_kept : (pages : AllPages) (beside : Beside) (key : Key) (dense : Bool) (max : ℕ) (m : IndexMap) (f : Fault) (r : Result Coming Fault) → IfOk r (λ coming. (coming ≡ UsedUp) × (f ≡ Capacity)) → IfErr r (λ y. (y ≡ f) × (y ≢ Capacity))
    → get m key ≡ None → beside.pages.now ≡ [] → f ≢ NotAStore → WantsPages dense (bodies_of pages) key (Some max) f → ComingPlanned pages beside key dense max m r
unplanned_kept pages beside key dense max m f (Ok coming) used others absent alone sound wants =
    let left : IsUsedUp dense (bodies_of pages) key = runs_out (bodies_of pages) key (Some max) f wants used.1 in
    let lacking : KeyLacksNumbers pages beside key dense m = record { absent = absent; alone = alone; lacks = wants.lacks (inl used.1); used_up = left } in
    record { sound = subst (IsComing pages beside key dense max m) (sym used.0) lacking; limited = λ lacks. inr left; full = tt }
unplanned_kept pages beside key dense max m f (Err y) used others absent alone sound wants = record {
  sound = λ same. sound (sym others.0 ∙ same);
  limited = tt;
  full = λ same. let full : f ≡ PagesFull = sym others.0 ∙ same in (wants.lacks (inr full), over_of (bodies_of pages) key dense max (wants.full full));
}

pub never_so : {A : Type 0} (r : Result A Fault) (f : Fault) → IfErr r (λ y. (y ≡ f) × (y ≢ Capacity)) → IfErr r (λ y. y ≢ Capacity)
never_so {A} (Ok a) f is = tt
never_so {A} (Err y) f is = is.1

-- a search has no refusal for want of page numbers
pub none_used_up : {D : Type 0} (d : Ghosts D) {A : Type 0} {v : PageWriter} {old : D} {w : PageWriter} {disk : D} (r : Result A Fault) → AsksLocks d v old w disk (fault_of r) → IfErr r (λ y. y ≢ Capacity)
none_used_up {D} d {A} {v} {old} {w} {disk} (Ok a) one = tt
none_used_up {D} d {A} {v} {old} {w} {disk} (Err y) one = never_capacity d refl one

-- ---- refusals after the grant

pub late_is : (f g e : Fault) → (f ≡ Memory → g ≡ Failed) → (f ≢ Memory → g ≡ f) → Failed ≢ e → g ≡ e → f ≡ e
late_is f g e memory other not is = by (want_of_memory f) refl
  where
    by : (short : Bool) → want_of_memory f ≡ short → f ≡ e
    by true short = absurd (not (sym (memory (is_memory f short)) ∙ is))
    by false short = sym (other (λ same. let clash : true ≡ false = ap want_of_memory (sym same) ∙ short in cc clash)) ∙ is

pub late_why : (f g : Fault) → (f ≡ Memory → g ≡ Failed) → (f ≢ Memory → g ≡ f) → g ≡ Failed → (f ≡ Memory) ⊎ (f ≡ Failed)
late_why f g memory other is = by (want_of_memory f) refl
  where
    by : (short : Bool) → want_of_memory f ≡ short → (f ≡ Memory) ⊎ (f ≡ Failed)
    by true short = inl (is_memory f short)
    by false short = inr (sym (other (λ same. let clash : true ≡ false = ap want_of_memory (sym same) ∙ short in cc clash)) ∙ is)

-- a call that has no refusal for want of pages
pub never_full : {D : Type 0} (d : Ghosts D) {v : PageWriter} {old : D} {w : PageWriter} {new : D} {f : Fault} → Logs d true (mild_to_split None) v old w new (Some f) → f ≢ PagesFull
never_full d {v} {old} {w} {new} {f} one is =
    let moved : Logs d true (mild_to_split None) v old w new (Some PagesFull) = subst (λ (x : Fault). Logs d true (mild_to_split None) v old w new (Some x)) is one in
    let clash : false ≡ true = moved.ends.0 in
    cc clash

-- after the grant there is neither refusal after which nobody holds another lock
pub late_table : (f g : Fault) (P : Type 0) → (f ≡ Memory → g ≡ Failed) → (f ≢ Memory → g ≡ f) → f ≢ PagesFull → (g ≡ Memory) ⊎ (g ≡ PagesFull) → P
late_table f g P memory other never (inl is) =
    let short : f ≡ Memory = late_is f g Memory memory other (λ clash. let no_such : ⊥ = cc clash in no_such) is in
    absurd (let clash : Failed ≡ Memory = sym (memory short) ∙ is in cc clash)
late_table f g P memory other never (inr is) = absurd (never (late_is f g PagesFull memory other (λ clash. let no_such : ⊥ = cc clash in no_such) is))

pub fewer_splits : (max : ℕ) (e : Fault) → mild_to_split None e ≡ true → mild_to_split (Some max) e ≡ true
fewer_splits max Memory is = refl
fewer_splits max NotAStore is = refl
fewer_splits max Capacity is = refl
fewer_splits max PagesFull is = absurd (cc is)
fewer_splits max e is = absurd (cc is)
