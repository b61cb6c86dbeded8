-- A page in its frame is the writer's.
use Rattle.std.proofs.Common.{◌≡◌, ◌≢◌, ◌⊎◌, inl, inr, ◌<◌, true, false, Option, None, Some, sym, ◌∙◌, ap, subst, arith, ℕ, List, Bor, refl}
use Rattle.std.specs.Prelude.{is_some, is_ok, option_map, Result, Ok, Err, IsErrAnd, IfErr, IfOk, OnOk}
use Rattle.std.specs.Option.{option_map_or}
use Rattle.im_base_types.specs.declared.fault.Fault.{Fault}
use Rattle.im_base_types.specs.declared.fault.Fault.TheVariants.{Device, Failed, LogFull, Memory, NotAStore}
use Rattle.im_base_types.specs.Pages.{Page}
use Rattle.im_theory_log.specs.Writer.{PageState}
use Rattle.im_log_record.specs.declared.record.Record.{Record}
use Rattle.im_log_record.specs.declared.record.Record.TheVariants as records
use Rattle.im_log_record.specs.Entry.{view}
use Rattle.im_theory_page.specs.Page.{page_of}
use Rattle.im_log.specs.Whats.{image_of, page_behind, smo_of, undo_smo_of, what_of}
use Rattle.im_page_pool.specs.Pool.{Held}
use Rattle.im_page.specs.LeafChange.{LeafTakes}
use Rattle.im_page_flush.specs.Writing.{IsShown}

pub at_held : (o : Option Held) (place : ℕ) → option_map (λ h. h.place) o ≡ Some place → is_some o ≡ true
at_held None place is = absurd (cc is)
at_held (Some h) place is = refl

pub at_shows : (o : Option Held) (place : ℕ) (x : PageState) (other : Page) → option_map (λ h. h.place) o ≡ Some place → IsShown o x → option_map_or (λ h. h.page) o other ≡ x.page
at_shows None place x other is shown = absurd (cc is)
at_shows (Some h) place x other is shown = shown.0

-- a call that was refused
pub none_ok : {A E : Type 0} (r : Result A E) (P : A → Type 0) → is_ok r ≡ false → IfOk r P
none_ok (Ok a) P is = absurd (cc is)
none_ok (Err e) P is = tt

pub none_done : {A E : Type 0} (r : Result A E) (P : Type 0) → is_ok r ≡ false → OnOk r P
none_done (Ok a) P is = absurd (cc is)
none_done (Err e) P is = tt

-- what two clauses say of a call that succeeded
pub ok_with : {A E : Type 0} (r : Result A E) (P Q R : Type 0) → OnOk r P → OnOk r Q → (P → Q → R) → OnOk r R
ok_with (Ok a) P Q R one two to = to one two
ok_with (Err e) P Q R one two to = tt

-- what a refusal leaves, said in another way
pub again_on : {A E : Type 0} (r : Result A E) (W : E → Type 0) (P Q : Type 0) → IfErr r (λ e. W e → P) → (P → Q) → IfErr r (λ e. W e → Q)
again_on (Ok a) W P Q is to = tt
again_on (Err e) W P Q is to = λ why. to (is why)

pub again_here : {A E : Type 0} (r : Result A E) (W : E → Type 0) (P : Type 0) → P → IfErr r (λ e. W e → P)
again_here (Ok a) W P is = tt
again_here (Err e) W P is = λ why. is

-- a page that is held, and has room for its entry, is found
pub found_room : {A : Type 0} (r : Result A Fault) (table most : ℕ) (o : Option Held) → IfErr r (λ e. (e ≡ NotAStore) × ((table ≡ most) ⊎ (o ≡ None))) → table < most → is_some o ≡ true → IfErr r (λ e. e ≢ NotAStore)
found_room (Ok a) table most o is room held = tt
found_room (Err e) table most o is room held = λ same. elim (is.1) [
  | inl full ↦ omega (arith, full, room)
  | inr none ↦ let clash : false ≡ true = ap (λ (x : Option Held). is_some x) (sym none) ∙ held in cc clash
]

-- a refusal that is handed on is the same
pub err_on : {A : Type 0} (r : Result A Fault) (f : Fault) (P : Fault → Type 0) → IsErrAnd r (λ e. e ≡ f) → P f → IfErr r P
err_on (Ok a) f P is has = absurd is
err_on (Err e) f P is has = subst (λ (x : Fault). P x) (sym is) has

pub failed_not : (f : Fault) → f ≡ Failed → (f ≡ Memory) ⊎ (f ≡ NotAStore) → ⊥
failed_not f is (inl why) = let clash : Failed ≡ Memory = sym is ∙ why in cc clash
failed_not f is (inr why) = let clash : Failed ≡ NotAStore = sym is ∙ why in cc clash

pub full_not : (f : Fault) → f ≡ LogFull → (f ≡ Memory) ⊎ (f ≡ NotAStore) → ⊥
full_not f is (inl why) = let clash : LogFull ≡ Memory = sym is ∙ why in cc clash
full_not f is (inr why) = let clash : LogFull ≡ NotAStore = sym is ∙ why in cc clash

pub device_not : (f : Fault) → f ≡ Device → (f ≡ Memory) ⊎ (f ≡ NotAStore) → ⊥
device_not f is (inl why) = let clash : Device ≡ Memory = sym is ∙ why in cc clash
device_not f is (inr why) = let clash : Device ≡ NotAStore = sym is ∙ why in cc clash

-- a failure is neither for want of memory nor for bytes that are no store's
pub cause_of : (f : Fault) → (f ≡ Failed) ⊎ (f ≡ LogFull) ⊎ (f ≡ Device) → (f ≡ Memory) ⊎ (f ≡ NotAStore) → ⊥
cause_of f (inl failed) why = failed_not f failed why
cause_of f (inr (inl full)) why = full_not f full why
cause_of f (inr (inr device)) why = device_not f device why

pub failed_none : {A : Type 0} (r : Result A Fault) (P : Type 0) → IfErr r (λ e. (e ≡ LogFull) ⊎ (e ≡ Device)) → IfErr r (λ e. (e ≡ Memory) ⊎ (e ≡ NotAStore) → P)
failed_none (Ok a) P is = tt
failed_none (Err e) P is = λ why. absurd (cause_of e (inr is) why)

pub failed_cause : {A : Type 0} (r : Result A Fault) → IfErr r (λ e. (e ≡ LogFull) ⊎ (e ≡ Device)) → IfErr r (λ e. e ≢ NotAStore)
failed_cause (Ok a) is = tt
failed_cause (Err e) is = λ same. cause_of e (inr is) (inr same)

-- ---- a record of no key

no_smo : (before after : Option Page) (g : Page) → LeafTakes (smo_of before after) g → ⊥
no_smo (Some before) (Some after) g takes = takes
no_smo (Some before) None g takes = takes
no_smo None after g takes = takes

no_undo_smo : (after : Option Page) (g : Page) → LeafTakes (undo_smo_of after) g → ⊥
no_undo_smo (Some after) g takes = takes
no_undo_smo None g takes = takes

no_image : (copy : Option Page) (g : Page) → LeafTakes (image_of copy) g → ⊥
no_image (Some copy) g takes = takes
no_image None g takes = takes

-- no leaf takes one
pub no_key : (r : Record) (g : Page) → ((t p n : ℕ) (k : Bor (List ℕ)) (v : ℕ) → r ≡ records.InsertKey t p n k v → ⊥) → ((t p n : ℕ) (k : Bor (List ℕ)) (v : ℕ) → r ≡ records.DeleteKey t p n k v → ⊥)
    → ((t p u n : ℕ) (k : Bor (List ℕ)) (v : ℕ) → r ≡ records.UndoInsert t p u n k v → ⊥) → ((t p u n : ℕ) (k : Bor (List ℕ)) (v : ℕ) → r ≡ records.UndoDelete t p u n k v → ⊥) → LeafTakes (what_of (view r)) g → ⊥
no_key (records.InsertKey t p n k v) g one two three four takes = one t p n k v refl
no_key (records.DeleteKey t p n k v) g one two three four takes = two t p n k v refl
no_key (records.UndoInsert t p u n k v) g one two three four takes = three t p u n k v refl
no_key (records.UndoDelete t p u n k v) g one two three four takes = four t p u n k v refl
no_key (records.Smo t p n before after) g one two three four takes = no_smo (page_behind before.now) (page_behind after.now) g takes
no_key (records.UndoSmo t p u n after) g one two three four takes = no_undo_smo (page_behind after.now) g takes
no_key (records.DummyClr t p u) g one two three four takes = takes
no_key (records.Commit t p) g one two three four takes = takes
no_key (records.End t p) g one two three four takes = takes
no_key (records.Image n bytes) g one two three four takes = no_image (page_of bytes.now) g takes
no_key (records.Checkpoint n active dirty) g one two three four takes = takes
