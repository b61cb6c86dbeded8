-- How a call of a load is refused, by the call within it that was.
use Rattle.std.proofs.Common.{◌≡◌, ◌⊎◌, inl, inr, ⊎_elim, Bool, false, true, refl, sym, ◌∙◌, ap, subst}
use Rattle.std.specs.Prelude.{Result, Ok, Err, IsErrAnd}
use Rattle.im_base_types.specs.declared.fault.Fault.{Fault}
use Rattle.im_base_types.specs.declared.fault.Fault.TheVariants.{Memory, Capacity, NotAStore, Device, KeyLength}
use Rattle.im_base_disk.specs.Disk.{Answers}
use Rattle.im_base_disk.specs.Ends.{AnswersOr}
use Rattle.im_base_disk.proofs.Ends.{device_answered}
use Rattle.im_load.specs.declared.loader.Loader.{Loader}
use Rattle.im_load.specs.HasTaken.{LoaderRefuses}

-- what was refused within, and is handed on
pub handed_on : {A : Type 0} (r : Result A Fault) (f g : Fault) → IsErrAnd r (λ e. e ≡ f) → r ≡ Err g → f ≡ g
handed_on (Ok a) f g is same = absurd is
handed_on (Err e) f g is same = let it : e ≡ g = cc same in sym is ∙ it

-- a refusal is no answer
pub not_taken : {A : Type 0} {a : A} (r : Result A Fault) (f : Fault) → IsErrAnd r (λ e. e ≡ f) → r ≡ Ok a → ⊥
not_taken {A} {a} (Ok b) f is same = absurd is
not_taken {A} {a} (Err e) f is same = cc same

module _ (own outer : Fault → Type 0) (lost : Bool) where
  pub passed_on : {A B : Type 0} (f : Fault) (r : Result A Fault) → IsErrAnd r (λ e. e ≡ f) → AnswersOr {A = B} own lost (Err f) → (own f → outer f) → AnswersOr outer lost r
  passed_on {A} {B} f (Ok a) is inner so = absurd is
  passed_on {A} {B} f (Err e) is inner so = record {
    causes = ⊎_elim (λ (o : own f). inl (subst outer (sym is) (so o))) (λ (d : f ≡ Device). inr (is ∙ d)) inner.causes;
    device = (
      (λ same. let it : e ≡ Device = cc same in inner.device.0 (ap Err (sym is ∙ it))),
      (λ gone. let it : f ≡ Device = cc (inner.device.1 gone) in ap Err (is ∙ it)),
    );
  }

  -- a call that is the last
  pub answers_as : {A : Type 0} (r : Result A Fault) → ((e : Fault) → own e → outer e) → AnswersOr own lost r → AnswersOr outer lost r
  answers_as {A} (Ok a) so inner = record { causes = tt; device = inner.device }
  answers_as {A} (Err e) so inner = record { causes = ⊎_elim (λ (o : own e). inl (so e o)) (λ (d : e ≡ Device). inr d) inner.causes; device = inner.device }

-- a refusal of a load's own is not the disk's
pub is_capacity : (f : Fault) → f ≡ Capacity → f ≡ Device → ⊥
is_capacity f is d = let clash : Capacity ≡ Device = sym is ∙ d in cc

pub is_memory : (f : Fault) → f ≡ Memory → f ≡ Device → ⊥
is_memory f is d = let clash : Memory ≡ Device = sym is ∙ d in cc

pub is_unsound : (f : Fault) → f ≡ NotAStore → f ≡ Device → ⊥
is_unsound f is d = let clash : NotAStore ≡ Device = sym is ∙ d in cc

pub is_key_length : (f : Fault) → f ≡ KeyLength → f ≡ Device → ⊥
is_key_length f is d = let clash : KeyLength ≡ Device = sym is ∙ d in cc

pub is_either : (f : Fault) → (f ≡ Memory) ⊎ (f ≡ NotAStore) → f ≡ Device → ⊥
is_either f either d = ⊎_elim (λ (m : f ≡ Memory). is_memory f m d) (λ (n : f ≡ NotAStore). is_unsound f n d) either

-- the disk works where a call was not refused
pub works_on : {A : Type 0} (own : Fault → Type 0) (lost : Bool) (a : A) → AnswersOr own lost (Ok a) → lost ≡ false
works_on {A} own false a inner = refl
works_on {A} own true a inner = absurd (let never : ⊥ = cc (inner.device.1 refl) in never)

-- less is known of why a caller is not answered `NotAStore`
pub eased : (l : Loader) (none outer : Type 0) (f : Fault) → (none → outer) → LoaderRefuses l none f → LoaderRefuses l outer f
eased l none outer f so (inl memory) = inl memory
eased l none outer f so (inr (inl full)) = inr (inl full)
eased l none outer f so (inr (inr unsound)) = inr (inr (unsound.0, so unsound.1))

-- the disk's own
pub refused_there : {A B : Type 0} (own : Fault → Type 0) (lost : Bool) (f : Fault) (r : Result A Fault) → IsErrAnd r (λ e. e ≡ f) → Answers {T = B} lost (Err f) → AnswersOr own lost r
refused_there {A} {B} own lost f r is inner = device_answered own false lost f r is inner.device inner.noted

-- none of a load's own is `KeyLength`
pub keyed_refusal : {B : Type 0} (l : Loader) (none : Type 0) (lost : Bool) (f : Fault) → AnswersOr {A = B} (LoaderRefuses l none) lost (Err f) → f ≡ KeyLength → ⊥
keyed_refusal {B} l none lost f inner k = ⊎_elim (other k) (λ (d : f ≡ Device). is_key_length f k d) inner.causes
  where
    other : f ≡ KeyLength → LoaderRefuses l none f → ⊥
    other k (inl memory) = let clash : KeyLength ≡ Memory = sym k ∙ memory in cc
    other k (inr (inl full)) = let clash : KeyLength ≡ Capacity = sym k ∙ full.0 in cc
    other k (inr (inr unsound)) = let clash : KeyLength ≡ NotAStore = sym k ∙ unsound.0 in cc

-- what a test that failed says
pub not_so : (b : Bool) (P : Type 0) → b ≡ false → (b ≡ true → P) × (P → b ≡ true) → P → ⊥
not_so b P failed says p = let clash : false ≡ true = sym failed ∙ says.1 p in cc
