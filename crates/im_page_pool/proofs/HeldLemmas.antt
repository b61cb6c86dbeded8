-- Held pages by number and by frame: what a change of one frame or of one entry does to them.
use Rattle.std.proofs.Common.{◌≡◌, ◌≢◌, ℕ, suc, Bool, true, false, cond, ◌==◌, List, [], ◌∷◌, length, slice_set, Option, Some, None, IsSome, option_map, refl, ap, ◌∙◌, arith, get_or-set_other}
use Rattle.std.proofs.lemmas.Bool.Decides.{nat_tests}
use Rattle.std.specs.Map.{keys_of, values_of, lookup, remove_entry}
use Rattle.im_page_pool.specs.Places.{times}
use Rattle.im_page_pool.specs.Frames.{Stored, no_page}
use Rattle.im_page_pool.specs.Inside.{held_at, held_in}
use Rattle.im_page_pool.specs.Pool.{Held}

-- ---- the list that contracts see
pub keys_held : (fs : List Stored) (es : List (ℕ × ℕ)) → keys_of (held_in fs es) ≡ keys_of es
keys_held fs [] = refl
keys_held fs (e ∷ es) = ap (λ l. e.0 ∷ l) (keys_held fs es)

pub lookup_held : (test : ℕ → Bool) (fs : List Stored) (es : List (ℕ × ℕ)) → lookup test (held_in fs es) ≡ option_map (held_at fs) (lookup test es)
lookup_held test fs [] = refl
lookup_held test fs (e ∷ es) = (elim (test e.0) as (λ y. test e.0 ≡ y → cond y (Some (held_at fs e.1)) (lookup test (held_in fs es)) ≡ option_map (held_at fs) (cond y (Some e.1) (lookup test es))) [
  | true ↦ λ t. refl
  | false ↦ λ t. lookup_held test fs es
]) refl

pub remove_held : (test : ℕ → Bool) (fs : List Stored) (es : List (ℕ × ℕ)) → remove_entry test (held_in fs es) ≡ held_in fs (remove_entry test es)
remove_held test fs [] = refl
remove_held test fs (e ∷ es) = (elim (test e.0) as (λ y. test e.0 ≡ y → cond y (held_in fs es) ((e.0, held_at fs e.1) ∷ remove_entry test (held_in fs es)) ≡ held_in fs (cond y es (e ∷ remove_entry test es))) [
  | true ↦ λ t. refl
  | false ↦ λ t. ap (λ l. (e.0, held_at fs e.1) ∷ l) (remove_held test fs es)
]) refl

abbrev made : ℕ → Stored → Held
made g x = record { place = g; page = x.page; changed = x.changed }

pub held_at_other : (f g : ℕ) (w : Stored) (fs : List Stored) → g ≢ f → held_at (slice_set fs f w) g ≡ held_at fs g
held_at_other f g w fs ne = ap (λ (x : Stored). made g x) (get_or-set_other fs f g w no_page ne)

-- a frame that no page has may change
pub held_same : (f : ℕ) (w : Stored) (fs : List Stored) (es : List (ℕ × ℕ)) → times f (values_of es) ≡ 0 → held_in (slice_set fs f w) es ≡ held_in fs es
held_same f w fs [] none = refl
held_same f w fs (e ∷ es) none =
    let ne : e.1 ≢ f = λ (b : e.1 ≡ f). absurd (let k : (f == e.1) ≡ true = grind (arith, nat_tests) in let n' = rw k at none in omega arith) in
    ap (λ h. (e.0, h) ∷ held_in (slice_set fs f w) es) (held_at_other f e.1 w fs ne) ∙ ap (λ l. (e.0, held_at fs e.1) ∷ l) (held_same f w fs es (omega arith))

pub length_held : (fs : List Stored) (es : List (ℕ × ℕ)) → length (held_in fs es) ≡ length es
length_held fs [] = refl
length_held fs (e ∷ es) = ap (λ n. suc n) (length_held fs es)

-- ---- cases of an option
pub some_at : {X Y : Type 0} (g : X → Y) (o : Option X) → IsSome (option_map g o) → (x : X) × (o ≡ Some x)
some_at g None s = absurd cc
some_at g (Some x) s = (x, refl)

pub none_at : {X Y : Type 0} (g : X → Y) (o : Option X) → option_map g o ≡ None → o ≡ None
none_at g None s = refl
none_at g (Some x) s = absurd cc
