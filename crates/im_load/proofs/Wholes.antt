-- A load of entries that are all at hand.
use Rattle.std.proofs.Common.{◌≡◌, ◌⊎◌, inl, inr, ℕ, ◌+◌, ◌<◌, ◌≤◌, List, [], ◌∷◌, ◌++◌, length, take, refl, sym, ◌∙◌, ap, subst, arith, length-take, get_or-take, Option, Some, None}
use Rattle.std.proofs.lemmas.List.{take_more}
use Rattle.im_base_types.specs.Keys.{Key, IsBelow}
use Rattle.im_base_types.specs.Pages.{Entry}
use Rattle.im_base_types.specs.declared.fault.Fault.{Fault}
use Rattle.im_base_types.specs.declared.fault.Fault.TheVariants.{Memory, Capacity, KeyLength}
use Rattle.im_base_disk.specs.declared.disk.Disk.{Ghosts}
use Rattle.im_base_disk.specs.Disk.{Files}
use Rattle.im_base_disk.specs.Runs.{IsSynced, LeavesOnly, Reads}
use Rattle.im_base_disk.proofs.Runs.{weakened}
use Rattle.im_theory_page.specs.Entry.{entry_at, no_entry, Rises}
use Rattle.im_theory_tree.proofs.Ascent.{all_at}
use Rattle.im_load.specs.Edge.{IsAboveAll}
use Rattle.im_load.specs.declared.loader.Loader.{Loader}
use Rattle.im_load.specs.Files.{AreEmpty, AreHalf, AreLeft}
use Rattle.im_load.specs.HasTaken.{IsLoading, LoaderRefuses}
use Rattle.im_load.proofs.Finishes.{pages_left}
use Rattle.im_load.proofs.Goings.{goes_reads}

pub none_of : {X : Type 0} (o : Option X) → ((x : X) → o ≡ Some x → ⊥) → o ≡ None
none_of {X} None never = refl
none_of {X} (Some x) never = absurd (never x refl)

pub take_none : (es : List Entry) → take 0 es ≡ []
take_none [] = refl
take_none (e ∷ es) = refl

-- entry i of rising entries is above those before it
pub top_in : (es : List Entry) (i : ℕ) (e : Entry) → Rises es → i < length es → e ≡ entry_at es i → IsAboveAll e.0 (take i es)
top_in es i e rises within is =
    all_at (λ (x : Entry). IsBelow x.0 e.0) (take i es)
    (λ j lt.
    let low : j < i = omega (arith, lt, length-take i es) in
    subst (λ (x : Entry). IsBelow (entry_at (take i es) j).0 x.0) (sym is)
    (subst (λ (x : Entry). IsBelow x.0 (entry_at es i).0) (sym (get_or-take i es j no_entry low)) (rises j i low within)))

-- one entry more
pub taken_more : {D : Type 0} (d : Ghosts D) (from : D) (l : Loader) (disk : D) (es : List Entry) (i : ℕ) (e : Entry) → i < length es → e ≡ entry_at es i → IsLoading d from l disk (take i es ++ e ∷ [])
    → IsLoading d from l disk (take (i + 1) es)
taken_more {D} d from l disk es i e within is goes =
    subst (IsLoading d from l disk) (ap (λ (x : Entry). take i es ++ x ∷ []) is ∙ sym (take_more es i no_entry within)) goes

module _ {D : Type 0} (d : Ghosts D) (old new : D) (es : List Entry) where
  -- nothing was written
  pub nothing_left : ((c : Files) → d.left_since old (d.moment old) c → d.may_leave old c) → Reads d old new → IsSynced d old → (d.tells → AreEmpty (d.seen old)) → LeavesOnly d old new (AreLeft es)
  nothing_left only_now reads synced empty = pages_left d old new (goes_reads d old new only_now reads) (λ told. (empty told).0) synced es

  -- a load that was not ended
  pub half_left : LeavesOnly d old new AreHalf → LeavesOnly d old new (AreLeft es)
  half_left run = weakened d old new AreHalf (AreLeft es) run (λ told c half. inl half)

-- a key that is one is not refused as none, and a load that has taken what it says is not unsound
pub whole_refused : {D : Type 0} (d : Ghosts D) (from : D) (s l : Loader) (disk : D) (es : List Entry) (key : Key) (f : Fault) → IsLoading d from s disk es → 1 ≤ length key → length key ≤ 255
    → (f ≡ KeyLength → (length key < 1) ⊎ (255 < length key)) → (f ≡ KeyLength) ⊎ LoaderRefuses l ((from : D) (es : List Entry) → IsLoading d from s disk es → ⊥) f → (f ≡ Memory) ⊎ (f ≡ Capacity)
whole_refused {D} d from s l disk es key f goes some short so (inl none) = absurd (bad (so none))
  where
    bad : (length key < 1) ⊎ (255 < length key) → ⊥
    bad (inl low) = absurd (omega (arith, low, some))
    bad (inr high) = absurd (omega (arith, high, short))
whole_refused {D} d from s l disk es key f goes some short so (inr (inl memory)) = inl memory
whole_refused {D} d from s l disk es key f goes some short so (inr (inr (inl full))) = inr full.0
whole_refused {D} d from s l disk es key f goes some short so (inr (inr (inr unsound))) = absurd (unsound.1 from es goes)
