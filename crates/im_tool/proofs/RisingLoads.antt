-- A load of rising keys, entry by entry and at its end.
use Rattle.std.proofs.Common.{◌≡◌, ◌⊎◌, inl, inr, ℕ, ◌+◌, List, [], ◌∷◌, ◌++◌, length, refl, sym, subst, arith}
use Rattle.std.proofs.lemmas.List.{length_push}
use Rattle.im_base_types.specs.Pages.{Entry}
use Rattle.im_base_disk.specs.declared.disk.Disk.{Ghosts}
use Rattle.im_base_disk.specs.Runs.{LeavesOnly, Reads, IsSynced}
use Rattle.im_base_disk.specs.Disk.{Files}
use Rattle.im_base_disk.proofs.Runs.{weakened}
use Rattle.im_load.specs.declared.loader.Loader.{Loader}
use Rattle.im_load.specs.Files.{AreEmpty, AreHalf, AreLeft, AreOfLoad}
use Rattle.im_load.specs.HasTaken.{IsLoading}
use Rattle.im_load.proofs.Finishes.{halves}
use Rattle.im_load.proofs.Wholes.{nothing_left}
use Rattle.im_tool.specs.declared.rising.Taking.{Taking}
use Rattle.im_tool.specs.declared.rising.Taking.TheVariants.{More, Over}
use Rattle.im_tool.specs.RisingKeys.{AreLoadOf, AreLoadOrNone, HasRisen}

-- what is not over goes on
pub more_of : (t : Taking) → ((next : _) → t ≡ Over next → ⊥) → t ≡ More
more_of More never = refl
more_of (Over next) never = absurd (never next refl)

module _ {D : Type 0} (d : Ghosts D) where
  pub none_risen : (from : D) (l : Loader) (disk : D) → IsLoading d from l disk [] → HasRisen d from l disk 0
  none_risen from l disk goes = record { entries = []; many = refl; loading = goes }

  -- one entry more
  pub one_risen : (from : D) (l : Loader) (disk : D) (n : ℕ) (es : List Entry) (e : Entry) → length es ≡ n → IsLoading d from l disk (es ++ e ∷ []) → HasRisen d from l disk (n + 1)
  one_risen from l disk n es e many goes = record {
    entries = es ++ e ∷ [];
    many = omega (arith, length_push es e, many);
    loading = goes;
  }

  -- a stop before a load is ended
  pub half_now : (from : D) (l : Loader) (disk : D) (es : List Entry) → IsLoading d from l disk es → LeavesOnly d from disk AreHalf
  half_now from l disk es goes = halves d from disk goes.run goes.bare goes.synced

  pub half_risen : (from : D) (l : Loader) (disk : D) (n : ℕ) → HasRisen d from l disk n → LeavesOnly d from disk AreHalf
  half_risen from l disk n has = half_now from l disk has.entries has.loading

  pub half_or_none : (from new : D) → LeavesOnly d from new AreHalf → LeavesOnly d from new AreLoadOrNone
  half_or_none from new run = weakened d from new AreHalf AreLoadOrNone run (λ told c half. inl half)

  -- where nothing was taken
  pub kept_risen : (from : D) (old new : Loader) (disk after : D) (n : ℕ) → (new ≡ old) × (after ≡ disk) → HasRisen d from old disk n → HasRisen d from new after n
  kept_risen from old new disk after n same has =
      subst (λ x. HasRisen d from new x n) (sym same.1) (subst (λ l. HasRisen d from l disk n) (sym same.0) has)

  loaded_some : (es : List Entry) (c : Files) → AreLeft es c → AreLoadOrNone c
  loaded_some es c (inl half) = inl half
  loaded_some es c (inr loaded) = inr (length es, record { entries = es; many = refl; loaded = loaded })

  -- and within its end
  pub left_or_none : (from new : D) (es : List Entry) → LeavesOnly d from new (AreLeft es) → LeavesOnly d from new AreLoadOrNone
  left_or_none from new es run = weakened d from new (AreLeft es) AreLoadOrNone run (λ told c left. loaded_some es c left)

  -- nothing was written
  pub none_begun : (old new : D) → ((c : Files) → d.left_since old (d.moment old) c → d.may_leave old c) → Reads d old new → IsSynced d old → (d.tells → AreEmpty (d.seen old)) → LeavesOnly d old new AreLoadOrNone
  none_begun old new only_now reads synced empty = left_or_none old new [] (nothing_left d old new [] only_now reads synced empty)

  pub load_of : (files : Files) (n : ℕ) (es : List Entry) → length es ≡ n → AreOfLoad es files → AreLoadOf n files
  load_of files n es many loaded = record { entries = es; many = many; loaded = loaded }
