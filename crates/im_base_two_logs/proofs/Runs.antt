-- How runs are put together over a disk whose logs may change names.
use Rattle.std.proofs.Common.{◌≡◌, ◌⊎◌, inl, inr, ⊎_elim, ℕ, Bool, true, false, not, subst, refl, arith}
use Rattle.im_base_types.specs.declared.file_id.FileId.{FileId}
use Rattle.im_base_types.specs.declared.file_id.FileId.TheVariants.{Log, Pages, Log2}
use Rattle.im_base_disk.specs.declared.disk.Disk.{Ghosts}
use Rattle.im_base_disk.specs.Disk.{Files}
use Rattle.im_base_disk.specs.Runs.{LeavesOnly}
use Rattle.im_base_two_logs.specs.Renamed.{named, same_files}
use Rattle.im_base_two_logs.specs.Runs.{IsNameless, LeavesNamed}

-- back to the names from before
pub back : (P : Files → Type 0) (c : Files) → P (named true (named true c)) → P c
back P c is = subst P (same_files true c) is

-- the other names are the names changed
pub other_names : (swapped : Bool) (c : Files) → named (not swapped) c ≡ named swapped (named true c)
other_names true c = λ i file. by file i
  where
    by : (file : FileId) → named false c file ≡ named true (named true c) file
    by Log = refl
    by Pages = refl
    by Log2 = refl
other_names false c = λ i file. by file i
  where
    by : (file : FileId) → named true c file ≡ named false (named true c) file
    by Log = refl
    by Pages = refl
    by Log2 = refl

module _ {D : Type 0} (d : Ghosts D) (P : Files → Type 0) (nameless : IsNameless P) where
  -- a run in which no name changes
  pub unnamed : (old new : D) → LeavesOnly d old new P → LeavesNamed d old new P
  unnamed old new run = record {
    later = run.later;
    each = run.each;
    before = λ told t c le left. ⊎_elim (λ past. inl (inl past)) (λ now. inr now) (run.before told t c le left);
  }

  named_back : (c : Files) → P (named true c) → P c
  named_back c is = back P c (nameless (named true c) is)

  -- one run after another
  pub then_named : (old mid new : D) → LeavesNamed d old mid P → LeavesNamed d mid new P → LeavesNamed d old new P
  then_named old mid new first second = record {
    later = omega (arith, first.later, second.later);
    each = λ told c left. ⊎_elim
        (λ past. ⊎_elim (λ one. first.each told c one) (λ other. named_back c (first.each told (named true c) other)) past)
        (λ now. now)
        (second.before told (d.moment old) c first.later left);
    before = λ told t c le left. ⊎_elim
        (λ past. ⊎_elim (λ one. first.before told t c le one) (λ other. earlier t c (first.before told t (named true c) le other)) past)
        (λ now. inr now)
        (second.before told t c (omega (arith, le, first.later)) left);
  }
    where
      earlier : (t : ℕ) (c : Files) → (d.left_since old t (named true c) ⊎ d.left_since old t (named true (named true c))) ⊎ P (named true c)
          → (d.left_since old t c ⊎ d.left_since old t (named true c)) ⊎ P c
      earlier t c (inl (inl one)) = inl (inr one)
      earlier t c (inl (inr two)) = inl (inl (back (d.left_since old t) c two))
      earlier t c (inr is) = inr (named_back c is)

  -- the logs change names: at that moment nothing else is left than before
  pub swapped_leaves : (old new : D) → d.moment new ≡ d.moment old → ((t : ℕ) (c : Files) → d.left_since new t c → d.left_since old t (named true c))
      → ((c : Files) → d.left_since old (d.moment old) c → d.may_leave old c) → (d.tells → (c : Files) → d.may_leave old c → P c) → LeavesNamed d old new P
  swapped_leaves old new same since only leaves = record {
    later = omega (arith, same);
    each = λ told c left. named_back c (leaves told (named true c) (only (named true c) (since (d.moment old) c left)));
    before = λ told t c le left. inl (inr (since t c left));
  }
