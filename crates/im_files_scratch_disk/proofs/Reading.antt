-- Runs that only read the disk below.
use Rattle.std.proofs.Common.{refl, subst, Option, None, Some}
use Rattle.im_base_disk.specs.declared.disk.Disk.{Ghosts}
use Rattle.im_base_disk.proofs.Runs.{reads_none, reads_then}
use Rattle.im_files_scratch_disk.specs.OnlyRead.{IsOnlyRead}

module _ {D : Type 0} (d : Ghosts D) where
  -- before the first call
  pub only_none : (old : Option D) → IsOnlyRead d old old
  only_none None = refl
  only_none (Some x) = (x, refl, reads_none d x)

  -- one run after another
  pub only_then : (old mid new : Option D) → IsOnlyRead d old mid → IsOnlyRead d mid new → IsOnlyRead d old new
  only_then None mid new first second = subst (λ (m : Option D). IsOnlyRead d m new) first second
  only_then (Some x) mid new first second =
      let on = subst (λ (m : Option D). IsOnlyRead d m new) first.1 second in
      (on.0, on.1, reads_then d x first.0 on.0 first.2 on.2)
