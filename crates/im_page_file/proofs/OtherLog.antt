-- The log file that is not in use stays as it is.
use Rattle.std.proofs.Common.{◌≡◌, ◌⊎◌, inl, inr, ℕ, List, sym, ◌∙◌, ap, subst, arith}
use Rattle.im_base_types.specs.declared.file_id.FileId.{FileId}
use Rattle.im_base_types.specs.declared.file_id.FileId.TheVariants.{Log, Log2}
use Rattle.im_base_disk.specs.declared.disk.Disk.{Ghosts}
use Rattle.im_base_disk.specs.Disk.{Files, Only}
use Rattle.im_base_disk.specs.Runs.{Spares}
use Rattle.im_log_gate.specs.Header.{generation_of}
use Rattle.im_log_gate.specs.Header as gates
use Rattle.im_log_gate.proofs.Starts.{made_some}
use Rattle.im_log_header.proofs.Saying.{unmade}
use Rattle.im_log_header.specs.Header.{IsUnmade, IsMade}
use Rattle.im_theory_log.specs.Histories.{Base}
use Rattle.im_page_file.specs.OtherLog.{IsNewest, IsOlder, LeftSays}

pub older_as : {b : Base} (old new : Files) → generation_of (new Log) ≡ generation_of (old Log) → new Log2 ≡ old Log2 → IsOlder b old → IsOlder b new
older_as {b} old new log other is =
    let same = ap generation_of other in
    record {
      earlier = omega (arith, log, same, is.earlier);
      known = subst (λ (bytes : List ℕ). IsUnmade bytes ⊎ IsMade bytes) (sym other) is.known;
      left = subst (LeftSays b) (sym other) is.left;
    }

-- the same files
pub newest_as : {b : Base} (old new : Files) → new Log ≡ old Log → new Log2 ≡ old Log2 → IsNewest b old → IsNewest b new
newest_as {b} old new log other (inl older) = inl (older_as old new (ap generation_of log) other older)
newest_as {b} old new log other (inr none) = inr (subst IsUnmade (sym log) none.0, subst IsUnmade (sym other) none.1)

-- after the making of a log, or with nothing done
pub newest_made : {b : Base} (old new : Files) → (IsUnmade (old Log) → new Log2 ≡ old Log2) → gates.IsMade (new Log) → (¬ (IsUnmade (old Log)) → IsNewest b new) → IsNewest b old → IsOlder b new
newest_made {b} old new other made still (inl older) = by (still not_unmade)
  where
    not_unmade : IsUnmade (old Log) → ⊥
    not_unmade none = let says = unmade (old Log) none in let less = older.earlier in omega (arith, says.generation, less)

    by : IsNewest b new → IsOlder b new
    by (inl is) = is
    by (inr none) = absurd (let says = unmade (new Log) none.0 in let some = made_some (new Log) made in omega (arith, says.generation, some))
newest_made {b} old new other made still (inr none) =
    let some = made_some (new Log) made in
    let same = other none.0 in
    let now : IsUnmade (new Log2) = subst IsUnmade (sym same) none.1 in
    let says = unmade (new Log2) now in
    record { earlier = omega (arith, some, says.generation); known = inl now; left = inl now }

-- neither is made
pub newest_unmade : {b : Base} (files : Files) → IsUnmade (files Log) → IsNewest b files → IsUnmade (files Log2)
newest_unmade {b} files none (inl older) = absurd (let says = unmade (files Log) none in let less = older.earlier in omega (arith, says.generation, less))
newest_unmade {b} files none (inr both) = both.1

-- a made log
pub newest_older : {b : Base} (files : Files) → gates.IsMade (files Log) → IsNewest b files → IsOlder b files
newest_older {b} files made (inl older) = older
newest_older {b} files made (inr none) = absurd (let says = unmade (files Log) none.0 in let some = made_some (files Log) made in omega (arith, says.generation, some))

pub only_spared : {D : Type 0} (d : Ghosts D) (file : FileId) (old new : D) → Spares d file old new → Only file (d.seen old) (d.may_leave old) → Only file (d.seen new) (d.may_leave new)
only_spared d file old new spares only c left = let e = spares.outcomes c left in e.2 ∙ only e.0 e.1 ∙ sym spares.seen
