-- How a call of the log ends by another of its calls.
use Rattle.std.proofs.Common.{◌≡◌, ◌⊎◌, inl, inr, ℕ, ◌+◌, ◌≤◌, ◌<◌, Bool, true, Some, refl, arith}
use Rattle.std.specs.Prelude.{Result}
use Rattle.im_base_types.specs.declared.fault.Fault.{Fault}
use Rattle.im_base_types.specs.declared.fault.Fault.TheVariants.{Device, Failed}
use Rattle.im_base_types.specs.declared.file_id.FileId.TheVariants.{Log}
use Rattle.im_base_types.specs.Outcomes.{CallEnds}
use Rattle.im_base_disk.specs.declared.disk.Disk.{Ghosts}
use Rattle.im_base_disk.specs.Ends.{Refusals}
use Rattle.im_base_disk.specs.Runs.{Reads}
use Rattle.im_base_disk.proofs.Runs.{spares_reads}
use Rattle.im_log_gate.specs.Gate.{place_of}
use Rattle.im_log.specs.declared.log_file.LogFile.{LogFile}
use Rattle.im_log.specs.LogFile.{first_waiting_lsn, next_lsn, IsOpen, LiesOutside}
use Rattle.im_log.specs.Outcome.{LogRead}
use Rattle.im_log.proofs.Above.{open_spared}
use Rattle.im_log.proofs.Runs.{log_read}

module _ (own : Fault → Type 0) (before now lost : Bool) where
  -- why it was refused
  pub end_cause : (e : Fault) → CallEnds own before now lost (Some e) → (e ≡ Failed) ⊎ (e ≡ Device) ⊎ own e
  end_cause Failed is = inl refl
  end_cause Device is = inr (inl refl)
  end_cause e is = inr (inr is.3)

  -- it works no more
  pub end_broken : (e : Fault) → CallEnds own before now lost (Some e) → now ≡ true
  end_broken Failed is = is.1
  end_broken Device is = is.1
  end_broken e is = is.1

-- the disk was read
pub was_read : {D A : Type 0} (d : Ghosts D) (own : Fault → Type 0) (log : LogFile) (old new : D) (result : Result A Fault) → IsOpen d log old → Reads d old new → Refusals own log.failed (d.failed new) result → LogRead d own log old new result
was_read {D} {A} d own log old new result is_open reads refusals = record {
  ready = λ works. open_spared d log old new (spares_reads d Log old new reads) works is_open;
  kept = λ base all durable h. log_read d base all durable log old new reads.seen h;
  reads = reads;
  refusals = refusals;
}

-- in the file, and in the buffer, a record may be
pub lies_in_file : (log : LogFile) (lsn : ℕ) → log.base ≤ lsn → lsn < log.base + place_of log.gate → LiesOutside log lsn → ⊥
lies_in_file log lsn low below (inl is) = omega (arith, low, is)
lies_in_file log lsn low below (inr (inl is)) = omega (arith, below, is.0)
lies_in_file log lsn low below (inr (inr is)) = omega (arith, below, is)

pub lies_in_buffer : (log : LogFile) (lsn : ℕ) → first_waiting_lsn log ≤ lsn → lsn < next_lsn log → LiesOutside log lsn → ⊥
lies_in_buffer log lsn low below (inl is) = omega (arith, low, is)
lies_in_buffer log lsn low below (inr (inl is)) = omega (arith, low, is.1)
lies_in_buffer log lsn low below (inr (inr is)) = omega (arith, below, is)
