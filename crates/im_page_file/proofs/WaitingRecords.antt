-- The records that wait in a log's buffer have LSNs above each that is below the log's durable end.
use Rattle.std.proofs.Common.{◌≡◌, ℕ, zero, suc, ◌+◌, ◌-◌, ◌<◌, List, [], ◌∷◌, ◌++◌, length, Option, None, Some, refl, sym, ◌∙◌, ap, arith, append_assoc}
use Rattle.im_base_types.specs.Records.{Logged}
use Rattle.im_theory_log.specs.Histories.{History}
use Rattle.im_base_disk.specs.declared.disk.Disk.{Ghosts}
use Rattle.im_log_record.specs.Entry.{Entry}
use Rattle.im_log_gate.specs.Gate.{place_of}
use Rattle.im_log.specs.declared.log_file.LogFile.{LogFile}
use Rattle.im_log.specs.LogFile.{IsLog}
use Rattle.im_log.specs.Spelled.{logged_at, record_size, first_record, records_from, batches_records}
use Rattle.im_log.proofs.Passes.{batch_taken}
use Rattle.im_log.proofs.Spells.{none, step}
use Rattle.im_page_table.specs.KnownCopies.{AreAbove}

-- the records of a log that an older one lacks have LSNs above this one
pub record Beyond (l : ℕ) (older log : History) : Type 0 where
  pub newer : History
  pub is : newer ++ older ≡ log
  pub above : AreAbove l newer

above_then : (l : ℕ) (newer older : History) → AreAbove l newer → AreAbove l older → AreAbove l (newer ++ older)
above_then l [] older first second = second
above_then l (r ∷ newer) older first second = (first.0, above_then l newer older first.1 second)

beyond_then : (l : ℕ) (a b c : History) → Beyond l a b → Beyond l b c → Beyond l a c
beyond_then l a b c first second = record {
  newer = second.newer ++ first.newer;
  is = append_assoc second.newer first.newer a ∙ ap (λ (x : History). second.newer ++ x) first.is ∙ second.is;
  above = above_then l second.newer first.newer second.above first.above;
}

beyond_one : (l : ℕ) (r : Logged) (older : History) → l < r.lsn → Beyond l older (r ∷ older)
beyond_one l r older low = record { newer = r ∷ []; is = refl; above = (low, tt) }

beyond_by : (o : Option Entry) (l lsn byte : ℕ) (bytes : List ℕ) (older log : History) → l < lsn → first_record (byte ∷ bytes) ≡ o → records_from 0 lsn (byte ∷ bytes) older ≡ Some log
    → ((now : History) → records_from (record_size (byte ∷ bytes) - 1) (suc lsn) bytes now ≡ Some log → Beyond l now log) → Beyond l older log
beyond_by None l lsn byte bytes older log low here is onward = let never : None ≡ Some log = sym (none lsn byte bytes older here) ∙ is in absurd (cc never)
beyond_by (Some entry) l lsn byte bytes older log low here is onward =
    beyond_then l older (logged_at lsn entry ∷ older) log (beyond_one l (logged_at lsn entry) older low) (onward (logged_at lsn entry ∷ older) (sym (step lsn byte bytes older entry here) ∙ is))

records_beyond : (l skip lsn : ℕ) (bytes : List ℕ) (older log : History) → l < lsn → records_from skip lsn bytes older ≡ Some log → Beyond l older log
records_beyond l zero lsn [] older log low is = let e : older ≡ log = cc is in record { newer = []; is = e; above = tt }
records_beyond l (suc skip) lsn [] older log low is = let never : None ≡ Some log = is in absurd (cc never)
records_beyond l (suc skip) lsn (byte ∷ bytes) older log low is = records_beyond l skip (suc lsn) bytes older log (omega (arith, low)) is
records_beyond l zero lsn (byte ∷ bytes) older log low is =
    beyond_by (first_record (byte ∷ bytes)) l lsn byte bytes older log low refl is (λ now here. records_beyond l (record_size (byte ∷ bytes) - 1) (suc lsn) bytes now log (omega (arith, low)) here)

batches_beyond : (l lsn : ℕ) (bs : List (List ℕ)) (older log : History) → l < lsn → batches_records lsn bs older ≡ Some log → Beyond l older log
batches_beyond l lsn [] older log low is = let e : older ≡ log = cc is in record { newer = []; is = e; above = tt }
batches_beyond l lsn (b ∷ bs) older log low is =
    let t = batch_taken lsn b bs older log is in
    beyond_then l older t.mid log (records_beyond l 0 (lsn + 5) b older t.mid (omega (arith, low)) t.in_batch) (batches_beyond l (lsn + (5 + length b)) bs t.mid log (omega (arith, low)) t.onward)

-- what waits is above what is below the durable end
pub waits_above : {D : Type 0} (d : Ghosts D) (base l : ℕ) (all durable : History) (log : LogFile) (disk : D) → l < log.base + place_of log.gate → IsLog d base all durable log disk → Beyond l durable all
waits_above d base l all durable log disk low is =
    beyond_then l durable is.mid all (batches_beyond l (log.base + place_of log.gate) is.sealed.batches durable is.mid low is.in_sealed)
    (records_beyond l 0 _ _ is.mid all (omega (arith, low)) is.in_buffer)
