-- What a gate knows of the log file that it stands in.
use Rattle.std.specs.Prelude.{◌≡◌, ◌≢◌, ℕ, ◌+◌, ◌≤◌, Bool, true, false, List, [], ◌∷◌, ◌++◌, length, take, drop, slice_index, Result, Err, not, is_ok}
use Rattle.im_base_types.specs.declared.fault.Fault.{Fault}
use Rattle.im_base_types.specs.declared.fault.Fault.TheVariants.{Failed, LogFull}
use Rattle.im_base_types.specs.declared.file_id.FileId.{FileId}
use Rattle.im_base_types.specs.declared.file_id.FileId.TheVariants.{Pages}
use Rattle.im_base_disk.specs.declared.disk.Disk.{Ghosts}
use Rattle.im_base_disk.specs.Disk.{Only}
use Rattle.im_base_disk.specs.Runs.{ChangesOnly}
use Rattle.im_base_disk.specs.Ends.{Refusals}
use Rattle.im_log_one_sync.specs.Batches.{batches_from}
use Rattle.im_log_third_header.specs.declared.header.ThirdHeader.{ThirdHeader}
use Rattle.im_log_sum_gate.specs.declared.gate.SumGate.{SumGate}
use Rattle.im_log_sum_gate.specs.Batches.{batches, fits, size_of, Ends, IsClearTo, Reaches}
use Rattle.im_log_sum_gate.specs.Sealed.{sealed_all, MayAll}

-- The file that the gate stands in.
abbrev pub file_of : SumGate → FileId
file_of gate = gate.file

-- The header of its log.
abbrev pub header_of : SumGate → ThirdHeader
header_of gate = gate.header

-- The place of the gate.
abbrev pub place_of : SumGate → ℕ
place_of gate = gate.place

-- The LSN of the gate.
abbrev pub lsn_of : SumGate → ℕ
lsn_of gate = gate.header.start.base + gate.place

-- A call failed: every later one is refused.
abbrev pub has_failed : SumGate → Bool
has_failed gate = gate.failed

-- A put that was torn left its byte 1, though no batch counts behind it: the next put closes it first.
abbrev pub is_torn : SumGate → Bool
is_torn gate = gate.opened

-- Two gates of one file.
pub record InOneFile (some other : SumGate) : Type 0 where
  pub file : file_of other ≡ file_of some
  pub header : header_of other ≡ header_of some

-- The header of the log of the next generation, whose first byte has the LSN `end`, with transactions from this number on, and sums as before.
pub record GoesOn (h : ThirdHeader) (end next : ℕ) (after : ThirdHeader) : Type 0 where
  pub generation : after.start.generation ≡ h.start.generation + 1
  pub base : after.start.base ≡ end
  pub number : after.start.next ≡ next
  pub salt : after.salt ≡ h.salt
  pub syncs : after.two_syncs ≡ h.two_syncs

-- These bytes begin with batches, sealed for this gate, that take so many bytes, and a closed gate after the last.
pub record IsSealed (gate : SumGate) (used : ℕ) (bs : List (List ℕ)) (bytes : List ℕ) : Type 0 where
  pub some : 1 ≤ length bs
  pub may : MayAll (header_of gate).salt (lsn_of gate) bs
  pub size : used ≡ size_of bs
  pub is : take (used + 1) bytes ≡ sealed_all (header_of gate).salt (lsn_of gate) bs

module _ {D : Type 0} (d : Ghosts D) where
  -- The batches of the gate's file, as it reads.
  abbrev pub logged : SumGate → D → List (List ℕ)
  logged gate disk = batches (header_of gate) (d.seen disk (file_of gate))

  -- Those from the gate on.
  abbrev pub unread : SumGate → D → List (List ℕ)
  unread gate disk = batches_from (fits (header_of gate).salt) 0 (lsn_of gate) (drop (place_of gate) (d.seen disk (file_of gate)))

  -- Those in front of it, as a closed gate there shows them.
  abbrev pub passed : SumGate → D → List (List ℕ)
  passed gate disk = batches (header_of gate) (take (place_of gate) (d.seen disk (file_of gate)) ++ 0 ∷ [])

  -- The gate stands after whole batches, and all of its file is on the disk.
  pub record IsReading (gate : SumGate) (disk : D) : Type 0 where
    pub log : file_of gate ≢ Pages
    pub working : has_failed gate ≡ false → d.failed disk ≡ false
    pub reaches : has_failed gate ≡ false → d.tells → Reaches (header_of gate) (place_of gate) (passed gate disk) (d.seen disk (file_of gate))
    pub durable : has_failed gate ≡ false → Only (file_of gate) (d.seen disk) (d.may_leave disk)

  -- The log ends there. What the gate says of its byte is so, and from it up to a place that it keeps the file shows nothing.
  pub record IsReady (gate : SumGate) (disk : D) : Type 0 where
    pub log : file_of gate ≢ Pages
    pub working : has_failed gate ≡ false → d.failed disk ≡ false
    pub ends : has_failed gate ≡ false → d.tells → Ends (header_of gate) (place_of gate) (logged gate disk) (d.seen disk (file_of gate))
    pub shut : has_failed gate ≡ false → gate.opened ≡ false → d.tells → slice_index (d.seen disk (file_of gate)) (place_of gate) ≢ 1
    pub opened : has_failed gate ≡ false → gate.opened ≡ true → d.tells → slice_index (d.seen disk (file_of gate)) (place_of gate) ≡ 1
    pub clear : has_failed gate ≡ false → d.tells → IsClearTo (header_of gate) gate.clear (place_of gate) (d.seen disk (file_of gate))
    pub durable : has_failed gate ≡ false → Only (file_of gate) (d.seen disk) (d.may_leave disk)

  -- The outcome of a put: the gate is ready for the next one. Where it had failed, nothing is done.
  pub record PutOutcome (v : SumGate) (old : D) (w : SumGate) (new : D) (result : Result Unit Fault) : Type 0 where
    pub same : InOneFile v w
    pub changes : ChangesOnly d (file_of v) old new
    pub untouched : result ≡ Err Failed → new ≡ old
    pub failed : has_failed w ≡ not (is_ok result)
    pub refusals : Refusals (λ e. e ≡ LogFull) (has_failed v) (d.failed new) result
