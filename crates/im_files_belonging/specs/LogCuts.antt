-- What may go of the logs of a closed store.
use Rattle.std.specs.Prelude.{◌≡◌, ◌↔◌, ◌+◌, ◌-◌, ◌==◌, ◌&&◌, not, if◌then◌else◌, nat_le, nat_lt, ℕ, Bool, ◌++◌, length, take, drop, replicate, slice_index, Result}
use Rattle.im_files_belonging.specs.declared.folder.Folder.{Folder}
use Rattle.im_files_belonging.specs.declared.folder.Front.{Front}
use Rattle.im_files_belonging.specs.declared.belonging.Logs.{Logs}
use Rattle.im_files_belonging.specs.declared.belonging.Apart.{Apart}
use Rattle.im_files_belonging.specs.declared.log_cuts.LogCuts.{LogCuts}
use Rattle.im_log_gate.specs.Batches.{batch_length}
use Rattle.im_log_header.specs.Header.{first_gate, generation_of}
use Rattle.im_files_belonging.specs.Fronts.{front_says_made, front_says_second, gate_byte, shown}
use Rattle.im_files_belonging.specs.Belonging.{current, left, other_is_current, IsVerdict}

-- how long the records of the batch after the gate at a place are
abbrev pub size_at : ℕ → Front → ℕ
size_at gate front = batch_length (drop (gate + 1) front.bytes)

-- where they end
abbrev pub end_at : ℕ → Front → ℕ
end_at gate front = gate + 5 + size_at gate front

-- The batch is there: the gate is open, the length after it is that of a record's head at least and of a batch at most, and the file has all of it.
abbrev pub has_batch_at : ℕ → Front → Bool
has_batch_at gate front = (slice_index front.bytes gate == 1) && nat_le 33 (size_at gate front) && nat_le (size_at gate front) 16384 && nat_le (end_at gate front) front.long

-- the end of that batch, 0 where it is not there
abbrev pub kept_at : ℕ → Front → ℕ
kept_at gate front = if has_batch_at gate front then end_at gate front else 0

-- the end of the first batch of a log that was made, 0 where it does not begin with one
abbrev pub first_end : Front → ℕ
first_end front = if front_says_made front then kept_at (first_gate (shown front)) front else 0

-- A log of an earlier generation than the current one was left for it.
abbrev pub was_left : Folder → Bool
was_left f = front_says_made (left f) && nat_lt (generation_of (shown (left f))) (generation_of (shown (current f)))

-- how much stays of the log that was left; 0 where there is none, or nothing of it may go
abbrev pub kept_of : Folder → ℕ
kept_of f = if was_left f then first_end (left f) else 0

-- The log, of the second format, has no record: its first gate is closed.
abbrev pub is_empty : Front → Bool
is_empty front = front_says_second front && not (gate_byte (shown front) == 1)

-- how much stays of the current log, its header and that gate; 0 where it has a record, or none was left for it
abbrev pub length_kept : Folder → ℕ
length_kept f = if was_left f && is_empty (current f) then first_gate (shown (current f)) + 1 else 0

-- how much of a log comes after so much that stays
abbrev pub gone_of : ℕ → Front → ℕ
gone_of kept front = if kept == 0 then 0 else front.long - kept

abbrev pub log_cuts_of : Folder → LogCuts
log_cuts_of f = record { kept = kept_of f; gone = gone_of (kept_of f) (left f); end = length_kept f; after = gone_of (length_kept f) (current f); is_log2 = not (other_is_current f) }

-- ---- the folder after the cuts

-- the beginning of a log of which so much stays: zeros stand where it has no more
abbrev pub cut_front : ℕ → Front → Front
cut_front kept front = record front { long = kept; bytes = take kept front.bytes ++ replicate (length front.bytes - kept) 0 }

-- the same where so much goes, and it as it is where nothing does
abbrev pub shortened : ℕ → ℕ → Front → Front
shortened kept gone front = if gone == 0 then front else cut_front kept front

-- the folder with its logs cut so
abbrev pub cut_folder : LogCuts → Folder → Folder
cut_folder cut f = if cut.is_log2
    then record f { log = shortened cut.end cut.after f.log; log2 = shortened cut.kept cut.gone f.log2 }
    else record f { log = shortened cut.kept cut.gone f.log; log2 = shortened cut.end cut.after f.log2 }

-- As many bytes as are read of a log were read of both, zeros where it has no more.
pub record AreRead (f : Folder) : Type 0 where
  pub log : length f.log.bytes ≡ 65
  pub log2 : length f.log2.bytes ≡ 65

-- The verdict over the folder after the cuts is that over the folder before, whatever its files hold.
abbrev pub CutsAreSound : Type 0
CutsAreSound = (f : Folder) → AreRead f → (verdict : Result Logs Apart) → IsVerdict (cut_folder (log_cuts_of f) f) verdict ↔ IsVerdict f verdict
