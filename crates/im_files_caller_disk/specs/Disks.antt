-- The disk of a caller: over which descriptors it asks, and what a call of it asks.
use Rattle.std.specs.Prelude.{◌≡◌, ◌∷◌, [], ℕ, ℤ, List, Bool, false}
use Rattle.im_base_types.specs.declared.file_id.FileId.{FileId}
use Rattle.im_files_caller_disk.specs.Questions.{file_number}
use Rattle.im_files_caller_disk.specs.declared.caller_disk.CallerDisk.{CallerDisk}

-- the disk that is asked over one descriptor and answers over another, for the files of a store or of a copy, before the first question
abbrev pub disk_over : (ask answer : ℤ) → (is_copy : Bool) → CallerDisk
disk_over ask answer is_copy = record { ask = ask; answer = answer; is_copy = is_copy; has_failed = false; line = record { asked = [] } }

-- One question was asked: its kind, a file, a place, a length, and the bytes after it. Nothing else of the disk changed, but whether its last call failed.
abbrev pub IsAsked : (kind : ℕ) → FileId → (place len : ℕ) → List ℕ → (old new : CallerDisk) → Type 0
IsAsked kind file place len bytes old new =
    new ≡ record old { line = record { asked = (kind ∷ file_number old.is_copy file ∷ place ∷ len ∷ [], bytes) ∷ old.line.asked }; has_failed = new.has_failed }
