-- What each call keeps of a log.
use Rattle.std.specs.Prelude.{◌≡◌, ◌⊎◌, ℕ, ◌<◌, ◌≤◌, List, [], ◌∷◌, ◌++◌, length, Some, Result, IfOk, IfErr, OnOk, ◌≢◌}
use Rattle.im_base_types.specs.declared.fault.Fault.{Fault}
use Rattle.im_base_types.specs.declared.fault.Fault.TheVariants.{NotAStore}
use Rattle.im_base_types.specs.declared.file_id.FileId.TheVariants.{Log, Pages}
use Rattle.im_base_types.specs.Records.{Logged}
use Rattle.im_theory_log.specs.Histories.{Base, IsFront, end_of}
use Rattle.im_base_disk.specs.declared.disk.Disk.{Ghosts}
use Rattle.im_base_disk.specs.Disk.{Files}
use Rattle.im_base_disk.specs.Runs.{LeavesIn}
use Rattle.im_log_gate.specs.Batches.{batches}
use Rattle.im_log_gate.specs.Header.{base_of, first_gate, generation_of, IsMade, IsUnmade}
use Rattle.im_log_record.specs.Entry.{Entry}
use Rattle.im_log.specs.declared.log_file.LogFile.{LogFile}
use Rattle.im_log.specs.Spelled.{logged_at, log_of}
use Rattle.im_log.specs.LogFile.{IsLog}

-- The bytes are those of a made log that starts at this LSN, and spell this list.
pub record HasLog (base : ℕ) (all : List Logged) (bytes : List ℕ) : Type 0 where
  pub made : IsMade bytes
  pub starts : base_of bytes ≡ base
  pub spells : log_of base bytes ≡ Some all

-- The bytes stand for this list: that of a made log, or none where no log was made yet. An unmade one starts where it will once it is made.
abbrev pub IsLogOf : ℕ → List Logged → List ℕ → Type 0
IsLogOf base all bytes = (IsUnmade bytes × (all ≡ []) × (base_of bytes ≡ base)) ⊎ HasLog base all bytes

-- The files' bytes are a store's: those of a made log that spell this list, or no log and no pages.
pub record IsStore (files : Files) : Type 0 where
  pub all : List Logged
  pub spelled : IsLogOf (base_of (files Log)) all (files Log)
  pub bare : IsUnmade (files Log) → length (files Pages) ≡ 0

-- The bytes have the one list or the other, in a log of the generation of those from before.
abbrev pub SpellsEither : ℕ → List Logged → List Logged → List ℕ → List ℕ → Type 0
SpellsEither base durable all was bytes = (HasLog base durable bytes ⊎ HasLog base all bytes) × (generation_of bytes ≡ generation_of was)

-- They have a list between the two.
pub record SpellsBetween (base : ℕ) (durable all : List Logged) (bytes : List ℕ) : Type 0 where
  pub left : List Logged
  pub has : HasLog base left bytes
  pub longer : IsFront durable left
  pub shorter : IsFront left all

-- The one file's batches are the other's and more at the end, in a log of the same generation.
pub record HasMoreBatches (old new : List ℕ) : Type 0 where
  pub more : List (List ℕ)
  pub grown : (before : List (List ℕ)) → batches (first_gate old) old ≡ Some before → batches (first_gate new) new ≡ Some (before ++ more)
  pub generation : generation_of new ≡ generation_of old

module _ {D : Type 0} (d : Ghosts D) (base : ℕ) (all durable : List Logged) where
  -- The record joined the list, with an LSN above all before. What is durable may have grown.
  pub record Appended (entry : Entry) (lsn : ℕ) (old_disk : D) (new : LogFile) (disk : D) : Type 0 where
    pub rises : (b : Base) → b.start ≤ base → end_of b all < lsn
    pub now_durable : List Logged
    pub grows : IsFront durable now_durable
    pub log : IsLog d base (logged_at lsn entry ∷ all) now_durable new disk
    pub file : HasMoreBatches (d.seen old_disk Log) (d.seen disk Log)

  pub record AppendKept (entry : Entry) (old_disk : D) (new : LogFile) (new_disk : D) (result : Result ℕ Fault) : Type 0 where
    pub ok : IfOk result (λ lsn. Appended entry lsn old_disk new new_disk)
    pub stops : LeavesIn d Log old_disk new_disk (SpellsEither base durable all (d.seen old_disk Log))

  -- All is durable.
  pub record Forced (old_disk : D) (new : LogFile) (disk : D) : Type 0 where
    pub log : IsLog d base all all new disk
    pub file : HasMoreBatches (d.seen old_disk Log) (d.seen disk Log)

  pub record ForceKept (old_disk : D) (new : LogFile) (new_disk : D) (result : Result Unit Fault) : Type 0 where
    pub ok : OnOk result (Forced old_disk new new_disk)
    pub stops : LeavesIn d Log old_disk new_disk (SpellsEither base durable all (d.seen old_disk Log))

-- What reading a log keeps of a file that has this list.
pub record ReadKept {D : Type 0} (d : Ghosts D) (base : ℕ) (all : List Logged) (disk : D) (result : Result LogFile Fault) : Type 0 where
  pub ok : IfOk result (λ log. IsLog d base all all log disk)
  pub cause : IfErr result (λ e. e ≢ NotAStore)

-- What an opening keeps of a file that stands for this list.
pub record OpenKept {D : Type 0} (d : Ghosts D) (base : ℕ) (all : List Logged) (old_disk new_disk : D) (result : Result LogFile Fault) : Type 0 where
  pub ok : IfOk result (λ log. IsLog d base all all log new_disk)
  pub stops : LeavesIn d Log old_disk new_disk (IsLogOf base all)
  pub cause : IfErr result (λ e. e ≢ NotAStore)
