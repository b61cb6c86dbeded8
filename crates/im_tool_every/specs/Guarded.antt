-- Files that the guards of a folder take.
use Rattle.std.specs.Prelude.{◌≡◌, ◌↔◌, ◌-◌, ◌*◌, ◌/◌, nat_lt, if◌then◌else◌, ℕ, Bool, false, true, List, ◌++◌, length, take, drop, replicate}
use Rattle.std.specs.Int.{w64, from_be_bytes}
use Rattle.im_base_types.specs.declared.file_id.FileId.{FileId}
use Rattle.im_base_types.specs.declared.file_id.FileId.TheVariants.{Log, Pages, Log2}
use Rattle.im_base_disk.specs.Disk.{Files}
use Rattle.im_files_belonging.specs.declared.belonging.Logs.{Logs}
use Rattle.im_files_belonging.specs.declared.folder.Folder.{Folder}
use Rattle.im_files_belonging.specs.declared.folder.Front.{Front}
use Rattle.im_files_belonging.specs.declared.folder.PagesFront.{PagesFront}
use Rattle.im_files_belonging.specs.declared.left_log.LeftLog.{LeftLog}
use Rattle.im_files_belonging.specs.Belonging.{BelongTogether}
use Rattle.im_files_belonging.specs.LeftLog.{current_log_of, left_log_of, walk_piece, PagesAreOlder}
use Rattle.im_base_model_disk.specs.declared.model_disk.ModelDisk.{ModelDisk}
use Rattle.im_base_model_disk.specs.Left.{IsLeftBy}
use Rattle.im_base_model_disk.specs.Model.{file_of, model_stop}

-- ---- a folder that has these files

-- the beginning of a log: its first bytes, zeros where it has no more
abbrev pub front_in : List ℕ → Front
front_in file = record { long = length file; bytes = take 65 (file ++ replicate 65 0); is_there = true }

-- the beginning of a file of pages: the first bytes of page 0, zeros where there is no whole page
abbrev pub pages_front_in : List ℕ → PagesFront
pages_front_in file = record { long = length file; bytes = if nat_lt (length file) 4096 then replicate 28 0 else take 28 file; is_there = true }

-- of all three
abbrev pub folder_in : (log log2 pages : List ℕ) → Folder
folder_in log log2 pages = record { log = front_in log; log2 = front_in log2; pages = pages_front_in pages; has_part = false }

-- ---- the walks over its logs

-- the walk over a log, from the place that is wanted to the log's end
abbrev pub walked_in : List ℕ → LeftLog → LeftLog
walked_in log l = walk_piece (length log - l.place) l.place (drop l.place log) l

-- over the one of two logs that it names
abbrev pub walked_of : (log log2 : List ℕ) → LeftLog → LeftLog
walked_of log log2 l = walked_in (if l.is_log2 then log2 else log) l

-- what the walks over the log that was left, and then over the current one, find
abbrev pub found_in : (log log2 : List ℕ) → Folder → LeftLog
found_in log log2 f = walked_of log log2 (current_log_of f (walked_of log log2 (left_log_of f)))

-- ---- the verdict

-- the LSN of a page, 0 where the file has not the whole page
abbrev pub lsn_of_page : List ℕ → ℕ → ℕ
lsn_of_page pages p = if nat_lt p (length pages / 4096) then from_be_bytes w64 (take 8 (drop (p * 4096) pages)) else 0

-- A page is older than its newest change in the log that was left, or is lacking.
abbrev pub HasOlderPages : (log log2 pages : List ℕ) → Folder → Type 0
HasOlderPages log log2 pages f = PagesAreOlder (found_in log log2 f) (length pages / 4096) (lsn_of_page pages (found_in log log2 f).page)

-- The files of a folder belong together, whatever the logs say.
abbrev pub AreTogether : Folder → Type 0
AreTogether f = (logs : Logs) × BelongTogether f logs

-- A folder of these files is opened: they belong together, and no page is older.
pub record FilesAreTaken (log log2 pages : List ℕ) : Type 0 where
  pub together : AreTogether (folder_in log log2 pages)
  pub newer : HasOlderPages log log2 pages (folder_in log log2 pages) → ⊥

-- The guards were asked of what is left of a disk, and took it or not.
pub record IsGuarded (disk : ModelDisk) (taken : Bool) : Type 0 where
  pub files : Files
  pub left : (file : FileId) → IsLeftBy (model_stop disk) (file_of disk file) (files file)
  pub verdict : taken ≡ true ↔ FilesAreTaken (files Log) (files Log2) (files Pages)
