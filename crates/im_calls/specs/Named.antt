-- The files that a call names by its descriptors.
use Rattle.std.specs.Prelude.{◌≡◌, ◌==◌, pos, true, false, None}
use Rattle.im_base_disk.specs.declared.disk.Disk.{Ghosts}
use Rattle.im_base_two_logs.specs.declared.renamed.Renamed.{Renamed}
use Rattle.im_base_mirror_disk.specs.declared.mirrored.Mirrored.{Mirrored}
use Rattle.im_files_caller_disk.specs.Disks.{disk_over}
use Rattle.im_files_caller_disk.specs.Ways.{IsWay}
use Rattle.im_files_caller_disk.specs.declared.caller_disk.CallerDisk.{CallerDisk}
use Rattle.im_files_caller_disk.specs.declared.caller_files.CallerFiles.{CallerFiles}
use Rattle.im_calls.specs.declared.call.Call.{Call}
use Rattle.im_calls.specs.declared.opening.Opening.{Opening}

-- The files of a store that an opening names: those of its caller, over the descriptors that are asked, written to or only read as is asked; the logs have their own names, and no copy is under way.
pub record AreOpened {T : Type 0} {d : Ghosts (Renamed CallerFiles)} {t : Ghosts T} (asked : Opening) (disk : Mirrored (Renamed CallerFiles) T d t) : Type 0 where
  pub way : IsWay (asked.read_only == 1) (disk_over (pos asked.ask) (pos asked.answer) false) disk.disk.disk.way
  pub names : disk.disk.swapped ≡ false
  pub alone : disk.copy ≡ None

-- the files of a load that a call names: the caller's, by the names of a copy
abbrev pub load_files : Call → CallerDisk
load_files asked = disk_over (pos asked.key_len) (pos asked.hi_len) true

-- those of a copy, whose logs have their own names
abbrev pub copy_files : Call → Renamed CallerDisk
copy_files asked = record { disk = load_files asked; swapped = false }
