-- What becomes of a question to a store that may be open.
use mir.Syntax.{Dict, impl, tcons, tnil, dnil}
use denote.Struct.Struct.{layout}
use denote.Struct.Declared.{shape}
use Rattle.std.specs.Prelude.{◌≡◌, ◌≢◌, ◌∷◌, [], None, Some, IfSome}
use Rattle.std.specs.Option.{IsSomeAnd}
use Rattle.im_base_disk.specs.declared.disk.Disk.{Ghosts}
use Rattle.im_files_caller_disk.specs.declared.caller_disk.CallerDisk.{CallerDisk}
use Rattle.im_files_caller_disk.specs.declared.caller_files.CallerFiles.{CallerFiles}
use Rattle.im_files_caller_disk.specs.contracts.caller_disk.CallerDisk.{the_row as disk_row}
use Rattle.im_files_caller_disk.specs.contracts.caller_disk.CallerDiskDisk.TheImpl as caller
use Rattle.im_files_caller_disk.specs.contracts.caller_files.CallerFiles.{the_row as files_row}
use Rattle.im_files_caller_disk.specs.contracts.caller_files.CallerFilesDisk.TheImpl as files
use Rattle.im_base_two_logs.specs.declared.renamed.Renamed.{Renamed}
use Rattle.im_base_two_logs.specs.contracts.renamed.Renamed.{the_row as renamed_row, the_type}
use Rattle.im_base_two_logs.specs.contracts.renamed.RenamedDisk.TheImpl as renamed
use Rattle.im_base_mirror_disk.specs.declared.mirrored.Mirrored.{Mirrored}
use Rattle.im_base_mirror_disk.specs.contracts.mirrored.MirroredDisk.TheImpl as mirrored
use Rattle.im_calls.specs.declared.call.Call.{Call}
use Rattle.im_calls.specs.Calls.{IsAnswered, Refuses, TellsWord, Shows, numbers_bytes}
use Rattle.im_calls.specs.declared.session.Session.{Session}
use Rattle.im_calls.specs.Copies.{IsBegunOver, IsCopyEnded, IsPieceMade}
use Rattle.im_calls.specs.Loads.{IsLoadBegunOver, Loads}
use Rattle.im_calls.specs.declared.opening.Opening.{Opening}
use Rattle.im_calls.specs.Named.{AreOpened, copy_files, load_files}
use Rattle.im_calls.specs.Openings.{AsksTheSame, IsOpeningOver}
use Rattle.im_calls.specs.Sessions.{IsClosing, IsForLoad, IsForStep, IsServed, standing}

-- the files of a store behind a pointer: its caller's, with its logs by name
abbrev pub own_ghosts : Ghosts (Renamed CallerFiles)
own_ghosts = renamed.ghosts files_row files.ghosts files.dict

-- and those of a copy of it
abbrev pub copy_ghosts : Ghosts (Renamed CallerDisk)
copy_ghosts = renamed.ghosts disk_row caller.ghosts caller.dict

-- how the latter are let go
abbrev drops : Dict
drops = impl ("im_calls::Destruct++none::drop" ∷ []) (tcons (layout (shape (the_type disk_row))) tnil) dnil

-- both
abbrev pub file_ghosts : Ghosts (Mirrored (Renamed CallerFiles) (Renamed CallerDisk) own_ghosts copy_ghosts)
file_ghosts = mirrored.ghosts (renamed_row files_row) (renamed_row disk_row) own_ghosts (renamed.dict files_row files.ghosts files.dict) copy_ghosts (renamed.dict disk_row caller.ghosts caller.dict) drops

-- All that `open` promises: of the opening and what it is told, and of the store before and after.
pub record Opens (asked told : Opening) (was now : Session) : Type 0 where
  pub question : AsksTheSame asked told
  pub opening : was.store ≡ None → IsOpeningOver file_ghosts asked told (AreOpened asked) now.store
  pub twice : IfSome was.store (λ opened. (told.fault ≡ 10) × (now.store ≡ Some opened))
  pub apart : now.load ≡ was.load

-- All that `made` promises: of the question and what it is told, and of the store before and after.
pub record Makes (asked told : Call) (was now : Session) : Type 0 where
  pub question : IsAnswered asked told
  pub closed : was.store ≡ None → (IsForLoad asked.step → ⊥) → Refuses told 10 × (now.store ≡ None)
  pub ended : asked.step ≡ 15 → now.store ≡ None
  pub stat : IfSome was.store (λ opened. asked.step ≡ 13 → TellsWord told 14 6 × (now.store ≡ Some opened))
  pub shown : IfSome was.store (λ opened. asked.step ≡ 13 → Shows told (numbers_bytes (standing file_ghosts opened.store.engine)))
  pub left : IfSome was.store (λ opened. asked.step ≡ 15 → IsClosing file_ghosts told opened.store)
  pub begun : IfSome was.store (λ opened. asked.step ≡ 18 → IsSomeAnd now.store (IsBegunOver own_ghosts copy_ghosts file_ghosts (copy_files asked) asked told opened))
  pub copied : IfSome was.store (λ opened. asked.step ≡ 19 → IsSomeAnd now.store (λ left. IsPieceMade own_ghosts copy_ghosts file_ghosts told opened.store left.store))
  pub whole : IfSome was.store (λ opened. asked.step ≡ 20 → IsSomeAnd now.store (λ left. IsCopyEnded own_ghosts copy_ghosts file_ghosts told opened.store left.store))
  pub served : IfSome was.store (λ opened. IsForStep asked.step → IsServed file_ghosts asked told opened now.store)
  pub loads : IsForLoad asked.step → Loads caller.ghosts (was.store ≡ None) (IsLoadBegunOver caller.ghosts (load_files asked) asked told) asked told was.load now.load
  pub beside : IsForLoad asked.step → now.store ≡ was.store
  pub apart : (IsForLoad asked.step → ⊥) → asked.step ≢ 15 → now.load ≡ was.load
  pub over : asked.step ≡ 15 → now.load ≡ None
