-- What is promised of real files: their descriptors, and which refusal is printed.
use Rattle.std.specs.Prelude.{◌≡◌, ◌<ℤ◌, pos, IfSome}
use Rattle.std.specs.declared.fs.File.{File}
use Rattle.std.specs.Fd.{file_raw_fd}
use Rattle.im_base_types.specs.declared.fault.Fault.{Fault}
use Rattle.im_base_types.specs.declared.fault.Fault.TheVariants.{Device, Memory, NotAStore, Locked as LockedFault}
use Rattle.im_base_types.specs.declared.file_id.FileId.TheVariants.{Log, Log2, Pages}
use Rattle.im_files_belonging.specs.declared.belonging.Apart.{Apart}
use Rattle.im_files_belonging.specs.declared.belonging.Apart.TheVariants as apart
use Rattle.im_files_disk.specs.declared.file_disk.FileDisk.{FileDisk}
use Rattle.im_files_disk.specs.declared.file_disk.Found.{Found}
use Rattle.im_files_disk.specs.declared.open_error.OpenError.{OpenError}
use Rattle.im_files_disk.specs.declared.open_error.OpenError.TheVariants.{NotAFile, NoFile, NoOtherLog, NoPages, ShortPages, OlderPages, NotALog, Unfinished, NotEmpty, Locked, NoFolder, NotAFolder, Denied, NoDescriptor, System, Memory as NoMemory}

-- The file's descriptor is none of standard input, output and error.
abbrev pub IsNoStandardFile : File → Type 0
IsNoStandardFile file = pos 2 <ℤ file_raw_fd file

-- No file of the store has one of those three descriptors.
pub record HasOwnDescriptors (disk : FileDisk) : Type 0 where
  pub log : IsNoStandardFile disk.log
  pub pages : IsNoStandardFile disk.pages
  pub log2 : IfSome disk.log2 IsNoStandardFile

-- Nor has one of those that were found.
abbrev pub FoundAreApart : Found → Type 0
FoundAreApart found = IfSome found.log2 IsNoStandardFile × IfSome found.pages IsNoStandardFile

-- the refusal that stands for an error of an opening
abbrev pub fault_of_opening : OpenError → Fault
fault_of_opening (NotAFile name) = NotAStore
fault_of_opening (NoFile name) = NotAStore
fault_of_opening NoOtherLog = NotAStore
fault_of_opening NoPages = NotAStore
fault_of_opening ShortPages = NotAStore
fault_of_opening OlderPages = NotAStore
fault_of_opening (NotALog name) = NotAStore
fault_of_opening Unfinished = NotAStore
fault_of_opening NotEmpty = Device
fault_of_opening Locked = LockedFault
fault_of_opening NoMemory = Memory
fault_of_opening (NoFolder error) = Device
fault_of_opening NotAFolder = Device
fault_of_opening (Denied error) = Device
fault_of_opening NoDescriptor = Device
fault_of_opening (System error) = Device

-- whether an error is one of files that do not belong together, for this reason
abbrev pub SaysApart : OpenError → Apart → Type 0
SaysApart error (apart.NoFile Log) = (name : _) × (error ≡ NoFile name)
SaysApart error (apart.NoFile Log2) = error ≡ NoOtherLog
SaysApart error (apart.NoFile Pages) = (name : _) × (error ≡ NoFile name)
SaysApart error apart.Unfinished = error ≡ Unfinished
SaysApart error apart.NoPages = error ≡ NoPages
SaysApart error apart.ShortPages = error ≡ ShortPages
SaysApart error (apart.NotALog file) = (name : _) × (error ≡ NotALog name)
