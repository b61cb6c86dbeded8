-- How the file of pages stands to what a writer of pages keeps of each page.
use Rattle.std.specs.Prelude.{◌≡◌, ℕ, false, List}
use Rattle.im_base_types.specs.declared.file_id.FileId.TheVariants.{Pages}
use Rattle.im_theory_log.specs.Writer.{PageState}
use Rattle.im_base_disk.specs.declared.disk.Disk.{Ghosts}
use Rattle.im_base_disk.specs.Disk.{Files}
use Rattle.im_theory_page.specs.PageFile.{file_page}

-- Each page that was not written since the last sync is in these bytes as it then was.
abbrev pub KeepsSynced : (ℕ → PageState) → List ℕ → Type 0
KeepsSynced pages bytes = (p : ℕ) → (pages p).unsynced ≡ false → file_page bytes p ≡ (pages p).synced

-- A read gives each page as the writer has it, and a stop leaves each page that was not written since the last sync.
pub record IsPageFile {D : Type 0} (d : Ghosts D) (pages : ℕ → PageState) (disk : D) : Type 0 where
  pub reads : (p : ℕ) → file_page (d.seen disk Pages) p ≡ (pages p).reads
  pub leaves : (c : Files) → d.may_leave disk c → KeepsSynced pages (c Pages)
