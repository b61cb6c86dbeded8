-- The verdict on a folder that was made of three files.
use Rattle.std.proofs.Common.{◌≡◌, ◌↔◌, Bool, true, false, true≢false, not, ℕ, List, refl, sym, ◌∙◌, ap, subst}
use Rattle.im_files_belonging.specs.declared.folder.Folder.{Folder}
use Rattle.im_files_belonging.specs.declared.folder.Front.{Front}
use Rattle.im_files_belonging.specs.declared.folder.PagesFront.{PagesFront}
use Rattle.im_tool_every.specs.Guarded.{folder_in, front_in, pages_front_in, FilesAreTaken, AreTogether, HasOlderPages}

abbrev pub folder_of : Front → Front → PagesFront → Folder
folder_of log log2 pages = record { log = log; log2 = log2; pages = pages; has_part = false }

module _ (log log2 pages : List ℕ) (log_front log2_front : Front) (pages_front : PagesFront) (is_log : log_front ≡ front_in log) (is_log2 : log2_front ≡ front_in log2) (is_pages : pages_front ≡ pages_front_in pages) where
  is : folder_of log_front log2_front pages_front ≡ folder_in log log2 pages
  is =
      ap (λ (f : Front). folder_of f log2_front pages_front) is_log
      ∙ ap (λ (f : Front). folder_of (front_in log) f pages_front) is_log2
      ∙ ap (λ (f : PagesFront). folder_of (front_in log) (front_in log2) f) is_pages

  -- where the files belong together, it is that on the pages
  pub together : AreTogether (folder_of log_front log2_front pages_front) → (older : Bool) → (older ≡ true ↔ HasOlderPages log log2 pages (folder_of log_front log2_front pages_front))
      → (not older ≡ true) ↔ FilesAreTaken log log2 pages
  together all true told = (λ e. absurd (true≢false (sym e)), λ t. absurd (t.newer (subst (HasOlderPages log log2 pages) is (told.0 refl))))
  together all false told = (λ e. record { together = subst AreTogether is all; newer = λ older. absurd (true≢false (sym (told.1 (subst (HasOlderPages log log2 pages) (sym is) older)))) }, λ t. refl)
