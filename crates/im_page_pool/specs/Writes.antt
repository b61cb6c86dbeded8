-- What a write of one page leaves of the file of pages.
use Rattle.std.specs.Prelude.{◌≡◌, ◌≢◌, ℕ, ◌+◌, ◌*◌, max, List, Some}
use Rattle.im_base_types.specs.Pages.{Page}
use Rattle.im_base_disk.specs.Disk.{Torn}
use Rattle.im_theory_page.specs.PageFile.{page_count, file_page}

-- The page of this number is this one, and each other is as it was.
pub record WritesPage (p : ℕ) (page : Page) (old new : List ℕ) : Type 0 where
  pub here : file_page new p ≡ Some page
  pub others : (q : ℕ) → q ≢ p → file_page new q ≡ file_page old q
  pub count : page_count new ≡ max (page_count old) (p + 1)

-- Any bytes where the page of this number stands, and each other page as it was.
pub record TearsPage (p : ℕ) (old new : List ℕ) : Type 0 where
  pub range : Torn (p * 4096) 4096 old new
  pub others : (q : ℕ) → q ≢ p → file_page new q ≡ file_page old q
