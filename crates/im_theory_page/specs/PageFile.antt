-- The pages that the bytes of a file of pages are: page p stands at byte p * 4,096.
use Rattle.std.specs.Prelude.{ℕ, ◌*◌, ◌/◌, nat_lt, if◌then◌else◌, List, length, take, drop, Option, Some}
use Rattle.im_base_types.specs.Pages.{Page}
use Rattle.im_theory_page.specs.Header.{initial}
use Rattle.im_theory_page.specs.Page.{page_of}

-- how many pages the file has: bytes after the last whole one do not count
abbrev pub page_count : List ℕ → ℕ
page_count file = length file / 4096

-- the bytes of the page of a number
abbrev pub page_bytes : List ℕ → ℕ → List ℕ
page_bytes file p = take 4096 (drop (p * 4096) file)

-- the page of a number as the file has it: from the page count on the initial one, None where the bytes are no page
unfoldable pub file_page : List ℕ → ℕ → Option Page
file_page file p = if nat_lt p (page_count file) then page_of (page_bytes file p) else Some (initial p)
