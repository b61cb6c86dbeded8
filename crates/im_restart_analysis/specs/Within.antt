-- Whether the pages that the records of a log name are below a page count that is said: a log that goes on does not say how many pages it found.
use Rattle.std.specs.Prelude.{◌≤◌, ◌⊎◌, ◌==◌, ℕ, max, if◌then◌else◌, [], ◌∷◌, Option, None, Some}
use Rattle.im_base_types.specs.Pages.{Page}
use Rattle.im_base_types.specs.Records.{What, Smo, UndoSmo, Image}
use Rattle.im_theory_log.specs.Histories.{History}
use Rattle.im_theory_log.specs.PageCounts.{first_count}

-- the greatest page count that the images of page 0 in a record of page 0 say: of the page as it was and as it is after, and of a full copy
abbrev pub greatest_in : What → ℕ
greatest_in (Smo old new) = max old.leftmost new.leftmost
greatest_in (UndoSmo new) = new.leftmost
greatest_in (Image c) = c.body.leftmost
greatest_in _ = 0

-- the greatest that the images of page 0 in a log say, 0 where it has none
abbrev pub greatest_said : History → ℕ
greatest_said [] = 0
greatest_said (r ∷ older) = if r.page == 0 then max (greatest_in r.what) (greatest_said older) else greatest_said older

-- The bytes are a page 0 that says so many pages or more.
abbrev pub SaysPages : ℕ → Option Page → Type 0
SaysPages n None = ⊥
SaysPages n (Some page) = n ≤ page.body.leftmost

-- All pages that records name are below this number, and so below a page count: that of a first log, the greatest that an image of page 0 in the log says, or the one that page 0 of the file says.
abbrev pub IsWithin : (named said : ℕ) (first : Option Page) → Type 0
IsWithin named said first = (named ≤ max first_count said) ⊎ SaysPages named first
