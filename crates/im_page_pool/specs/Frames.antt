-- What the frames have.
use Rattle.std.specs.Prelude.{◌≡◌, ℕ, ◌-◌, Bool, true, false, List, ◌++◌, length, replicate, slice_index_or, slice_set}
use Rattle.im_base_types.specs.Pages.{Page}
use Rattle.im_theory_page.specs.Header.{initial}

-- a page, and whether it was changed since it was read or written
pub record Stored : Type 0 where
  pub page : Page
  pub changed : Bool

abbrev pub no_page : Stored
no_page = record { page = initial 0; changed = false }

-- so many frames, of which the first ones were used
abbrev pub frames_in : List Stored → ℕ → List Stored
frames_in used count = used ++ replicate (count - length used) no_page

-- what the frame at a place has
abbrev pub stored_at : List Stored → ℕ → Stored
stored_at frames place = slice_index_or frames place no_page

-- the frame at this place has this page and counts as changed, and each other is as it was
abbrev pub Puts : ℕ → Page → List Stored → List Stored → Type 0
Puts place page old new = new ≡ slice_set old place (record { page = page; changed = true })
