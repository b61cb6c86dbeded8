-- The pool as its callers see it.
use Rattle.std.specs.Prelude.{◌≡◌, ◌≢◌, ℕ, ◌+◌, Bool, true, false, List, [], ◌∷◌, length, nat_eq, Option, Some, None, option_map, IsSome, if◌then◌else◌}
use Rattle.std.specs.Option.{option_map_or}
use Rattle.std.specs.Map.{keys_of, lookup, remove_entry}
use Rattle.im_base_types.specs.Pages.{Page}
use Rattle.im_theory_page.specs.Header.{initial}
use Rattle.im_theory_page.specs.PageFile.{file_page}
use Rattle.im_page_pool.specs.declared.frame.Frame.{Frame}

-- a held page: the place of its frame, the page, and whether it was changed since it was read or written
pub record Held : Type 0 where
  pub place : ℕ
  pub page : Page
  pub changed : Bool

-- the held pages by their numbers, the most recently used first; how many may be held; and how often a page was got
pub record PoolView : Type 0 where
  pub held : List (ℕ × Held)
  pub frames : ℕ
  pub gets : ℕ

-- the held page of a number
abbrev pub held_of : PoolView → ℕ → Option Held
held_of pool p = lookup (nat_eq p) pool.held

-- where an entry of the list is held
abbrev pub frame_of : ℕ × Held → Frame
frame_of e = record { number = e.0; place = e.1.place }

-- the last entry whose page was changed
abbrev pub last_changed : List (ℕ × Held) → Option (ℕ × Held)
last_changed [] = None
last_changed (e ∷ es) = option_map_or (λ f. Some f) (last_changed es) (if e.1.changed then Some e else None)

-- the numbers of the entries whose pages were changed, in order
abbrev pub changed_numbers : List (ℕ × Held) → List ℕ
changed_numbers [] = []
changed_numbers (e ∷ es) = if e.1.changed then e.0 ∷ changed_numbers es else changed_numbers es

-- the page of this number is held
abbrev pub Holds : PoolView → ℕ → Type 0
Holds pool p = IsSome (held_of pool p)

-- the page of the frame's number is held, and in that frame
abbrev pub IsAt : PoolView → Frame → Type 0
IsAt pool frame = option_map (λ h. h.place) (held_of pool frame.number) ≡ Some frame.place

-- the page that is held under a number
abbrev pub page_at : PoolView → ℕ → Page
page_at pool p = option_map_or (λ h. h.page) (held_of pool p) (initial 0)

-- it was changed since it was read or written. A page that is not held was not
abbrev pub is_changed : PoolView → ℕ → Bool
is_changed pool p = option_map_or (λ h. h.changed) (held_of pool p) false

-- the page of a number: as it is held, else as the file has it
abbrev pub page_seen : PoolView → List ℕ → ℕ → Option Page
page_seen pool file p = option_map_or (λ h. Some h.page) (held_of pool p) (file_page file p)

-- One held page is now this one, with this mark, and all else is as it was.
pub record Sets (frame : Frame) (page : Page) (changed : Bool) (old new : PoolView) : Type 0 where
  pub here : held_of new frame.number ≡ Some (record { place = frame.place; page = page; changed = changed })
  pub others : (q : ℕ) → q ≢ frame.number → held_of new q ≡ held_of old q
  pub order : keys_of new.held ≡ keys_of old.held
  pub frames : new.frames ≡ old.frames
  pub gets : new.gets ≡ old.gets

-- One held page is now this one, and counts as changed.
abbrev pub Changes : Frame → Page → PoolView → PoolView → Type 0
Changes frame page old new = Sets frame page true old new

-- A page that was not held stands in a frame of its own as the most recently used, and each other is as it was.
pub record Takes (frame : Frame) (page : Page) (changed : Bool) (old new : PoolView) : Type 0 where
  pub here : held_of new frame.number ≡ Some (record { place = frame.place; page = page; changed = changed })
  pub others : (q : ℕ) → q ≢ frame.number → held_of new q ≡ held_of old q
  pub order : keys_of new.held ≡ frame.number ∷ keys_of old.held
  pub count : length new.held ≡ length old.held + 1
  pub frames : new.frames ≡ old.frames

-- A held page is the most recently used, and all are as they were.
pub record MovesFirst (p : ℕ) (old new : PoolView) : Type 0 where
  pub all : (q : ℕ) → held_of new q ≡ held_of old q
  pub order : keys_of new.held ≡ p ∷ keys_of (remove_entry (nat_eq p) old.held)
  pub count : length new.held ≡ length old.held
  pub frames : new.frames ≡ old.frames

-- A page is held no more, and each other is as it was.
pub record Evicts (p : ℕ) (old new : PoolView) : Type 0 where
  pub gone : held_of new p ≡ None
  pub others : (q : ℕ) → q ≢ p → held_of new q ≡ held_of old q
  pub held : new.held ≡ remove_entry (nat_eq p) old.held
  pub count : length new.held + 1 ≡ length old.held
  pub frames : new.frames ≡ old.frames
  pub gets : new.gets ≡ old.gets
  -- where the file has the page, nothing changes of what is seen
  pub seen : (file : List ℕ) → file_page file p ≡ Some (page_at old p) → (q : ℕ) → page_seen new file q ≡ page_seen old file q
