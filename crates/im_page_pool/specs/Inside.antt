-- What a pool keeps inside.
use Rattle.std.specs.Prelude.{◌≡◌, ℕ, List, [], ◌∷◌, map, length, Option, Some, None, if◌then◌else◌}
use Rattle.std.specs.Option.{option_map_or}
use Rattle.im_page_pool.specs.Frames.{Stored, stored_at}
use Rattle.im_page_pool.specs.Places.{PlacesView, frame_count, AreApart}
use Rattle.im_page_pool.specs.Pool.{Held}

-- what is held in the frame at a place
abbrev pub held_at : List Stored → ℕ → Held
held_at frames place = record { place = place; page = (stored_at frames place).page; changed = (stored_at frames place).changed }

-- the held pages, from their numbers and places
abbrev pub held_in : List Stored → List (ℕ × ℕ) → List (ℕ × Held)
held_in frames taken = map (λ e. (e.0, held_at frames e.1)) taken

-- each frame is held or free, once, and the numbers differ
pub record IsWhole (places : PlacesView) (frames : List Stored) : Type 0 where
  pub apart : AreApart places
  pub all : frame_count places ≡ length frames

-- the last entry whose frame was changed
abbrev pub last_marked : List Stored → List (ℕ × ℕ) → Option (ℕ × ℕ)
last_marked frames [] = None
last_marked frames (e ∷ es) = option_map_or (λ f. Some f) (last_marked frames es) (if (stored_at frames e.1).changed then Some e else None)

-- the numbers of the entries whose frames were changed, in order
abbrev pub marked_numbers : List Stored → List (ℕ × ℕ) → List ℕ
marked_numbers frames [] = []
marked_numbers frames (e ∷ es) = if (stored_at frames e.1).changed then e.0 ∷ marked_numbers frames es else marked_numbers frames es
