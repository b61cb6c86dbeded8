-- Which page stands in which frame, and which frames are free.
use Rattle.std.specs.Prelude.{◌≡◌, ℕ, ◌+◌, ◌*◌, ◌<◌, ◌≤◌, List, [], ◌∷◌, length, ◌==◌, nat_eq, slice_get, Option, Some, None, if◌then◌else◌}
use Rattle.std.specs.Option.{option_flatten, option_map_or}
use Rattle.std.specs.Map.{keys_of, values_of, lookup}

-- the number of each held page with the place of its frame, the most recently used first, and the free frames
pub record PlacesView : Type 0 where
  pub taken : List (ℕ × ℕ)
  pub free : List ℕ

-- how often a number stands in a list
abbrev pub times : ℕ → List ℕ → ℕ
times f [] = 0
times f (g ∷ gs) = (if f == g then 1 else 0) + times f gs

-- each number below n, once, and no other
pub record IsAll (n : ℕ) (gs : List ℕ) : Type 0 where
  pub len : length gs ≡ n
  pub once : (f : ℕ) → f < n → times f gs ≡ 1
  pub never : (f : ℕ) → n ≤ f → times f gs ≡ 0

-- how many frames there are
abbrev pub frame_count : PlacesView → ℕ
frame_count v = length v.taken + length v.free

-- The numbers differ, and each frame is held or free, once.
pub record AreApart (v : PlacesView) : Type 0 where
  pub numbers : (p : ℕ) → times p (keys_of v.taken) ≤ 1
  pub once : (f : ℕ) → f < frame_count v → times f (values_of v.taken) + times f v.free ≡ 1
  pub never : (f : ℕ) → frame_count v ≤ f → times f (values_of v.taken) + times f v.free ≡ 0

-- ---- what carries them: every frame by its use, with the number of its page, if it has one

-- the held pages, from the frames by their use
abbrev pub taken_in : List (ℕ × Option ℕ) → List (ℕ × ℕ)
taken_in [] = []
taken_in (e ∷ es) = option_map_or (λ p. (p, e.0) ∷ taken_in es) e.1 (taken_in es)

-- what a map has at a number is the frame of that page, if it is held
abbrev pub Finds : (ℕ → Option (Option ℕ)) → List (ℕ × ℕ) → Type 0
Finds at taken = (p : ℕ) → option_flatten (at p) ≡ lookup (nat_eq p) taken

-- The frames below n, none with a page.
pub record AreUnused (n : ℕ) (frames : List (ℕ × Option ℕ)) : Type 0 where
  pub len : length frames ≡ n
  pub none : (f : ℕ) → f < n → lookup (nat_eq f) frames ≡ Some None
  pub once : (f : ℕ) → times f (keys_of frames) ≤ 1
  pub never : (f : ℕ) → n ≤ f → times f (keys_of frames) ≡ 0
  pub taken : taken_in frames ≡ []

-- The frames by their use, a map of the numbers with its room, and the free frames go together: no frame or number comes twice, the free
-- ones are those that have no page, and the map has room for twice as many numbers as there are frames.
pub record GoTogether (frames : List (ℕ × Option ℕ)) (at : ℕ → Option (Option ℕ)) (places : ℕ) (free : List ℕ) : Type 0 where
  pub some : 1 ≤ length frames
  pub once : (f : ℕ) → times f (keys_of frames) ≤ 1
  pub numbers : (p : ℕ) → times p (keys_of (taken_in frames)) ≤ 1
  pub unused : (f : ℕ) → 1 ≤ times f free → lookup (nat_eq f) frames ≡ Some None
  pub apart : (f : ℕ) → times f free ≤ 1
  pub all : length (taken_in frames) + length free ≡ length frames
  pub found : Finds at (taken_in frames)
  pub room : 2 * length frames ≤ places

-- What is noted of frames, the number after that of a page, is so of the frames by their use. Of a frame with a page there may be no note.
abbrev pub Shows : List ℕ → List (ℕ × Option ℕ) → Type 0
Shows notes frames = (f : ℕ) (p : ℕ) → slice_get notes f ≡ Some (p + 1) → lookup (nat_eq f) frames ≡ Some (Some p)
