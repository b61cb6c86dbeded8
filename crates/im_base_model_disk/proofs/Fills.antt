-- Places that writes have touched, as a stop fills them one write after the other.
use Rattle.std.proofs.Common.{◌⊎◌, ℕ, ◌+◌, ◌<◌, ◌≤◌, List, get_or}

-- the write of this number does not touch the place
abbrev pub Apart : List (ℕ × ℕ) → ℕ → ℕ → Type 0
Apart writes k i = (i < (get_or writes k (0, 0)).0) ⊎ ((get_or writes k (0, 0)).0 + (get_or writes k (0, 0)).1 ≤ i)

-- nor do those of lower numbers
abbrev pub ApartBelow : List (ℕ × ℕ) → ℕ → ℕ → Type 0
ApartBelow writes n i = (k : ℕ) → k < n → Apart writes k i
