-- Bytes that are of one file or of another.
use Rattle.std.specs.Prelude.{◌≡◌, ◌⊎◌, ◌<◌, ℕ, List, length, slice_index}

-- As long as the first, and at each place the byte of the first or of the second.
pub record IsTornOf (filled written torn : List ℕ) : Type 0 where
  pub long : length torn ≡ length filled
  pub each : (place : ℕ) → place < length filled → (slice_index torn place ≡ slice_index filled place) ⊎ (slice_index torn place ≡ slice_index written place)
