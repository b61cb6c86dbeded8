-- What follows from how headers are spelled.
use Rattle.std.specs.Prelude.{◌≡◌, ℕ, ◌^◌, ◌<◌, ◌≤◌, List, take}
use Rattle.im_log_header.specs.Header.{IsUnmade, IsMade, IsEmptyLog, Says, StartsAlike, first_gate, generation_of}

-- A file that keeps what stands in front of its first gate says the same, and is of the same generation.
abbrev pub FrontsSayTheSame : Type 0
FrontsSayTheSame = (file c : List ℕ) → take (first_gate file) c ≡ take (first_gate file) file → StartsAlike file c × (generation_of c ≡ generation_of file)

-- A file that is not made says the same whatever stale bytes it has.
abbrev pub UnmadeSaysNothing : Type 0
UnmadeSaysNothing = (file : List ℕ) → IsUnmade file → Says 47 0 0 1 file

-- A log that was just made is a made one, and says what its header was made with.
pub record EmptyLogsSayTheirs : Type 0 where
  pub made : (g b n : ℕ) (file : List ℕ) → 1 ≤ g → g < 2 ^ 62 → b ≤ 2 ^ 62 → n < 2 ^ 64 → IsEmptyLog g b n file → IsMade file
  pub says : (g b n : ℕ) (file : List ℕ) → g < 2 ^ 64 → b < 2 ^ 64 → 1 ≤ n → n < 2 ^ 64 → IsEmptyLog g b n file → Says 47 g b n file
