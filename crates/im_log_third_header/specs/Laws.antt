-- What follows from how headers of the third format are spelled.
use Rattle.std.specs.Prelude.{◌≡◌, ℕ, ◌<◌, true, List, length, take, slice_index}
use Rattle.im_base_disk.specs.Sums.{is_third, base_in, salt_in}
use Rattle.im_log_header.specs.Header.{IsMade, IsUnmade}
use Rattle.im_log_third_header.specs.declared.header.ThirdHeader.{ThirdHeader}
use Rattle.im_log_third_header.specs.Header.{HasHeader, IsEmptyThird, MayStart}

-- A file has one header at most.
abbrev pub OneHeader : Type 0
OneHeader = (h k : ThirdHeader) (file : List ℕ) → HasHeader h file → HasHeader k file → k ≡ h

-- One that keeps what stands in front of the first gate, and has a gate, keeps its header.
abbrev pub HeadersAreKept : Type 0
HeadersAreKept = (h : ThirdHeader) (file c : List ℕ) → HasHeader h file → take 47 c ≡ take 47 file → 47 < length c → HasHeader h c

-- By its header it shows its batches.
pub record ShowsBy (h : ThirdHeader) (file : List ℕ) : Type 0 where
  pub third : is_third file ≡ true
  pub base : base_in file ≡ h.start.base
  pub salt : salt_in file ≡ h.salt

abbrev pub ShowsByHeader : Type 0
ShowsByHeader = (h : ThirdHeader) (file : List ℕ) → HasHeader h file → ShowsBy h file

-- A log that was just made has its header, and a closed first gate.
abbrev pub EmptyHasHeader : Type 0
EmptyHasHeader = (h : ThirdHeader) (file : List ℕ) → MayStart h → IsEmptyThird h file → HasHeader h file × (slice_index file 47 ≡ 0)

-- A log of this format is made, and is none of the first or the second: who knows these alone refuses it.
pub record NoOtherFormat : Type 0 where
  pub made : (h : ThirdHeader) (file : List ℕ) → HasHeader h file → ¬ (IsUnmade file)
  pub refused : (h : ThirdHeader) (file : List ℕ) → HasHeader h file → ¬ (IsMade file)
