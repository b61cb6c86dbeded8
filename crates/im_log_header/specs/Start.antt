-- What a header that was read says, as data.
use Rattle.std.specs.Prelude.{◌≡◌, ℕ, ◌^◌, ◌<◌, ◌≤◌, max, List}
use Rattle.im_log_header.specs.declared.header.Header.{Header}
use Rattle.im_log_header.specs.declared.header.LogStart.{LogStart}
use Rattle.im_log_header.specs.Header.{Says, second_header}

-- Numbers that a log of the second format may have in its header.
pub record IsHeader (header : Header) : Type 0 where
  pub some : 1 ≤ header.generation
  pub last : header.generation < 2 ^ 62
  pub low : header.base ≤ 2 ^ 62
  pub numbered : 1 ≤ header.next

-- These bytes are such a header. The number that they have may be 0, which counts as 1.
pub record IsSpelled (header : Header) (bytes : List ℕ) : Type 0 where
  pub ranged : IsHeader header
  pub number : ℕ
  pub fits : number < 2 ^ 64
  pub next : header.next ≡ max 1 number
  pub is : bytes ≡ second_header header.generation header.base number

-- A file says this of where its log starts.
abbrev pub SaysStart : LogStart → List ℕ → Type 0
SaysStart start file = Says start.first_gate start.header.generation start.header.base start.header.next file
