-- A log file by the spellings of its records.
use Rattle.std.specs.Prelude.{◌≡◌, ◌≢◌, ◌≤◌, ◌^◌, ℕ, ◌+◌, List, [], ◌∷◌, ◌++◌, length, map, Some}
use Rattle.std.specs.List.{AllByRecursion}
use Rattle.im_base_types.specs.Records.{Logged}
use Rattle.im_log_gate.specs.Batches.{gated, size_of, Fits}
use Rattle.im_log_gate.specs.Header.{first_gate}
use Rattle.im_log_record.specs.Entry.{Entry}
use Rattle.im_log_record.specs.Reading.{IsBytes}
use Rattle.im_log_record.specs.Spelling.{spelling, IsEntry}
use Rattle.im_log.specs.Spelled.{logged_at, log_of}

-- the spellings of these records, one after another
abbrev pub spelt : List Entry → List ℕ
spelt [] = []
spelt (said ∷ rest) = spelling said ++ spelt rest

-- Each of them has a spelling, and together they are as many bytes as a batch may have.
pub record IsBatch (said : List Entry) : Type 0 where
  pub entries : AllByRecursion IsEntry said
  pub fits : Fits (spelt said)

-- the log after these records, the first of which stands at this LSN, on top of an older one
abbrev pub joined : ℕ → List Entry → List Logged → List Logged
joined lsn [] older = older
joined lsn (said ∷ rest) older = joined (lsn + length (spelling said)) rest (logged_at lsn said ∷ older)

-- the same of batches, the first of which has its gate at this LSN: a gate and four bytes of length stand in front of the records of each
abbrev pub joined_all : ℕ → List (List Entry) → List Logged → List Logged
joined_all lsn [] older = older
joined_all lsn (said ∷ rest) older = joined_all (lsn + (5 + length (spelt said))) rest (joined (lsn + 5) said older)

-- A file has a log whose first byte has this LSN: after what stands in front of its first gate there are batches, each after an open gate, then a closed gate, no higher than LSN 2^62, and
-- anything after that. The log has the records of these batches, the newest first.
pub record HasLogAt (base : ℕ) (file : List ℕ) (log : List Logged) : Type 0 where
  pub said : List (List Entry)
  pub batches : AllByRecursion IsBatch said
  pub header : List ℕ
  pub start : length header ≡ first_gate file
  pub gate : ℕ
  pub closed : gate ≢ 1
  pub rest : List ℕ
  pub bytes : file ≡ header ++ gated (map spelt said) ++ gate ∷ rest
  pub within : base + (first_gate file + size_of (map spelt said)) ≤ 2 ^ 62
  pub records : log ≡ joined_all (base + first_gate file) said []

-- such a file is read as that log
abbrev pub LogsAreRead : Type 0
LogsAreRead = (base : ℕ) (file : List ℕ) (log : List Logged) → HasLogAt base file log → log_of base file ≡ Some log

-- and of bytes below 256 there is no other that is
abbrev pub LogsAreSpelled : Type 0
LogsAreSpelled = (base : ℕ) (file : List ℕ) (log : List Logged) → IsBytes file → log_of base file ≡ Some log → HasLogAt base file log
