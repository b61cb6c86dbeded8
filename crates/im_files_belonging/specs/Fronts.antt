-- What the first bytes of a log say, in the words of headers and records.
use Rattle.std.specs.Prelude.{◌≡◌, ◌≤◌, ◌<◌, ◌+◌, ℕ, Bool, true, false, List, length, take, drop, slice_index, slice_set, Option, Some, None}
use Rattle.im_log_header.specs.Header.{base_of, first_gate, generation_of, least_number, says_made, says_second, IsMade, IsSecond}
use Rattle.im_log_record.specs.declared.kind.Kind.{Kind}
use Rattle.im_log_record.specs.declared.kind.Kind.TheVariants.{InsertKey, DeleteKey, UndoInsert, UndoDelete, Smo, UndoSmo, DummyClr, Commit, End, Image, Checkpoint}
use Rattle.im_log_record.specs.FirstBytes.{kind_in, transaction_in}
use Rattle.im_files_belonging.specs.declared.folder.Front.{Front}

-- The bytes of a log that were read, as far as the file goes.
abbrev pub shown : Front → List ℕ
shown front = take front.long front.bytes

-- The log says that it was made.
abbrev pub front_says_made : Front → Bool
front_says_made front = says_made (take 47 (shown front))

-- And it is of the second format.
abbrev pub front_says_second : Front → Bool
front_says_second front = says_second (take 47 (shown front))

-- the byte at the first gate: 1 where that is open
abbrev pub gate_byte : List ℕ → ℕ
gate_byte log = slice_index log (first_gate log)

-- Records of these kinds change a page.
abbrev pub kind_changes : Option Kind → Bool
kind_changes None = false
kind_changes (Some InsertKey) = true
kind_changes (Some DeleteKey) = true
kind_changes (Some UndoInsert) = true
kind_changes (Some UndoDelete) = true
kind_changes (Some Smo) = true
kind_changes (Some UndoSmo) = true
kind_changes (Some DummyClr) = false
kind_changes (Some Commit) = false
kind_changes (Some End) = false
kind_changes (Some Image) = false
kind_changes (Some Checkpoint) = false

-- The first gate of a log of either format is open, and the first record, which comes after the length of its batch, changes a page.
pub record HasChangeFirst (log : List ℕ) : Type 0 where
  pub whole : IsMade log
  pub opened : gate_byte log ≡ 1
  pub changes : kind_changes (kind_in (drop (first_gate log + 5) log)) ≡ true

-- A log begins so.
abbrev pub BeginsWithChange : Front → Type 0
BeginsWithChange front = HasChangeFirst (shown front)

-- ---- a log whose first byte may be damaged

-- the same beginning with the first byte of a log that was made
abbrev pub mended : Front → Front
mended front = record front { bytes = slice_set front.bytes 0 1 }

-- the number of the transaction that the first record of the second format is of
abbrev pub first_transaction : Front → ℕ
first_transaction front = transaction_in (drop 52 front.bytes)

-- The first record is of a transaction that the header allows, and the header allows none that is older than the other log.
pub record HasOwnRecord (front other : Front) : Type 0 where
  pub allowed : least_number (shown (mended front)) ≤ first_transaction front
  pub newer : least_number (shown other) ≤ least_number (shown (mended front))

-- A log that has a header of the second format and is not made, with an open first gate and a record of its own: with its first byte it is of a later generation and a greater base
-- than the other.
pub record LacksFirstByte (front other : Front) : Type 0 where
  pub unmade : front_says_made front ≡ false
  pub named : (47 < length (shown front)) × IsSecond (take 46 (drop 1 (shown front)))
  pub later : (generation_of (shown other) < generation_of (shown (mended front))) × (base_of (shown other) < base_of (shown (mended front)))
  pub opened : (gate_byte (shown (mended front)) ≡ 1) × HasOwnRecord front other
