-- What the first bytes of a record say of it by themselves, whether it is one or not: for who goes from one record to the next and reads no payload.
use Rattle.std.specs.Prelude.{ℕ, List, take, drop, slice_index, Option}
use Rattle.std.specs.Int.{w32, w64, from_be_bytes}
use Rattle.im_log_record.specs.declared.kind.Kind.{Kind}
use Rattle.im_log_record.specs.Kind.{kind_at}

-- how many bytes it has
abbrev pub size_in : List ℕ → ℕ
size_in bytes = from_be_bytes w32 (take 4 bytes)

-- its kind; none where the byte stands for none
abbrev pub kind_in : List ℕ → Option Kind
kind_in bytes = kind_at (slice_index bytes 4)

-- the transaction that wrote it, 0 where none did
abbrev pub transaction_in : List ℕ → ℕ
transaction_in bytes = from_be_bytes w64 (take 8 (drop 5 bytes))

-- its page, 0 where it has none
abbrev pub page_in : List ℕ → ℕ
page_in bytes = from_be_bytes w32 (take 4 (drop 29 bytes))
