-- The digest of a batch, from its gate to its records, at a place.
use Rattle.std.specs.Prelude.{ℕ, List}
use Rattle.std.specs.Int.{w64, to_be_bytes}
use Rattle.std.specs.Hash.DefaultHasher as sip

abbrev pub salted_digest : (salt : List ℕ) (lsn : ℕ) → List ℕ → ℕ
salted_digest salt lsn batch = sip.finish (sip.write (sip.write (sip.write sip.initial salt) (to_be_bytes w64 lsn)) batch)
