-- How long a log may get.
use Rattle.std.specs.Prelude.{ℕ, zero, suc, ◌*◌, Bool, max, if◌then◌else◌}

-- the bytes of a bound that is this one at least, over a file of so many pages: eight times as many as the file has, where it grows with it
abbrev pub length_over : ℕ → Bool → ℕ → ℕ
length_over bytes grows pages = if grows then max bytes (32768 * pages) else bytes

-- a bound of so many bytes: 65,536 at least, but for none
abbrev pub least_or_none : ℕ → ℕ
least_or_none zero = 0
least_or_none (suc n) = max (suc n) 65536
