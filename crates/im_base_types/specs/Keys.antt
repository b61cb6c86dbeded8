-- Keys and their order.
use Rattle.std.specs.Prelude.{◌≡◌, ℕ, List}
use Rattle.std.specs.declared.cmp.Ordering.{Ordering}
use Rattle.std.specs.declared.cmp.Ordering.TheVariants.{Less}
use Rattle.std.specs.Ordering.{nat_cmp}
use Rattle.std.specs.Cmp.Lexicographic.{slice_cmp}

-- a key is a list of bytes
abbrev pub Key : Type 0
Key = List ℕ

-- keys are compared by their unsigned bytes, a front first
abbrev pub key_order : Key → Key → Ordering
key_order = slice_cmp nat_cmp

-- the one key is strictly below the other
pub record IsBelow (a b : Key) : Type 0 where
  pub less : key_order a b ≡ Less
