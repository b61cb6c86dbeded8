-- Which keys lie between two.
use Rattle.std.specs.Prelude.{◌≡◌, ◌≢◌, ℕ, ◌<◌, List, ◌∷◌, ◌++◌}
use Rattle.std.specs.List.{AllByRecursion}
use Rattle.std.specs.declared.cmp.Ordering.TheVariants.{Less, Greater}
use Rattle.im_base_types.specs.Keys.{key_order}

-- a key lies from the one to the other, both included
abbrev pub LiesIn : (lo hi key : List ℕ) → Type 0
LiesIn lo hi key = (key_order key lo ≢ Less) × (key_order key hi ≢ Greater)

-- a key begins with these bytes
abbrev pub HasPrefix : (bytes key : List ℕ) → Type 0
HasPrefix bytes key = (rest : List ℕ) × (key ≡ bytes ++ rest)

-- each is a byte
abbrev pub AreBytes : List ℕ → Type 0
AreBytes bytes = AllByRecursion (λ b. b < 256) bytes
