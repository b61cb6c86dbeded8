-- The child of an inner page that holds a key.
use Rattle.std.specs.Prelude.{◌⊎◌, ◌+◌, ◌<◌, ◌≡◌, ℕ, List, [], ◌∷◌, length, drop}
use Rattle.im_base_types.specs.Keys.{Key, IsBelow}
use Rattle.im_base_types.specs.Pages.{Entry, Body}
use Rattle.im_theory_page.specs.Entry.{entry_at}

-- the first of these separators, if there is one, is above the key
abbrev pub StartAbove : Key → List Entry → Type 0
StartAbove key [] = Unit {0}
StartAbove key (e ∷ es) = IsBelow key e.0

-- the child that holds a key: the leftmost where all separators are above it, else that of the last separator that is not
abbrev pub IsChild : Body → Key → ℕ → Type 0
IsChild b key child =
    ((child ≡ b.leftmost) × StartAbove key b.entries)
    ⊎ ((i : ℕ) × (i < length b.entries) × (child ≡ (entry_at b.entries i).1)
    × (((entry_at b.entries i).0 ≡ key) ⊎ IsBelow (entry_at b.entries i).0 key) × StartAbove key (drop (i + 1) b.entries))
