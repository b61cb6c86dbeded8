-- Which worker has which page of a round.
use Rattle.std.specs.Prelude.{◌==◌, ◌%◌, ◌++◌, ℕ, zero, suc, List, [], ◌∷◌, if◌then◌else◌, length, slice_index}

-- of the pages at the places below n, those that are dealt to a worker: page i to worker i mod how many there are
abbrev pub dealt_below : ℕ → ℕ → List ℕ → ℕ → List ℕ
dealt_below workers worker pages zero = []
dealt_below workers worker pages (suc i) = if i % workers == worker then dealt_below workers worker pages i ++ slice_index pages i ∷ [] else dealt_below workers worker pages i

-- of all pages
abbrev pub dealt : ℕ → ℕ → List ℕ → List ℕ
dealt workers worker pages = dealt_below workers worker pages (length pages)

-- what the workers below n are dealt, in turn
abbrev pub hands_below : ℕ → List ℕ → ℕ → List (List ℕ)
hands_below workers pages zero = []
hands_below workers pages (suc n) = hands_below workers pages n ++ dealt workers n pages ∷ []

-- what each worker is dealt
abbrev pub hands : ℕ → List ℕ → List (List ℕ)
hands workers pages = hands_below workers pages workers
