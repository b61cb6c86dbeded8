-- What a load stands for: one effect, which puts each entry.
use Rattle.std.specs.Prelude.{ℕ, List, [], ◌∷◌}
use Rattle.im_base_types.specs.Changes.{Put, Effect}
use Rattle.im_base_types.specs.Maps.{IndexMap}
use Rattle.im_base_types.specs.Pages.{Entry, Page}
use Rattle.im_theory_log.specs.Histories.{Base}
use Rattle.im_theory_tree.specs.Levels.{Pages}

-- changes, the newest first, with these entries put after them
abbrev pub puts_onto : Effect → List Entry → Effect
puts_onto cs [] = cs
puts_onto cs (e ∷ es) = puts_onto (Put e.0 e.1 ∷ cs) es

-- the effect of a load
abbrev pub load_effect : List Entry → Effect
load_effect es = puts_onto [] es

-- the effects that a loaded store stands for: one, or none where nothing was loaded
abbrev pub effects_of : List Entry → List Effect
effects_of [] = []
effects_of (e ∷ es) = load_effect (e ∷ es) ∷ []

-- a page that no record has changed
abbrev pub unlogged : Pages → ℕ → Page
unlogged pages p = record { lsn = 0; body = pages p }

-- what the log of a loaded store is over: these pages, and the map of the load
abbrev pub loaded_base : Pages → IndexMap → ℕ → Base
loaded_base pages map start = record { pages = unlogged pages; map = map; start = start }
