-- The rule of the cell: how many transactions were started, committed and rolled back.
use Rattle.std.specs.Prelude.{◌≡◌, ℕ, ◌+◌, ◌≤◌, List, [], ◌∷◌, slice_index, true, false}
use mathlib.Core.Option.{some}
use lib.ListN.{get_elem?}
use Rattle.im_front_stats.specs.declared.version_rule.Known.{Known}

-- how many were started
abbrev pub started : List ℕ → ℕ
started counts = slice_index counts 0

-- how many committed
abbrev pub committed_count : List ℕ → ℕ
committed_count counts = slice_index counts 1

-- how many were rolled back
abbrev pub rolled_back : List ℕ → ℕ
rolled_back counts = slice_index counts 2

-- no transaction yet
abbrev pub nothing : List ℕ
nothing = 0 ∷ 0 ∷ 0 ∷ []

-- the pass that writes, and wrote these last
abbrev pub writer : List ℕ → Known
writer counts = record { writes = true; seen = counts }

-- a pass that reads, and read these last
abbrev pub reader : List ℕ → Known
reader counts = record { writes = false; seen = counts }

-- no more have ended than were started
abbrev pub IsSound : List ℕ → Type 0
IsSound counts = committed_count counts + rolled_back counts ≤ started counts

-- no count fell
abbrev pub NoLess : List ℕ → List ℕ → Type 0
NoLess old new = (started old ≤ started new) × (committed_count old ≤ committed_count new) × (rolled_back old ≤ rolled_back new)

-- what the rule says of one pass: who writes is the one in this seat and knows the counts, and no one has seen more
abbrev pub FitsRule : ℕ → List ℕ → ℕ → Known → Type 0
FitsRule seat counts by v = (v.writes ≡ true → (by ≡ seat) × (v.seen ≡ counts)) × NoLess v.seen counts

-- the rule: the counts are sound, the one writer wrote them last, and no one has seen more
abbrev pub Kept : List ℕ → List Known → Type 0
Kept counts views = IsSound counts × (seat : ℕ) × ((by : ℕ) (v : Known) → get_elem? views by ≡ some v → FitsRule seat counts by v)

-- the first kind of step: the writer put other counts in the place of those that it wrote last
abbrev pub StoresCounts : Known → List ℕ → List ℕ → Known → Type 0
StoresCounts v before after w = (before ≡ v.seen) × (w ≡ writer after)

-- the second kind: a reader read the counts, all of one moment
abbrev pub Loaded : Known → List ℕ → List ℕ → Known → Type 0
Loaded v before after w = (w ≡ reader before) × IsSound before × NoLess v.seen before
