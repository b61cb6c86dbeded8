-- The key after a key.
use Rattle.std.specs.Prelude.{◌≡◌, ◌<◌, ℕ, List, length, Option, Some, None, option_map}
use Rattle.im_base_types.specs.Keys.{Key}
use Rattle.im_base_types.specs.Pages.{Entry}
use Rattle.im_base_types.specs.Maps.{Above, first_in}
use Rattle.im_theory_page.specs.Entry.{entry_at}
use Rattle.im_page_pool.specs.declared.frame.Frame.{Frame}
use Rattle.im_page_pool.specs.Pool.{PoolView, page_at}
use Rattle.im_page_writer.specs.Outcome.{AllPages}
use Rattle.im_theory_tree.specs.Levels.{Pages, walk}
use Rattle.im_tree_search.specs.declared.next_key.NextKey.{NextKey}
use Rattle.im_tree_search.specs.declared.next_key.NextKey.TheVariants.{Here, There, End}
use Rattle.im_tree_search.specs.Levels.{HasLevel, bodies_of}
use Rattle.im_tree_search.specs.Found.{IsReached, entries_of}

-- the first key of the walk above a key
abbrev pub name_above : Key → Pages → Option Key
name_above key pages = option_map (λ (e : Entry). e.0) (first_in (Above key) (walk pages))

-- the key that an answer names, where page p of the pool is the leaf; none at the end
abbrev pub next_name : PoolView → ℕ → NextKey → Option Key
next_name pool p (Here i) = Some (entry_at (entries_of pool p) i).0
next_name pool p (There key) = Some key
next_name pool p End = None

-- the key that an answer copied; none at the end
abbrev pub far_name : NextKey → Option Key
far_name (Here i) = None
far_name (There key) = Some key
far_name End = None

-- it stands in the leaf itself
abbrev pub IsHere : NextKey → Type 0
IsHere (Here i) = Unit {0}
IsHere (There key) = ⊥
IsHere End = ⊥

-- the place that an answer names is one of these entries
abbrev pub IsWithin : List Entry → NextKey → Type 0
IsWithin es (Here i) = i < length es
IsWithin es (There key) = Unit {0}
IsWithin es End = Unit {0}

-- A leaf has this number, and the place that is answered beside it is one of its entries.
pub record IsWithinLeaf (pool : PoolView) (x : Frame × NextKey) : Type 0 where
  pub level : HasLevel 0 (page_at pool x.0.number).body
  pub within : IsWithin (entries_of pool x.0.number) x.1

-- it does not
abbrev pub IsFar : NextKey → Type 0
IsFar (Here i) = ⊥
IsFar (There key) = Unit {0}
IsFar End = Unit {0}

-- The key's leaf is held, and is the writer's, and what is answered beside it names the first key of the walk above the key; by no get, where that key stands in the leaf.
pub record IsNextInLeaf (pages : AllPages) (key : Key) (p : ℕ) (next : NextKey) (old_gets : ℕ) (pool : PoolView) : Type 0 where
  pub leaf : IsReached pages key 0 p pool
  pub name : next_name pool p next ≡ name_above key (bodies_of pages)
  pub gets : IsHere next → pool.gets ≡ old_gets
