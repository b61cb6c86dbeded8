-- The search along the leaf chain.
use Rattle.std.proofs.Common.{◌≡◌, ◌≤◌, ◌<◌, ◌+◌, ℕ, suc, Bool, true, false, List, Some, None, refl, sym, ◌∙◌, ap, subst, arith}
use Rattle.im_base_types.specs.Keys.{Key}
use Rattle.im_base_types.specs.Pages.{Body, Page}
use Rattle.im_base_types.specs.Maps.{Start, first_in}
use Rattle.im_theory_page.specs.Entry.{entry_at}
use Rattle.im_theory_tree.specs.Levels.{Pages, walk}
use Rattle.im_theory_tree.specs.Good.{IsGoodTree}
use Rattle.im_theory_tree.specs.Search.{IsOnWay}
use Rattle.im_theory_tree.specs.Lookups.{IsAhead, key_of}
use Rattle.im_theory_tree.proofs.LookupLemmas.{way_known, ahead_begins, ahead_is_leaf, ahead_answers, ahead_goes_on}
use Rattle.im_tree_search.specs.Levels.{HasLevel, start_at}

-- the key that a start names
pub start_key : (inclusive : Bool) (key : Key) → key ≡ key_of (start_at inclusive key)
start_key true key = refl
start_key false key = refl

-- the search begins at the leaf of the key
pub ahead_here : (pages : Pages) (spare : List ℕ) (inclusive : Bool) (key : Key) (p : ℕ) → IsGoodTree pages spare → IsOnWay pages 0 key p → IsAhead pages (start_at inclusive key) 0 p
ahead_here pages spare inclusive key p good way = ahead_begins pages spare (start_at inclusive key) p good (subst (λ (k : Key). IsOnWay pages 0 k p) (start_key inclusive key) way)

-- an entry past the start, where the search has come, is the first of the walk
pub ahead_answer : (pages : Pages) (s : Start) (passed p : ℕ) (lent held : Page) (at : ℕ) → IsAhead pages s passed p → 1 ≤ p → lent ≡ held → held.body ≡ pages p
    → first_in s lent.body.entries ≡ Some (entry_at lent.body.entries at) → Some (entry_at held.body.entries at) ≡ first_in s (walk pages)
ahead_answer pages s passed p lent held at ahead some same is first =
    let here : first_in s (pages p).entries ≡ Some (entry_at (pages p).entries at) = subst (λ (x : Body). first_in s x.entries ≡ Some (entry_at x.entries at)) (ap (λ (g : Page). g.body) same ∙ is) first in
    ap (λ (x : Body). Some (entry_at x.entries at)) is ∙ sym (ahead_answers pages s passed p (entry_at (pages p).entries at) ahead some here)

-- and where the page has none, the search goes on
pub ahead_next : (pages : Pages) (spare : List ℕ) (s : Start) (passed p : ℕ) (lent held : Page) → IsGoodTree pages spare → IsAhead pages s passed p → 1 ≤ p → lent ≡ held → held.body ≡ pages p
    → first_in s lent.body.entries ≡ None → IsAhead pages s (suc passed) lent.body.next
ahead_next pages spare s passed p lent held good ahead some same is none =
    let body : lent.body ≡ pages p = ap (λ (g : Page). g.body) same ∙ is in
    subst (λ (x : Body). IsAhead pages s (suc passed) x.next) (sym body) (ahead_goes_on pages spare s passed p good ahead some (subst (λ (x : Body). first_in s x.entries ≡ None) body none))

-- the leaves passed are at least none
pub ahead_any : (pages : Pages) (s : Start) (passed p : ℕ) → IsAhead pages s passed p → IsAhead pages s 0 p
ahead_any pages s passed p ahead = record { before = ahead.before; rest = ahead.rest; leaves = ahead.leaves; page = ahead.page; count = omega arith; first = ahead.first }

pub ahead_level : (pages : Pages) (spare : List ℕ) (s : Start) (passed p : ℕ) → IsGoodTree pages spare → IsAhead pages s passed p → 1 ≤ p → HasLevel 0 (pages p)
ahead_level pages spare s passed p good ahead some = let leaf = ahead_is_leaf pages spare s passed p good ahead some in record { kind = leaf.kind; level = leaf.level }

-- a chain with as many leaves as there are pages is none of a good tree
pub chain_ends : (pages : Pages) (spare : List ℕ) (s : Start) (left passed p : ℕ) → IsGoodTree pages spare → IsAhead pages s passed p → 1 ≤ p → left + passed ≡ (pages 0).leftmost → left ≡ 0 → ⊥
chain_ends pages spare s left passed p good ahead some count none = let few : passed + 1 < (pages 0).leftmost = (ahead_is_leaf pages spare s passed p good ahead some).few in omega (arith, few, count, none)

-- where the key's leaf has none, the search goes on after it
pub leads_on : (pages : Pages) (spare : List ℕ) (inclusive : Bool) (key : Key) (p : ℕ) (lent held : Page) (next : ℕ) → IsGoodTree pages spare → IsOnWay pages 0 key p → lent ≡ held → held.body ≡ pages p
    → first_in (start_at inclusive key) lent.body.entries ≡ None → next ≡ lent.body.next → IsAhead pages (start_at inclusive key) 0 next
leads_on pages spare inclusive key p lent held next good way same is none step =
    let here = ahead_here pages spare inclusive key p good way in
    let past = ahead_next pages spare (start_at inclusive key) 0 p lent held good here (way_known pages spare 0 key p good way).0 same is none in
    subst (λ (n : ℕ). IsAhead pages (start_at inclusive key) 0 n) (sym step) (ahead_any pages (start_at inclusive key) 1 lent.body.next past)
