-- The levels of pages on the way to a key, and one step down.
use Rattle.std.proofs.Common.{◌≡◌, ◌≤◌, ◌-◌, ℕ, List, Bool, if◌then◌else◌, zero, suc, sym, ◌∙◌, ap, subst, arith}
use Rattle.std.specs.Prelude.{Result, Ok, Err, IfOk}
use Rattle.std.proofs.Math.Dec.{eqb-suc-zero}
use Rattle.im_base_types.specs.declared.fault.Fault.{Fault}
use Rattle.im_base_types.specs.Keys.{Key}
use Rattle.im_base_types.specs.declared.page_kind.PageKind.TheVariants.{Leaf, Inner}
use Rattle.im_theory_page.specs.Child.{IsChild}
use Rattle.im_page_pool.specs.declared.frame.Frame.{Frame}
use Rattle.im_page_pool.specs.Pool.{PoolView, page_at}
use Rattle.im_page_writer.specs.Outcome.{AllPages, IsSound}
use Rattle.im_theory_tree.specs.Levels.{Pages, height}
use Rattle.im_theory_tree.specs.Good.{IsGoodTree}
use Rattle.im_theory_tree.specs.Search.{IsOnWay}
use Rattle.im_theory_tree.proofs.Cited.{way_leaf, way_inner, step_way, way_begins}
use Rattle.im_tree_search.specs.Levels.{HasLevel, bodies_of, kind_at}
use Rattle.im_tree_search.specs.Found.{IsReached}

pub inner_kind : (k : ℕ) → kind_at (suc k) ≡ Inner
inner_kind k = ap (λ (b : Bool). if b then Leaf else Inner) (eqb-suc-zero k)

pub way_level : (pages : Pages) (h : ℕ) (key : Key) (p : ℕ) → IsOnWay pages h key p → HasLevel h (pages p)
way_level pages zero key p way = let leaf = way_leaf pages key p way in record { kind = leaf.0; level = leaf.1 }
way_level pages (suc k) key p way = let inner = way_inner pages k key p way in record { kind = inner.0 ∙ sym (inner_kind k); level = inner.1 }

-- a step down, at the level that the code counts
pub step_level : (pages : Pages) (h : ℕ) (key : Key) (p child : ℕ) → 1 ≤ h → IsOnWay pages h key p → IsChild (pages p) key child → IsOnWay pages (h - 1) key child
step_level pages zero key p child some way is = absurd (omega (arith, some))
step_level pages (suc k) key p child some way is = let e : suc k - 1 ≡ k = omega arith in subst (λ (m : ℕ). IsOnWay pages m key child) (sym e) (step_way pages k key p child way is)

-- page 1 is of its level
pub root_level : (pages : AllPages) (key : Key) (spare : List ℕ) → IsGoodTree (bodies_of pages) spare → HasLevel (pages 1).body.level (pages 1).body
root_level pages key spare good = way_level (bodies_of pages) (height (bodies_of pages)) key 1 (way_begins (bodies_of pages) spare key good)

-- it is where the way begins
pub root_shown : (pages : AllPages) (key : Key) (n : ℕ) (pool : PoolView) (spare : List ℕ) → IsGoodTree (bodies_of pages) spare → page_at pool n ≡ pages 1 → n ≡ 1 → IsReached pages key (height (bodies_of pages)) n pool
root_shown pages key n pool spare good shown is =
    subst (λ (m : ℕ). IsReached pages key (height (bodies_of pages)) m pool) (sym is)
    (record { shown = ap (page_at pool) (sym is) ∙ shown; way = way_begins (bodies_of pages) spare key good })

pub root_reached : (r : Result Frame Fault) (pages : AllPages) (key : Key) (pool : PoolView) (spare : List ℕ) → IsGoodTree (bodies_of pages) spare → IsSound r (λ frame. page_at pool frame.number ≡ pages 1) → IfOk r (λ frame. frame.number ≡ 1)
    → IsSound r (λ frame. IsReached pages key (height (bodies_of pages)) frame.number pool)
root_reached (Ok frame) pages key pool spare good shown is = root_shown pages key frame.number pool spare good shown is
root_reached (Err e) pages key pool spare good sound is = sound
