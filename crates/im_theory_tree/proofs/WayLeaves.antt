-- The leaves after each step of a structure change.
use Rattle.std.proofs.Common.{◌≡◌, ◌≢◌, ℕ, zero, suc, List, [], ◌∷◌, ◌++◌, None, refl, ap, subst, ◌∙◌}
use Rattle.im_base_types.specs.Pages.{Entry}
use Rattle.im_theory_tree.specs.Deletions.{bare_leaf, DropsChildOf, DropsFirstOf, EmptiesRoot}
use Rattle.im_theory_tree.specs.Good.{AreOrdered}
use Rattle.im_theory_tree.specs.Levels.{Pages, Node, below, leaves_under, pages_under, the_root, height, lifted}
use Rattle.im_theory_tree.specs.Splits.{SplitsLeafOf, SplitsLeafRootOf, SplitsInnerOf, SplitsRootOf}
use Rattle.im_theory_tree.proofs.Order.{ordered_right}
use Rattle.im_theory_tree.proofs.Way.{lifted_more}
use Rattle.im_theory_tree.proofs.Descent.{leaves_descend}
use Rattle.im_theory_tree.proofs.LeafSplit.{front, back, the_new, leaves_are, leaf_split}
use Rattle.im_theory_tree.proofs.LeafSplitWay.{level_after}
use Rattle.im_theory_tree.proofs.InnerSplit.{inner_level, inner_rest, inner_split, rest_leaves, root_rest, root_split}
use Rattle.im_theory_tree.proofs.RootSplit.{leaf_root_split}
use Rattle.im_theory_tree.proofs.DropChild.{bare_leaves, child_gone}
use Rattle.im_theory_tree.proofs.DropFirst.{rebound, first_gone}
use Rattle.im_theory_tree.proofs.EmptyRoot.{empty_root}
use Rattle.im_theory_tree.specs.Ways.{KeepsWays}
use Rattle.im_theory_tree.proofs.WayRanges.{ways_by_ranges, ways_by_leaves, put_behind, dropped_behind, dropped_first, alone}

-- A LEAF IS SPLIT: one node comes in after its own
pub leaf_split_ways : (pages new : Pages) (spare : List ℕ) (d : ℕ) (a b : List Node) (parent : Node) (before after : List Node) (n : Node) (q : ℕ) (s : List ℕ)
    → SplitsLeafOf pages new spare d a b parent before after n q s → KeepsWays pages new (λ x. x ≢ n.page)
leaf_split_ways pages new spare d a b parent before after n q s h =
    let level = level_after pages new spare d a b parent before after n q s h in
    let tall : height new ≡ lifted (suc d) zero = level.tall ∙ h.tall ∙ lifted_more d zero in
    ways_by_ranges pages new spare (front pages a before ++ n ∷ back pages b after) (front pages a before ++ n ∷ the_new q s ∷ back pages b after) (λ x. x ≢ n.page)
    (leaf_split pages new spare d a b parent before after n q s h).0
    (leaves_are pages new spare d a b parent before after n q s h)
    (ap (λ k. leaves_under new k the_root) tall ∙ leaves_descend new (suc d) zero the_root ∙ level.down)
    (put_behind (front pages a before) (back pages b after) n (the_new q s))

-- A ROOT THAT IS A LEAF: no other leaf was there
pub leaf_root_split_ways : (pages new : Pages) (spare : List ℕ) (left right : ℕ) (s : List ℕ) → SplitsLeafRootOf pages new spare left right s → KeepsWays pages new (λ x. x ≢ 1)
leaf_root_split_ways pages new spare left right s h =
    ways_by_ranges pages new spare the_root (leaves_under new (height new) the_root) (λ x. x ≢ 1) (leaf_root_split pages new spare left right s h).0
    (ap (λ k. leaves_under pages k the_root) h.tall) refl (alone (record { bound = None; page = 1 }) (leaves_under new (height new) the_root))

-- AN INNER ROOT: the leaves are the same
pub root_split_leaves : (pages new : Pages) (spare : List ℕ) (h left right : ℕ) (up : Entry) → SplitsRootOf pages new spare h left right up
    → leaves_under new (height new) the_root ≡ leaves_under pages (height pages) the_root
root_split_leaves pages new spare h left right up s = rest_leaves pages new (left ∷ right ∷ spare) spare (leaves_under pages h (below pages the_root)) (root_rest pages new spare h left right up s)

pub root_split_ways : (pages new : Pages) (spare : List ℕ) (h left right : ℕ) (up : Entry) → SplitsRootOf pages new spare h left right up → KeepsWays pages new (λ x. Unit {0})
root_split_ways pages new spare h left right up s =
    ways_by_leaves pages new spare (root_split pages new spare h left right up s).0 (root_split_leaves pages new spare h left right up s)

-- AN INNER PAGE: the leaves are the same
pub inner_split_leaves : (pages new : Pages) (spare : List ℕ) (d h : ℕ) (a b : List Node) (parent : Node) (before after : List Node) (n : Node) (q : ℕ) (up : Entry)
    → SplitsInnerOf pages new spare d h a b parent before after n q up → leaves_under new (height new) the_root ≡ leaves_under pages (height pages) the_root
inner_split_leaves pages new spare d h a b parent before after n q up s =
    rest_leaves pages new (q ∷ spare) spare (leaves_under pages h (below pages (inner_level pages a b before after n))) (inner_rest pages new spare d h a b parent before after n q up s)

pub inner_split_ways : (pages new : Pages) (spare : List ℕ) (d h : ℕ) (a b : List Node) (parent : Node) (before after : List Node) (n : Node) (q : ℕ) (up : Entry)
    → SplitsInnerOf pages new spare d h a b parent before after n q up → KeepsWays pages new (λ x. Unit {0})
inner_split_ways pages new spare d h a b parent before after n q up s =
    ways_by_leaves pages new spare (inner_split pages new spare d h a b parent before after n q up s).0 (inner_split_leaves pages new spare d h a b parent before after n q up s)

-- A CHILD BEHIND ANOTHER GOES: its leaf goes, and the range of the leaf before it grows
pub drop_child_ways : (pages new : Pages) (spare : List ℕ) (d h : ℕ) (a b : List Node) (parent : Node) (before after : List Node) (last c : Node)
    → DropsChildOf pages new spare d h a b parent before after last c → KeepsWays pages new (λ x. x ≢ (bare_leaf pages h c).page)
drop_child_ways pages new spare d h a b parent before after last c s =
    let leaf = bare_leaf pages h c in
    let gone = child_gone pages new spare d h a b parent before after last c s in
    let ordered : AreOrdered pages (gone.front ++ gone.last ∷ leaf ∷ gone.back) = subst (AreOrdered pages) gone.was s.good.ordered in
    let here = ordered_right pages gone.front (gone.last ∷ leaf ∷ gone.back) ordered in
    ways_by_ranges pages new (pages_under pages h (c ∷ []) ++ spare) (gone.front ++ gone.last ∷ leaf ∷ gone.back) (gone.front ++ gone.last ∷ gone.back) (λ x. x ≢ leaf.page) gone.good gone.was gone.now
    (dropped_behind gone.front gone.back gone.last leaf here.1 here.2.1)

-- THE FIRST CHILD GOES: its leaf goes, and the next one takes its bound
pub drop_first_ways : (pages new : Pages) (spare : List ℕ) (d h : ℕ) (a b : List Node) (parent : Node) (after : List Node) (c r : Node)
    → DropsFirstOf pages new spare d h a b parent after c r → KeepsWays pages new (λ x. x ≢ (bare_leaf pages h c).page)
drop_first_ways pages new spare d h a b parent after c r s =
    let leaf = bare_leaf pages h c in
    let gone = first_gone pages new spare d h a b parent after c r s in
    let ordered : AreOrdered pages (gone.front ++ leaf ∷ gone.next ∷ gone.back) = subst (AreOrdered pages) gone.was s.good.ordered in
    let here = ordered_right pages gone.front (leaf ∷ gone.next ∷ gone.back) ordered in
    ways_by_ranges pages new (pages_under pages h (c ∷ []) ++ spare) (gone.front ++ leaf ∷ gone.next ∷ gone.back) (gone.front ++ rebound leaf.bound gone.next ∷ gone.back) (λ x. x ≢ leaf.page)
    gone.good gone.was gone.now (dropped_first gone.front gone.back leaf gone.next here.1)

-- THE ROOT LEFT WITHOUT A CHILD: its only leaf goes
pub empty_root_ways : (pages new : Pages) (spare : List ℕ) (h : ℕ) → EmptiesRoot pages new spare h → KeepsWays pages new (λ x. x ≢ (bare_leaf pages (suc h) (record { bound = None; page = 1 })).page)
empty_root_ways pages new spare h s =
    let root : Node = record { bound = None; page = 1 } in
    let leaf = bare_leaf pages (suc h) root in
    let was : leaves_under pages (height pages) the_root ≡ leaf ∷ [] = ap (λ k. leaves_under pages k the_root) s.tall ∙ (bare_leaves pages (suc h) root s.bare).0 in
    ways_by_ranges pages new (pages_under pages h (below pages the_root) ++ spare) (leaf ∷ []) (leaves_under new (height new) the_root) (λ x. x ≢ leaf.page) (empty_root pages new spare h s).0
    was refl (alone leaf (leaves_under new (height new) the_root))
