-- The bounds of every level rise, as those of the leaves do.
use Rattle.std.proofs.Common.{◌≡◌, ℕ, zero, suc, List, [], ◌∷◌, ◌++◌, map, Option, Some, None, ap, subst, ◌∙◌, append_assoc}
use Rattle.std.proofs.lemmas.List.{map-append}
use Rattle.std.proofs.lemmas.List.Concat.{flat_map-append}
use Rattle.im_base_types.specs.Keys.{Key}
use Rattle.im_base_types.specs.Pages.{Entry}
use Rattle.im_theory_tree.specs.Levels.{Pages, Node, child_of, children, below, leaves_under}
use Rattle.im_theory_tree.specs.Good.{IsUnder, IsAfter, BoundsFollow, next_bound, AreOrdered}
use Rattle.im_theory_tree.proofs.DropLeaf.{follow_over}
use Rattle.im_theory_tree.proofs.ChildPlaces.{first_child}

-- each bound is above the one before it
abbrev pub BoundsAscend : List Node → Type 0
BoundsAscend [] = Unit {0}
BoundsAscend (n ∷ ns) = BoundsFollow n.bound ns × BoundsAscend ns

pub ordered_bounds : (pages : Pages) (ns : List Node) → AreOrdered pages ns → BoundsAscend ns
ordered_bounds pages [] h = tt
ordered_bounds pages (n ∷ ns) h = (h.1, ordered_bounds pages ns h.2)

pub bounds_right : (a b : List Node) → BoundsAscend (a ++ b) → BoundsAscend b
bounds_right [] b h = h
bounds_right (n ∷ a) b h = bounds_right a b h.1

-- over nodes between
pub bounds_over : (n : Node) (w rest : List Node) → BoundsAscend (n ∷ w ++ rest) → BoundsFollow n.bound rest × BoundsAscend rest
bounds_over n [] rest h = h
bounds_over n (m ∷ w) rest h =
    let r = bounds_over m w rest h.1 in
    (follow_over n.bound m.bound rest h.0 r.0, r.1)

bounds_under : (pages : Pages) (low : Option Key) (ns : List Node) → BoundsFollow low (below pages ns) → BoundsFollow low ns
bounds_under pages low [] h = tt
bounds_under pages low (n ∷ ns) h = h

-- the level above has the first bounds of its children
pub bounds_up : (pages : Pages) (ns : List Node) → BoundsAscend (below pages ns) → BoundsAscend ns
bounds_up pages [] h = tt
bounds_up pages (n ∷ ns) h =
    let r = bounds_over (first_child pages n) (map child_of (pages n.page).entries) (below pages ns) h in
    (bounds_under pages n.bound ns r.0, bounds_up pages ns r.1)

pub bounds_of_level : (pages : Pages) (h : ℕ) (ns : List Node) → BoundsAscend (leaves_under pages h ns) → BoundsAscend ns
bounds_of_level pages zero ns b = b
bounds_of_level pages (suc h) ns b = bounds_up pages ns (bounds_of_level pages h (below pages ns) b)

pub under_follows : (s : Key) (ns : List Node) → BoundsFollow (Some s) ns → IsUnder s (next_bound ns)
under_follows s [] h = tt
under_follows s (n ∷ ns) h = under_of s n.bound h
  where
    under_of : (k : Key) (high : Option Key) → IsAfter (Some k) high → IsUnder k high
    under_of k None a = absurd a
    under_of k (Some b) a = a

-- an entry of an inner page is above the page's bound and under the next one
pub separator_in_range : (pages : Pages) (fr : List Node) (c : Node) (bk : List Node) (u : List Entry) (e : Entry) (v : List Entry) → (pages c.page).entries ≡ u ++ e ∷ v
    → BoundsAscend (below pages (fr ++ c ∷ bk)) → IsAfter c.bound (Some e.0) × IsUnder e.0 (next_bound bk)
separator_in_range pages fr c bk u e v are h =
    let here : BoundsAscend (first_child pages c ∷ map child_of (pages c.page).entries ++ below pages bk) =
    bounds_right (below pages fr) (children pages c ++ below pages bk) (subst BoundsAscend (flat_map-append (children pages) fr (c ∷ bk)) h) in
    let split : map child_of (pages c.page).entries ++ below pages bk ≡ map child_of u ++ (child_of e ∷ (map child_of v ++ below pages bk)) =
    ap (λ (es : List Entry). map child_of es ++ below pages bk) are ∙ ap (λ ns. ns ++ below pages bk) (map-append child_of u (e ∷ v))
    ∙ append_assoc (map child_of u) (child_of e ∷ map child_of v) (below pages bk) in
    let at = bounds_over (first_child pages c) (map child_of u) (child_of e ∷ (map child_of v ++ below pages bk)) (subst (λ ns. BoundsAscend (first_child pages c ∷ ns)) split here) in
    let behind = bounds_over (child_of e) (map child_of v) (below pages bk) at.1 in
    (at.0, under_follows e.0 bk (bounds_under pages (Some e.0) bk behind.0))
