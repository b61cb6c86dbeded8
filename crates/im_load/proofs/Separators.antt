-- The separators of a page at the right edge rise; what a held page takes.
use Rattle.std.proofs.Common.{◌≡◌, ℕ, suc, ◌+◌, ◌-◌, ◌<◌, ◌≤◌, Bool, true, List, [], ◌∷◌, ◌++◌, map, length, sym, ◌∙◌, ap, subst, append_assoc, arith, ◌↔◌}
use Rattle.std.specs.Prelude.{IsTrue}
use Rattle.std.proofs.lemmas.List.{map-append}
use Rattle.std.proofs.lemmas.List.Concat.{flat_map-append}
use Rattle.im_base_types.specs.Keys.{Key}
use Rattle.im_base_types.specs.Pages.{Entry, Body}
use Rattle.im_base_types.specs.declared.page_kind.PageKind.TheVariants.{Leaf, Inner}
use Rattle.im_theory_page.specs.Entry.{taken, size, width}
use Rattle.im_theory_page.specs.Page.{is_leaf_kind}
use Rattle.im_theory_tree.specs.Levels.{Pages, Node, child_of, children, below, leaves_under, the_root, height, lifted}
use Rattle.im_theory_tree.proofs.Cited.{leaves_descend, ordered_bounds, bounds_of_level, first_child}
use Rattle.im_theory_tree.proofs.Bounds.{BoundsAscend, bounds_right, bounds_over}
use Rattle.im_load.specs.Edge.{IsAboveAll, Stands}
use Rattle.im_load.proofs.Edges.{lifted_sum, edge_at}
use Rattle.im_load.specs.Held.{Numbered, TakesLast, held_page}
use Rattle.im_load.specs.Room.{FitsLongest}
use Rattle.im_load.specs.Loading.{HasTakenAll, Pending}
use Rattle.im_load.proofs.Holdings.{apart_of}
use Rattle.im_load.proofs.Lasts.{leaf_kind, top_of_leaf}

-- what stands before a separator is below it
front_low : (front : List Entry) (e : Entry) (rest : List Node) → BoundsAscend (map child_of front ++ child_of e ∷ rest) → IsAboveAll e.0 front
front_low [] e rest h = tt
front_low (x ∷ front) e rest h = ((bounds_over (child_of x) (map child_of front) (child_of e ∷ rest) h).0, front_low front e rest h.1)

pub separators_rise : (pages : Pages) (at : ℕ → ℕ) (es : List Entry) (k : ℕ) (front : List Entry) (e : Entry) → Stands pages at [] es → k < height pages → (pages (at (suc k))).entries ≡ front ++ e ∷ []
    → IsAboveAll e.0 front
separators_rise pages at es k front e s lt are =
    let d : ℕ = height pages - suc k in
    let w = edge_at pages at s.edge d (suc k) (omega (arith, lt)) in
    let n : Node = w.node in
    let tall : height pages ≡ lifted d (suc k) = sym (lifted_sum d (suc k) ∙ (let sum : d + suc k ≡ height pages = omega (arith, lt) in sum)) in
    let leaves : leaves_under pages (height pages) the_root ≡ leaves_under pages k (below pages (w.left ++ n ∷ [])) =
    ap (λ (h : ℕ). leaves_under pages h the_root) tall ∙ leaves_descend pages d (suc k) the_root ∙ ap (λ (ns : List Node). leaves_under pages k (below pages ns)) w.down in
    let bounds : BoundsAscend (below pages (w.left ++ n ∷ [])) =
    bounds_of_level pages k (below pages (w.left ++ n ∷ [])) (subst BoundsAscend leaves (ordered_bounds pages (leaves_under pages (height pages) the_root) s.good.ordered)) in
    let here : BoundsAscend (first_child pages n ∷ map child_of (pages n.page).entries ++ []) =
    bounds_right (below pages w.left) (children pages n ++ []) (subst BoundsAscend (flat_map-append (children pages) w.left (n ∷ [])) bounds) in
    let own : (pages n.page).entries ≡ front ++ e ∷ [] = ap (λ (x : ℕ). (pages x).entries) w.page ∙ are in
    let split : map child_of (pages n.page).entries ++ [] ≡ map child_of front ++ (child_of e ∷ []) =
    ap (λ (xs : List Entry). map child_of xs ++ []) own ∙ ap (λ (ns : List Node). ns ++ []) (map-append child_of front (e ∷ [])) ∙ append_assoc (map child_of front) (child_of e ∷ []) [] in
    front_low front e [] (subst BoundsAscend split here.1)

-- room for the longest key is room for any
room_for : (b : Bool) (es : List Entry) (e : Entry) → length e.0 ≤ 255 → taken b es + (1 + 255 + width b + 2) ≤ 4064 → taken b es + size b e + 2 ≤ 4064
room_for b es e short fits = omega (arith, short, fits)

room_by : (open_is : Bool) (b : Bool) (es : List Entry) (e : Entry) → open_is ≡ true → length e.0 ≤ 255 → (IsTrue open_is ↔ (taken b es + (1 + 255 + width b + 2) ≤ 4064)) → taken b es + size b e + 2 ≤ 4064
room_by open_is b es e opened short says = room_for b es e short (says.0 opened)

-- the page above takes the separator that waits
pub takes_separator : (leaf : Numbered) (above : List Numbered) (count : ℕ) (tells : Type 0) (file : List ℕ) (es : List Entry) (i : ℕ) (key : Key) (child : ℕ) (open_is : Bool)
    → Pending leaf above count tells file es i key child → open_is ≡ true
    → (IsTrue open_is ↔ FitsLongest (held_page above i).1) → 1 ≤ length key → length key ≤ 255 → TakesLast Inner (held_page above i).1 (key, child)
takes_separator leaf above count tells file es i key child open_is t opened says some short =
    let tall : i < height t.pages = omega (arith, t.within, t.holds.tall) in
    let level = (apart_of t.pages t.at es t.holds.stands).levels (suc i) (omega (arith, tall)) in
    record {
      kind_is = sym (ap (λ (b : Body). b.kind) t.waits) ∙ level.0;
      top = separators_rise t.pages t.at es i (held_page above i).1.body.entries (key, child) t.holds.stands tall (ap (λ (b : Body). b.entries) t.waits);
      keyed = some;
      short = short;
      room = room_by open_is (is_leaf_kind (held_page above i).1.body.kind) (held_page above i).1.body.entries (key, child) opened short says;
    }

-- the last leaf takes an entry that is above all
pub takes_entry : (leaf : Numbered) (above : List Numbered) (count : ℕ) (tells : Type 0) (file : List ℕ) (es : List Entry) (e : Entry) (open_is : Bool) → HasTakenAll leaf above count tells file es → open_is ≡ true
    → (IsTrue open_is ↔ FitsLongest leaf.1) → IsAboveAll e.0 es → 1 ≤ length e.0 → length e.0 ≤ 255
    → TakesLast Leaf leaf.1 e
takes_entry leaf above count tells file es e open_is t opened says top some short = record {
  kind_is = leaf_kind leaf above count tells file es t;
  top = top_of_leaf leaf above count tells file es e.0 t top;
  keyed = some;
  short = short;
  room = room_by open_is (is_leaf_kind leaf.1.body.kind) leaf.1.body.entries e opened short says;
}
