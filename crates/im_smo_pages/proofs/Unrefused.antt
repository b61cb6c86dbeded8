-- A page of a good tree that lacks room can be split, under a parent with room.
use Rattle.std.proofs.Common.{◌≡◌, ℕ, zero, suc, ◌+◌, ◌<◌, ◌≤◌, Bool, true, false, List, ◌∷◌, ◌++◌, length, map, take, drop, Some, sym, ap, subst, ◌∙◌, arith}
use Rattle.im_base_types.specs.Keys.{Key, IsBelow}
use Rattle.im_base_types.specs.Pages.{Entry}
use Rattle.im_base_types.specs.declared.page_kind.PageKind.TheVariants.{Leaf, Inner}
use Rattle.im_theory_page.specs.Entry.{entry_at, Rises}
use Rattle.im_theory_page.specs.Child.{IsChild}
use Rattle.im_theory_page.specs.Split.{HasRoom}
use Rattle.im_theory_page.proofs.Order.{below_irrefl}
use Rattle.im_theory_tree.specs.Levels.{Pages, Node, child_of, below, leaves_under, height, the_root}
use Rattle.im_theory_tree.specs.Good.{AllOf, AtOrAbove, IsUnder, InRange, next_bound, IsAfter, AreOrdered, IsGoodTree}
use Rattle.im_theory_tree.specs.Search.{IsOnWay}
use Rattle.im_theory_tree.specs.Halves.{FitsPage, LacksRoom, SplitsWell}
use Rattle.im_theory_tree.proofs.Cited.{AllOf-append, AllOf-from, ordered_right, leaves_descend, step_way, split_at, Ascends, ascends_from_rises, at_all as all_place, splits_well, separator_after, ChildPlace, child_place, children_were, below_at, high_behind, ordered_bounds, bounds_of_level, separator_in_range, way_leaf, way_inner}
use Rattle.im_smo_pages.specs.Bodies.{HasNoKey}
use Rattle.im_smo_pages.specs.Parts.{split_bound, IsPoint, CanHalve, CanSplit}
use Rattle.im_smo_pages.proofs.PartLemmas.{is_bound}

-- keys on both sides of another one
no_key_between : (u v : List Entry) (s : Key) → AllOf (λ (x : Entry). IsBelow x.0 s) u → AllOf (λ (x : Entry). IsBelow s x.0) v → HasNoKey (u ++ v) s
no_key_between u v s low high i within =
    all_place (λ (x : Entry). x.0 ≡ s → ⊥) (u ++ v) i
    (AllOf-append (λ (x : Entry). x.0 ≡ s → ⊥) u v
    (AllOf-from (λ (x : Entry). IsBelow x.0 s) (λ (x : Entry). x.0 ≡ s → ⊥) (λ x h e. below_irrefl s (subst (λ (k : Key). IsBelow k s) e h)) u low)
    (AllOf-from (λ (x : Entry). IsBelow s x.0) (λ (x : Entry). x.0 ≡ s → ⊥) (λ x h e. below_irrefl s (subst (IsBelow s) e h)) v high))
    within

-- a key in the range of a child is no separator of its parent
not_in_parent : (pages : Pages) (parent : Node) (key : Key) (p : ℕ) (b : List Node) (place : ChildPlace pages parent key p) (s : Key) → Rises (pages parent.page).entries
    → IsAfter place.c.bound (Some s) → IsUnder s (next_bound (map child_of place.v ++ below pages b)) → HasNoKey (pages parent.page).entries s
not_in_parent pages parent key p b place s rises after under =
    let ups = subst Ascends place.entries (ascends_from_rises (pages parent.page).entries rises) in
    subst (λ (es : List Entry). HasNoKey es s) (sym place.entries)
    (no_key_between place.u place.v s (place.low s ups after) (high_behind place.u place.v s (below pages b) ups under))

-- the separator of a leaf's split is new in the parent
pub leaf_separator_is_new : (pages : Pages) (spare : List ℕ) (key : Key) (parent p n : ℕ) → IsGoodTree pages spare → IsOnWay pages (suc zero) key parent → IsChild (pages parent) key p
    → Rises (pages parent).entries → Rises (pages p).entries → 1 ≤ n → n < length (pages p).entries → HasNoKey (pages parent).entries (entry_at (pages p).entries n).0
leaf_separator_is_new pages spare key parent p n good way child parent_rises rises some within =
    let place : ChildPlace pages way.node key p = child_place pages way.node key p way.at (subst (λ x. IsChild (pages x) key p) (sym way.page) child) in
    let c = place.c in
    let es : List Entry = (pages c.page).entries in
    let s : Key = (entry_at es n).0 in
    let fr = below pages way.left ++ place.before in
    let bk = map child_of place.v ++ below pages way.right in
    let were = children_were pages way.node place.u place.v place.before c place.entries place.front in
    let are : leaves_under pages (height pages) the_root ≡ fr ++ c ∷ bk =
    ap (λ k. leaves_under pages k the_root) way.tall ∙ leaves_descend pages way.above (suc zero) the_root ∙ ap (below pages) way.down
    ∙ below_at pages way.left way.right way.node place.before c (map child_of place.v) were in
    let here = ordered_right pages fr (c ∷ bk) (subst (AreOrdered pages) are good.ordered) in
    let range : InRange c.bound (next_bound bk) es = here.0 in
    let es_rise : Rises es = subst (λ x. Rises (pages x).entries) (sym place.page) rises in
    let es_within : n < length es = subst (λ x. n < length (pages x).entries) (sym place.page) within in
    let in_range = all_place (λ (e : Entry). AtOrAbove c.bound e.0 × IsUnder e.0 (next_bound bk)) es n range es_within in
    let above : IsAfter c.bound (Some s) = separator_after c.bound (next_bound bk) es n es_rise range some es_within in
    let none : HasNoKey (pages way.node.page).entries s = not_in_parent pages way.node key p way.right place s (subst (λ x. Rises (pages x).entries) (sym way.page) parent_rises) above in_range.1 in
    subst (λ x. HasNoKey (pages x).entries (entry_at (pages p).entries n).0) way.page (subst (λ x. HasNoKey (pages way.node.page).entries (entry_at (pages x).entries n).0) place.page none)

-- and so is the key that an inner page's split moves up
pub inner_separator_is_new : (pages : Pages) (spare : List ℕ) (h : ℕ) (key : Key) (parent p n : ℕ) → IsGoodTree pages spare → IsOnWay pages (suc (suc h)) key parent → IsChild (pages parent) key p
    → Rises (pages parent).entries → n < length (pages p).entries → HasNoKey (pages parent).entries (entry_at (pages p).entries n).0
inner_separator_is_new pages spare h key parent p n good way child parent_rises within =
    let place : ChildPlace pages way.node key p = child_place pages way.node key p way.at (subst (λ x. IsChild (pages x) key p) (sym way.page) child) in
    let c = place.c in
    let es : List Entry = (pages c.page).entries in
    let up : Entry = entry_at es n in
    let fr = below pages way.left ++ place.before in
    let bk = map child_of place.v ++ below pages way.right in
    let were = children_were pages way.node place.u place.v place.before c place.entries place.front in
    let are : leaves_under pages (height pages) the_root ≡ leaves_under pages h (below pages (fr ++ c ∷ bk)) =
    ap (λ k. leaves_under pages k the_root) way.tall ∙ leaves_descend pages way.above (suc (suc h)) the_root ∙ ap (leaves_under pages (suc (suc h))) way.down
    ∙ ap (leaves_under pages (suc h)) (below_at pages way.left way.right way.node place.before c (map child_of place.v) were) in
    let bounds = bounds_of_level pages h (below pages (fr ++ c ∷ bk)) (ordered_bounds pages (leaves_under pages h (below pages (fr ++ c ∷ bk))) (subst (AreOrdered pages) are good.ordered)) in
    let es_within : n < length es = subst (λ x. n < length (pages x).entries) (sym place.page) within in
    let range = separator_in_range pages fr c bk (take n es) up (drop (n + 1) es) (split_at es n es_within) bounds in
    let none : HasNoKey (pages way.node.page).entries up.0 = not_in_parent pages way.node key p way.right place up.0 (subst (λ x. Rises (pages x).entries) (sym way.page) parent_rises) range.0 range.1 in
    subst (λ x. HasNoKey (pages x).entries (entry_at (pages p).entries n).0) way.page (subst (λ x. HasNoKey (pages way.node.page).entries (entry_at (pages x).entries n).0) place.page none)

-- a leaf that lacks room, under a parent with room
pub leaf_can_split : (dense : Bool) (pages : Pages) (spare : List ℕ) (key : Key) (parent p q : ℕ) (e : Entry) → IsGoodTree pages spare → IsOnWay pages (suc zero) key parent → IsChild (pages parent) key p
    → Rises (pages parent).entries → Rises (pages p).entries → FitsPage true (pages p).entries → LacksRoom true (pages p).entries e
    → ((n : ℕ) → IsPoint dense true (pages p) n → HasRoom false (pages parent).entries ((entry_at (pages p).entries n).0, q))
    → CanSplit dense Leaf (pages p) (pages parent) q
leaf_can_split dense pages spare key parent p q e good way child parent_rises rises fits lacks room =
    let well : (n : ℕ) → IsPoint dense true (pages p) n → SplitsWell true (pages p).entries n = λ n point. splits_well (split_bound true dense (pages p).next) true (pages p).entries n e (is_bound true dense (pages p).next) fits point lacks in
    record {
      halves = record { kind = (way_leaf pages key p (step_way pages zero key parent p way child)).0; well = well };
      takes = λ n point. record {
        inner = (way_inner pages zero key parent way).0;
        absent = leaf_separator_is_new pages spare key parent p n good way child parent_rises rises (well n point).left (omega (arith, (well n point).right));
        room = room n point;
      };
    }

-- an inner page that lacks room, under a parent with room
pub inner_can_split : (pages : Pages) (spare : List ℕ) (h : ℕ) (key : Key) (parent p q : ℕ) (e : Entry) → IsGoodTree pages spare → IsOnWay pages (suc (suc h)) key parent
    → IsChild (pages parent) key p → Rises (pages parent).entries → FitsPage false (pages p).entries → LacksRoom false (pages p).entries e
    → ((n : ℕ) → IsPoint false false (pages p) n → HasRoom false (pages parent).entries ((entry_at (pages p).entries n).0, q))
    → CanSplit false Inner (pages p) (pages parent) q
inner_can_split pages spare h key parent p q e good way child parent_rises fits lacks room =
    let well : (n : ℕ) → IsPoint false false (pages p) n → SplitsWell false (pages p).entries n = λ n point. splits_well (split_bound false false (pages p).next) false (pages p).entries n e (is_bound false false (pages p).next) fits point lacks in
    record {
      halves = record { kind = (way_inner pages h key p (step_way pages (suc h) key parent p way child)).0; well = well };
      takes = λ n point. record {
        inner = (way_inner pages (suc h) key parent way).0;
        absent = inner_separator_is_new pages spare h key parent p n good way child parent_rises (omega (arith, (well n point).right));
        room = room n point;
      };
    }

-- a page that lacks room, by its kind
pub leaf_can_halve : (dense : Bool) (pages : Pages) (p : ℕ) (e : Entry) → (pages p).kind ≡ Leaf → FitsPage true (pages p).entries → LacksRoom true (pages p).entries e → CanHalve dense Leaf (pages p)
leaf_can_halve dense pages p e kind fits lacks = record { kind = kind; well = λ n point. splits_well (split_bound true dense (pages p).next) true (pages p).entries n e (is_bound true dense (pages p).next) fits point lacks }

pub inner_can_halve : (pages : Pages) (p : ℕ) (e : Entry) → (pages p).kind ≡ Inner → FitsPage false (pages p).entries → LacksRoom false (pages p).entries e → CanHalve false Inner (pages p)
inner_can_halve pages p e kind fits lacks = record { kind = kind; well = λ n point. splits_well (split_bound false false (pages p).next) false (pages p).entries n e (is_bound false false (pages p).next) fits point lacks }
