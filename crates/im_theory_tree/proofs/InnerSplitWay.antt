-- A split of an inner page on the way of a key, and the way after it.
use Rattle.std.proofs.Common.{◌≡◌, ℕ, suc, ◌+◌, ◌<◌, List, [], ◌∷◌, ◌++◌, length, map, take, drop, sym, ap, ap₂, subst, ◌∙◌, append_assoc, arith}
use Rattle.std.proofs.lemmas.List.{map-append}
use Rattle.im_base_types.specs.Keys.{Key}
use Rattle.im_base_types.specs.Pages.{Entry}
use Rattle.im_theory_page.specs.Entry.{entry_at, Rises}
use Rattle.im_theory_page.specs.Child.{IsChild}
use Rattle.im_theory_tree.specs.Levels.{Pages, Node, child_of, below, leaves_under, pages_under, the_root, height, page_numbers, descend, lifted}
use Rattle.im_theory_tree.specs.Same.{SameTree}
use Rattle.im_theory_tree.specs.Good.{AreOrdered, times, IsGoodTree}
use Rattle.im_theory_tree.specs.Splits.{SplitsInnerOf}
use Rattle.im_theory_tree.specs.KeySplits.{SplitsInnerPages, SplitsKeyInner, KeepsWay}
use Rattle.im_theory_tree.proofs.Split.{below_put, below_was}
use Rattle.im_theory_tree.proofs.Keeps.{times-append}
use Rattle.im_theory_tree.proofs.Descent.{pages_above, leaves_descend, pages_descend, descend_same, all_elsewhere}
use Rattle.im_theory_tree.proofs.LeafSplit.{height_same, the_new}
use Rattle.im_theory_tree.proofs.InnerSplit.{inner_split, good_once}
use Rattle.im_theory_tree.proofs.Way.{descend_more, lifted_more, under_next, split_at}
use Rattle.im_theory_tree.proofs.Ascent.{ascends_from_rises}
use Rattle.im_theory_tree.proofs.ChildPlaces.{ChildPlace, child_place, children_were, below_at, separator_put}
use Rattle.im_theory_tree.proofs.Bounds.{ordered_bounds, bounds_of_level, separator_in_range}
use Rattle.im_theory_tree.proofs.RootSplitWay.{node_on_way}
use Rattle.im_theory_tree.proofs.LeafSplitWay.{LevelAfter}

pub inner_level_after : (pages new : Pages) (spare : List ℕ) (d h : ℕ) (a b : List Node) (parent : Node) (before after : List Node) (n : Node) (q : ℕ) (up : Entry)
    → SplitsInnerOf pages new spare d h a b parent before after n q up → LevelAfter pages new d (below pages a ++ before) n (the_new q up.0) (after ++ below pages b)
inner_level_after pages new spare d h a b parent before after n q up s =
    let f : Node → ℕ = λ y. y.page in
    let changed : List ℕ = parent.page ∷ n.page ∷ q ∷ [] in
    let level = a ++ parent ∷ b in
    let fr = below pages a ++ before in
    let bk = after ++ below pages b in
    let mine = fr ++ n ∷ bk in
    let under = pages_under pages h (below pages mine) in
    let P : ℕ → Type 0 = λ x. SameTree (pages x) (new x) in
    let was : below pages level ≡ mine = below_was pages new a b parent before after n (up.0, q) s.put in
    let all_once = good_once pages (q ∷ spare) s.good in
    let in_level : (x : ℕ) → times x (page_numbers level) ≡ times x (page_numbers a) + times x (parent.page ∷ page_numbers b) =
    λ x. ap (times x) (map-append f a (parent ∷ b)) ∙ times-append x (page_numbers a) (page_numbers (parent ∷ b)) in
    let in_mine : (x : ℕ) → times x (page_numbers mine) ≡ times x (page_numbers fr) + times x (n.page ∷ page_numbers bk) =
    λ x. ap (times x) (map-append f fr (n ∷ bk)) ∙ times-append x (page_numbers fr) (page_numbers (n ∷ bk)) in
    let part : (x : ℕ) → times x (pages_under pages (height pages) the_root)
    ≡ times x (pages_above pages d the_root) + (times x (page_numbers level) + (times x (page_numbers mine) + times x under)) =
    λ x. ap (λ k. times x (pages_under pages k the_root)) s.tall ∙ ap (times x) (pages_descend pages d (suc (suc h)) the_root)
    ∙ times-append x (pages_above pages d the_root) (pages_under pages (suc (suc h)) (descend pages d the_root))
    ∙ ap (λ ns. times x (pages_above pages d the_root) + times x (pages_under pages (suc (suc h)) ns)) s.at
    ∙ ap (λ t. times x (pages_above pages d the_root) + t)
    (times-append x (page_numbers level) (pages_under pages (suc h) (below pages level))
    ∙ ap (λ ns. times x (page_numbers level) + times x (pages_under pages (suc h) ns)) was
    ∙ ap (λ t. times x (page_numbers level) + t) (times-append x (page_numbers mine) under)) in
    let s_above = all_elsewhere P changed (pages_above pages d the_root) s.others (λ x. omega (arith, part x, all_once x, in_level x, in_mine x)) in
    let s_a = all_elsewhere P changed (page_numbers a) s.others (λ x. omega (arith, part x, all_once x, in_level x, in_mine x)) in
    let s_b = all_elsewhere P changed (page_numbers b) s.others (λ x. omega (arith, part x, all_once x, in_level x, in_mine x)) in
    let down = descend_same pages new d the_root s_above in
    record {
      tall = height_same pages new d a b parent s.at s.parent_level s_above;
      down = descend_more new d the_root ∙ ap (below new) (down.0 ∙ s.at) ∙ below_put pages new a b parent before after n (up.0, q) s.put s_a s_b;
    }

-- the split as a step of the tree, at the node of the page on the key's way
pub inner_split_at : (pages new : Pages) (spare : List ℕ) (h : ℕ) (key : Key) (d : ℕ) (a b : List Node) (parent : Node) (p q n : ℕ) (place : ChildPlace pages parent key p)
    → IsGoodTree pages (q ∷ spare) → height pages ≡ lifted d (suc (suc h)) → descend pages d the_root ≡ a ++ parent ∷ b
    → Rises (pages parent.page).entries → n < length (pages place.c.page).entries
    → SplitsInnerPages pages new h parent.page place.c.page q n
    → SplitsInnerOf pages new spare d h a b parent place.before (map child_of place.v) place.c q (entry_at (pages place.c.page).entries n)
inner_split_at pages new spare h key d a b parent p q n place good tall at parent_rises within f =
    let c = place.c in
    let es : List Entry = (pages c.page).entries in
    let up : Entry = entry_at es n in
    let after = map child_of place.v in
    let fr = below pages a ++ place.before in
    let bk = after ++ below pages b in
    let were = children_were pages parent place.u place.v place.before c place.entries place.front in
    let are : leaves_under pages (height pages) the_root ≡ leaves_under pages h (below pages (fr ++ c ∷ bk)) =
    ap (λ k. leaves_under pages k the_root) tall ∙ leaves_descend pages d (suc (suc h)) the_root ∙ ap (leaves_under pages (suc (suc h))) at
    ∙ ap (leaves_under pages (suc h)) (below_at pages a b parent place.before c after were) in
    let bounds = bounds_of_level pages h (below pages (fr ++ c ∷ bk)) (ordered_bounds pages (leaves_under pages h (below pages (fr ++ c ∷ bk))) (subst (AreOrdered pages) are good.ordered)) in
    let range = separator_in_range pages fr c bk (take n es) up (drop (n + 1) es) (split_at es n within) bounds in
    record {
      good = good;
      tall = tall;
      at = at;
      put = separator_put pages new parent key p q up.0 b place (ascends_from_rises (pages parent.page).entries parent_rises) f.adds range.0 range.1;
      parent_kind = f.adds.kind;
      parent_level = f.adds.level;
      left = f.left;
      right = f.right;
      split = record {
        joined = split_at es n within ∙ sym (ap₂ (λ (x y : List Entry). x ++ up ∷ y) f.left_entries f.right_entries);
        left = f.left_leftmost;
        right = f.right_leftmost;
      };
      others = f.others;
      links = f.links;
    }

-- AN INNER PAGE ON THE WAY OF A KEY IS SPLIT
pub key_inner_split : (pages new : Pages) (spare : List ℕ) (h : ℕ) (key : Key) (parent p q n : ℕ) → SplitsKeyInner pages new spare h key parent p q n
    → KeepsWay pages new spare (suc h) key p q (entry_at (pages p).entries n).0
key_inner_split pages new spare h key parent p q n s =
    let way = s.way in
    let place : ChildPlace pages way.node key p = child_place pages way.node key p way.at (subst (λ x. IsChild (pages x) key p) (sym way.page) s.child) in
    let c = place.c in
    let a = way.left in
    let b = way.right in
    let d = way.above in
    let after = map child_of place.v in
    let fr = below pages a ++ place.before in
    let bk = after ++ below pages b in
    let facts : SplitsInnerPages pages new h way.node.page c.page q n =
    subst (λ x. SplitsInnerPages pages new h x c.page q n) (sym way.page) (subst (λ x. SplitsInnerPages pages new h parent x q n) (sym place.page) s.pages_split) in
    let up : Entry = entry_at (pages c.page).entries n in
    let step = inner_split_at pages new spare h key d a b way.node p q n place s.good way.tall way.down
    (subst (λ x. Rises (pages x).entries) (sym way.page) s.parent_rises) (subst (λ x. n < length (pages x).entries) (sym place.page) s.within) facts in
    let done = inner_split pages new spare d h a b way.node place.before after c q up step in
    let level = inner_level_after pages new spare d h a b way.node place.before after c q up step in
    let tall : height new ≡ lifted (suc d) (suc h) = level.tall ∙ way.tall ∙ lifted_more d (suc h) in
    let m : Node = the_new q up.0 in
    let high_down : descend new (suc d) the_root ≡ (fr ++ c ∷ []) ++ m ∷ bk = level.down ∙ sym (append_assoc fr (c ∷ []) (m ∷ bk)) in
    subst (λ x. KeepsWay pages new spare (suc h) key x q (entry_at (pages x).entries n).0) place.page
    (record {
      good = done.0;
      walks = done.1;
      low = λ under. node_on_way new spare (suc d) (suc h) key fr c (m ∷ bk) done.0 tall level.down place.reached under;
      high = λ reached. node_on_way new spare (suc d) (suc h) key (fr ++ c ∷ []) m bk done.0 tall high_down reached (under_next pages key place.v b place.above way.under);
    })
