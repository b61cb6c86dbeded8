-- A split of the leaf of a key, and the way of the key after it.
use Rattle.std.proofs.Common.{◌≡◌, ℕ, zero, suc, ◌<◌, ◌≤◌, List, [], ◌∷◌, ◌++◌, length, map, Some, sym, ap, subst, ◌∙◌, append_assoc, arith}
use Rattle.im_base_types.specs.Keys.{Key}
use Rattle.im_base_types.specs.Pages.{Entry}
use Rattle.im_theory_page.specs.Entry.{entry_at, Rises}
use Rattle.im_theory_page.specs.Child.{IsChild}
use Rattle.im_theory_tree.specs.Levels.{Pages, Node, child_of, below, leaves_under, the_root, height, page_numbers, descend, lifted}
use Rattle.im_theory_tree.specs.Same.{SameTree, SameOn}
use Rattle.im_theory_tree.specs.Good.{AtOrAbove, IsUnder, InRange, IsAfter, next_bound, AreOrdered, IsGoodTree}
use Rattle.im_theory_tree.specs.Splits.{SplitsLeafOf}
use Rattle.im_theory_tree.specs.KeySplits.{SplitsLeafPages, SplitsKeyLeaf, KeepsWay}
use Rattle.im_theory_tree.proofs.Split.{below_put}
use Rattle.im_theory_tree.proofs.Order.{ordered_right}
use Rattle.im_theory_tree.proofs.Descent.{pages_above, leaves_descend, descend_same, all_elsewhere}
use Rattle.im_theory_tree.proofs.LeafSplit.{front, back, the_new, parts, once, height_same, leaf_split}
use Rattle.im_theory_tree.proofs.Way.{descend_more, lifted_more, under_next}
use Rattle.im_theory_tree.proofs.Ascent.{ascends_from_rises, at_all as all_place}
use Rattle.im_theory_tree.proofs.RootSplitWay.{node_on_way}
use Rattle.im_theory_tree.proofs.HalvesLemmas.{halves_at, separator_after}
use Rattle.im_theory_tree.proofs.ChildPlaces.{ChildPlace, child_place, children_were, below_at, separator_put}

-- the level of the leaves after a split
pub record LevelAfter (pages new : Pages) (d : ℕ) (fr : List Node) (n m : Node) (bk : List Node) : Type 0 where
  pub tall : height new ≡ height pages
  pub down : descend new (suc d) the_root ≡ fr ++ n ∷ m ∷ bk

pub level_after : (pages new : Pages) (spare : List ℕ) (d : ℕ) (a b : List Node) (parent : Node) (before after : List Node) (n : Node) (q : ℕ) (s : Key)
    → SplitsLeafOf pages new spare d a b parent before after n q s → LevelAfter pages new d (front pages a before) n (the_new q s) (back pages b after)
level_after pages new spare d a b parent before after n q s h =
    let changed : List ℕ = parent.page ∷ n.page ∷ q ∷ [] in
    let P : ℕ → Type 0 = λ x. SameTree (pages x) (new x) in
    let split_parts = parts pages new spare d a b parent before after n q s h in
    let all_once = once pages new spare d a b parent before after n q s h in
    let s_above : SameOn pages new (pages_above pages d the_root) = all_elsewhere P changed (pages_above pages d the_root) h.others (λ x. omega (arith, split_parts x, all_once x)) in
    let s_a : SameOn pages new (page_numbers a) = all_elsewhere P changed (page_numbers a) h.others (λ x. omega (arith, split_parts x, all_once x)) in
    let s_b : SameOn pages new (page_numbers b) = all_elsewhere P changed (page_numbers b) h.others (λ x. omega (arith, split_parts x, all_once x)) in
    let down = descend_same pages new d the_root s_above in
    record {
      tall = height_same pages new d a b parent h.at h.parent_level s_above;
      down = descend_more new d the_root ∙ ap (below new) (down.0 ∙ h.at) ∙ below_put pages new a b parent before after n (s, q) h.put s_a s_b;
    }

-- the split as a step of the tree, at the node of the key's leaf
pub leaf_split_at : (pages new : Pages) (spare : List ℕ) (key : Key) (d : ℕ) (a b : List Node) (parent : Node) (p q n : ℕ) (place : ChildPlace pages parent key p)
    → IsGoodTree pages (q ∷ spare) → height pages ≡ lifted d (suc zero) → descend pages d the_root ≡ a ++ parent ∷ b
    → Rises (pages parent.page).entries → Rises (pages place.c.page).entries → 1 ≤ n → n < length (pages place.c.page).entries
    → SplitsLeafPages pages new parent.page place.c.page q n
    → SplitsLeafOf pages new spare d a b parent place.before (map child_of place.v) place.c q (entry_at (pages place.c.page).entries n).0
leaf_split_at pages new spare key d a b parent p q n place good tall at parent_rises rises some within f =
    let c = place.c in
    let es : List Entry = (pages c.page).entries in
    let s : Key = (entry_at es n).0 in
    let after = map child_of place.v in
    let fr = below pages a ++ place.before in
    let bk = after ++ below pages b in
    let were = children_were pages parent place.u place.v place.before c place.entries place.front in
    let are : leaves_under pages (height pages) the_root ≡ fr ++ c ∷ bk =
    ap (λ k. leaves_under pages k the_root) tall ∙ leaves_descend pages d (suc zero) the_root ∙ ap (below pages) at ∙ below_at pages a b parent place.before c after were in
    let here = ordered_right pages fr (c ∷ bk) (subst (AreOrdered pages) are good.ordered) in
    let range : InRange c.bound (next_bound bk) es = here.0 in
    let in_range = all_place (λ (e : Entry). AtOrAbove c.bound e.0 × IsUnder e.0 (next_bound bk)) es n range within in
    let above : IsAfter c.bound (Some s) = separator_after c.bound (next_bound bk) es n rises range some within in
    record {
      good = good;
      tall = tall;
      at = at;
      put = separator_put pages new parent key p q s b place (ascends_from_rises (pages parent.page).entries parent_rises) f.adds above in_range.1;
      parent_kind = f.adds.kind;
      parent_level = f.adds.level;
      left = f.left;
      right = f.right;
      halves = halves_at es (new c.page).entries (new q).entries n rises within f.left_entries f.right_entries;
      above = above;
      others = f.others;
      left_prev = f.left_prev;
      left_next = f.left_next;
      right_prev = f.right_prev;
      right_next = f.right_next;
      neighbour = f.neighbour;
      links = f.links;
    }

-- THE LEAF OF A KEY IS SPLIT
pub key_leaf_split : (pages new : Pages) (spare : List ℕ) (key : Key) (parent p q n : ℕ) → SplitsKeyLeaf pages new spare key parent p q n
    → KeepsWay pages new spare zero key p q (entry_at (pages p).entries n).0
key_leaf_split pages new spare key parent p q n h =
    let way = h.way in
    let place : ChildPlace pages way.node key p = child_place pages way.node key p way.at (subst (λ x. IsChild (pages x) key p) (sym way.page) h.child) in
    let c = place.c in
    let a = way.left in
    let b = way.right in
    let d = way.above in
    let after = map child_of place.v in
    let fr = below pages a ++ place.before in
    let bk = after ++ below pages b in
    let facts : SplitsLeafPages pages new way.node.page c.page q n =
    subst (λ x. SplitsLeafPages pages new x c.page q n) (sym way.page) (subst (λ x. SplitsLeafPages pages new parent x q n) (sym place.page) h.pages_split) in
    let s : Key = (entry_at (pages c.page).entries n).0 in
    let step = leaf_split_at pages new spare key d a b way.node p q n place h.good way.tall way.down
    (subst (λ x. Rises (pages x).entries) (sym way.page) h.parent_rises) (subst (λ x. Rises (pages x).entries) (sym place.page) h.rises)
    h.some (subst (λ x. n < length (pages x).entries) (sym place.page) h.within) facts in
    let done = leaf_split pages new spare d a b way.node place.before after c q s step in
    let level = level_after pages new spare d a b way.node place.before after c q s step in
    let tall : height new ≡ lifted (suc d) zero = level.tall ∙ way.tall ∙ lifted_more d zero in
    let m : Node = the_new q s in
    let high_down : descend new (suc d) the_root ≡ (fr ++ c ∷ []) ++ m ∷ bk = level.down ∙ sym (append_assoc fr (c ∷ []) (m ∷ bk)) in
    subst (λ x. KeepsWay pages new spare zero key x q (entry_at (pages x).entries n).0) place.page
    (record {
      good = done.0;
      walks = done.1;
      low = λ under. node_on_way new spare (suc d) zero key fr c (m ∷ bk) done.0 tall level.down place.reached under;
      high = λ reached. node_on_way new spare (suc d) zero key (fr ++ c ∷ []) m bk done.0 tall high_down reached (under_next pages key place.v b place.above way.under);
    })
