-- The pages of a deletion that the code makes are those of a deletion in the tree.
use Rattle.std.proofs.Common.{◌≡◌, ℕ, suc, ◌+◌, ◌<◌, ◌≤◌, List, [], ◌∷◌, ◌++◌, length, map, take, drop, refl, sym, ap, subst, ◌∙◌, arith}
use Rattle.std.proofs.lemmas.List.{map-append}
use Rattle.im_base_types.specs.Keys.{Key}
use Rattle.im_base_types.specs.Pages.{Entry, Body}
use Rattle.im_theory_log.specs.Tree.{with_body}
use Rattle.im_base_types.specs.declared.page_kind.PageKind.TheVariants.{Leaf, Inner}
use Rattle.im_theory_page.specs.Entry.{entry_at}
use Rattle.im_theory_tree.specs.Levels.{Pages, Node, child_of, children, below, leaves_under, height}
use Rattle.im_theory_tree.specs.Same.{SameTree, SameLinks}
use Rattle.im_theory_tree.specs.Good.{times, IsGoodTree}
use Rattle.im_theory_tree.specs.Search.{IsOnWay}
use Rattle.im_theory_tree.specs.Deletions.{bare_leaf}
use Rattle.im_theory_tree.specs.KeyDeletions.{HasNone, chain_down, leaf_down, Unlinks, DropsEntry, DropsLeftmost, DropsAll}
use Rattle.im_theory_tree.proofs.Cited.{leaves_under-append, split_at, first_child, below_at, bare_leaves, bare_of, leaf_is, way_inner}
use Rattle.im_smo_pages.specs.Bodies.{with_prev, with_next, without_entry, without_leftmost}
use Rattle.im_theory_page.specs.Header.{leaf_body}
use Rattle.im_smo_pages.specs.Changed.{SamePages, linked_prev, linked_next, unlinked_pages, entry_dropped_pages, leftmost_dropped_pages, root_emptied_pages}
use Rattle.im_smo_pages.proofs.Updates.{at_here, at_other, tree_of, links_of, tree_then, links_then, links_with, prev_here, prev_other, prev_tree, next_here, next_other, next_tree, not_first}
use Rattle.im_smo_pages.proofs.Beside.{LeafPlace, Beside, beside}
use Rattle.im_smo_pages.proofs.LeafSplitSteps.{zero_or, other_kind}

-- the leaf at the end of a chain of pages without entries, under a child of a page on a key's way
place_under : (pages : Pages) (h : ℕ) (key : Key) (parent : ℕ) (way : IsOnWay pages (suc h) key parent) (before : List Node) (c : Node) (after : List Node)
    → children pages way.node ≡ before ++ c ∷ after → HasNone pages h c.page → LeafPlace pages (leaf_down pages h c.page)
place_under pages h key parent way before c after were none =
    let fr = below pages way.left ++ before in
    let bk = after ++ below pages way.right in
    let bare = bare_leaves pages h c (bare_of pages h c none) in
    record {
      before = leaves_under pages h fr;
      node = bare_leaf pages h c;
      after = leaves_under pages h bk;
      leaves = sym way.leaves ∙ ap (leaves_under pages h) (below_at pages way.left way.right way.node before c after were)
          ∙ leaves_under-append pages h fr (c ∷ bk) ∙ ap (λ (t : List Node). leaves_under pages h fr ++ t) (leaves_under-append pages h (c ∷ []) bk ∙ ap (λ (t : List Node). t ++ leaves_under pages h bk) bare.0);
      page = leaf_is pages h c;
    }

-- the leaf under the child of an entry
pub entry_place : (pages : Pages) (h : ℕ) (key : Key) (parent p i : ℕ) → IsOnWay pages (suc h) key parent → i < length (pages parent).entries → (entry_at (pages parent).entries i).1 ≡ p
    → HasNone pages h p → LeafPlace pages (leaf_down pages h p)
entry_place pages h key parent p i way within child none =
    subst (λ (x : ℕ). LeafPlace pages (leaf_down pages h x)) page
    (place_under pages h key parent way (first_child pages way.node ∷ map child_of (take i es)) (child_of (entry_at es i)) (map child_of (drop (i + 1) es)) were (subst (HasNone pages h) (sym page) none))
  where
    es : List Entry
    es = (pages way.node.page).entries

    page : (entry_at es i).1 ≡ p
    page = ap (λ (x : ℕ). (entry_at (pages x).entries i).1) way.page ∙ child

    within_node : i < length es
    within_node = subst (λ (x : ℕ). i < length (pages x).entries) (sym way.page) within

    were : children pages way.node ≡ (first_child pages way.node ∷ map child_of (take i es)) ++ child_of (entry_at es i) ∷ map child_of (drop (i + 1) es)
    were =
        ap (λ (xs : List Entry). first_child pages way.node ∷ map child_of xs) (split_at es i within_node)
        ∙ ap (λ (ns : List Node). first_child pages way.node ∷ ns) (map-append child_of (take i es) (entry_at es i ∷ drop (i + 1) es))

-- the leaf under the leftmost child
pub leftmost_place : (pages : Pages) (h : ℕ) (key : Key) (parent p : ℕ) → IsOnWay pages (suc h) key parent → (pages parent).leftmost ≡ p → HasNone pages h p
    → LeafPlace pages (leaf_down pages h p)
leftmost_place pages h key parent p way child none =
    let page : (pages way.node.page).leftmost ≡ p = ap (λ (x : ℕ). (pages x).leftmost) way.page ∙ child in
    subst (λ (x : ℕ). LeafPlace pages (leaf_down pages h x)) page
    (place_under pages h key parent way [] (first_child pages way.node) (map child_of (pages way.node.page).entries) refl (subst (HasNone pages h) (sym page) none))

-- ---- the parent changes, and a leaf goes out of the chain

module _ (pages new : Pages) (spare : List ℕ) (parent leaf : ℕ) (b : Body) (inner : (pages parent).kind ≡ Inner) (kept : SameLinks (pages parent) b) (near : Beside pages spare leaf) (is : SamePages new (unlinked_pages (with_body pages parent b) (pages leaf).prev (pages leaf).next)) where
  abbrev drop_first : Pages
  drop_first = with_body pages parent b

  abbrev drop_second : Pages
  drop_second = linked_next drop_first (pages leaf).prev (pages leaf).next

  drop_unlinked : (x : ℕ) → ((pages leaf).next ≡ x → x ≡ 0) → ((pages leaf).prev ≡ x → x ≡ 0) → new x ≡ drop_first x
  drop_unlinked x r l = is x ∙ prev_other drop_second (pages leaf).next (pages leaf).prev x r ∙ next_other drop_first (pages leaf).prev (pages leaf).next x l

  not_parent : (x : ℕ) → (pages x).kind ≡ Leaf → parent ≡ x → ⊥
  not_parent x leaf_kind e = other_kind pages x parent leaf_kind inner (sym e)

  pub drop_at_parent : new parent ≡ b
  drop_at_parent =
      drop_unlinked parent (zero_or (pages leaf).next parent (λ some e. not_parent (pages leaf).next (near.next_kind some) (sym e)))
      (zero_or (pages leaf).prev parent (λ some e. not_parent (pages leaf).prev (near.prev_kind some) (sym e)))
      ∙ at_here pages parent b

  drop_at_prev : 1 ≤ (pages leaf).prev → new (pages leaf).prev ≡ with_next (pages (pages leaf).prev) (pages leaf).next
  drop_at_prev some =
      is (pages leaf).prev
      ∙ prev_other drop_second (pages leaf).next (pages leaf).prev (pages leaf).prev (zero_or (pages leaf).next (pages leaf).prev (λ other e. near.apart some (sym e)))
      ∙ next_here drop_first (pages leaf).prev (pages leaf).next some
      ∙ ap (λ (c : Body). with_next c (pages leaf).next) (at_other pages parent b (pages leaf).prev (not_parent (pages leaf).prev (near.prev_kind some)))

  drop_at_next : 1 ≤ (pages leaf).next → new (pages leaf).next ≡ with_prev (pages (pages leaf).next) (pages leaf).prev
  drop_at_next some =
      is (pages leaf).next ∙ prev_here drop_second (pages leaf).next (pages leaf).prev some
      ∙ ap (λ (c : Body). with_prev c (pages leaf).prev)
      (next_other drop_first (pages leaf).prev (pages leaf).next (pages leaf).next (zero_or (pages leaf).prev (pages leaf).next near.apart)
      ∙ at_other pages parent b (pages leaf).next (not_parent (pages leaf).next (near.next_kind some)))

  pub drop_others : (x : ℕ) → (parent ≡ x → ⊥) → SameTree (pages x) (new x)
  drop_others x other =
      tree_then (pages x) (drop_first x) (new x) (tree_of (pages x) (drop_first x) (at_other pages parent b x other))
      (tree_then (drop_first x) (drop_second x) (new x) (next_tree drop_first (pages leaf).prev (pages leaf).next x)
      (tree_then (drop_second x) (linked_prev drop_second (pages leaf).next (pages leaf).prev x) (new x) (prev_tree drop_second (pages leaf).next (pages leaf).prev x)
      (tree_of (linked_prev drop_second (pages leaf).next (pages leaf).prev x) (new x) (is x))))

  pub drop_unlinks : (gone : List ℕ) → Unlinks pages new leaf gone
  drop_unlinks gone = record {
    left = λ x same some.
        let here : new x ≡ with_next (pages x) (pages leaf).next =
        subst (λ (y : ℕ). new y ≡ with_next (pages y) (pages leaf).next) (sym same) (drop_at_prev (omega (arith, same, some))) in
        (ap (λ (c : Body). c.next) here, ap (λ (c : Body). c.prev) here);
    right = λ x same some.
        let here : new x ≡ with_prev (pages x) (pages leaf).prev =
        subst (λ (y : ℕ). new y ≡ with_prev (pages y) (pages leaf).prev) (sym same) (drop_at_next (omega (arith, same, some))) in
        (ap (λ (c : Body). c.prev) here, ap (λ (c : Body). c.next) here);
    links = λ x t l r.
        links_then (pages x) (drop_first x) (new x) (links_with pages parent b kept x)
        (links_of (drop_first x) (new x) (drop_unlinked x (λ e. r (sym e)) (λ e. l (sym e))));
  }

-- the images of a deletion of the child of an entry, in a good tree
pub entry_step : (pages new : Pages) (spare : List ℕ) (h : ℕ) (key : Key) (parent p i : ℕ) → IsGoodTree pages spare → IsOnWay pages (suc h) key parent → i < length (pages parent).entries
    → (entry_at (pages parent).entries i).1 ≡ p → HasNone pages h p → SamePages new (entry_dropped_pages pages parent (leaf_down pages h p) i)
    → DropsEntry pages new spare h key parent p i
entry_step pages new spare h key parent p i good way within child none is =
    let leaf = leaf_down pages h p in
    let b = without_entry (pages parent) i in
    let kind = (way_inner pages h key parent way).0 in
    let kept : SameLinks (pages parent) b = record { prev = refl; next = refl } in
    let near = beside pages spare leaf good (entry_place pages h key parent p i way within child none) in
    let at = drop_at_parent pages new spare parent leaf b kind kept near is in
    record {
      good = good;
      way = way;
      within = within;
      child = child;
      none = none;
      kind = ap (λ (c : Body). c.kind) at;
      level = ap (λ (c : Body). c.level) at;
      leftmost = ap (λ (c : Body). c.leftmost) at;
      entries = ap (λ (c : Body). c.entries) at;
      others = λ x t. drop_others pages new spare parent leaf b kind kept near is x (not_first x parent (chain_down pages h p) t);
      unlinks = drop_unlinks pages new spare parent leaf b kind kept near is (chain_down pages h p);
    }

-- the images of a deletion of the leftmost child
pub leftmost_step : (pages new : Pages) (spare : List ℕ) (h : ℕ) (key : Key) (parent p : ℕ) → IsGoodTree pages spare → IsOnWay pages (suc h) key parent → 0 < length (pages parent).entries
    → (pages parent).leftmost ≡ p → HasNone pages h p → SamePages new (leftmost_dropped_pages pages parent (leaf_down pages h p))
    → DropsLeftmost pages new spare h key parent p
leftmost_step pages new spare h key parent p good way within child none is =
    let leaf = leaf_down pages h p in
    let b = without_leftmost (pages parent) in
    let kind = (way_inner pages h key parent way).0 in
    let kept : SameLinks (pages parent) b = record { prev = refl; next = refl } in
    let near = beside pages spare leaf good (leftmost_place pages h key parent p way child none) in
    let at = drop_at_parent pages new spare parent leaf b kind kept near is in
    record {
      good = good;
      way = way;
      within = within;
      child = child;
      none = none;
      kind = ap (λ (c : Body). c.kind) at;
      level = ap (λ (c : Body). c.level) at;
      leftmost = ap (λ (c : Body). c.leftmost) at;
      entries = ap (λ (c : Body). c.entries) at;
      others = λ x t. drop_others pages new spare parent leaf b kind kept near is x (not_first x parent (chain_down pages h p) t);
      unlinks = drop_unlinks pages new spare parent leaf b kind kept near is (chain_down pages h p);
    }

-- the image of a root left without a child
pub root_step : (pages new : Pages) (spare : List ℕ) (h : ℕ) → IsGoodTree pages spare → height pages ≡ suc h → HasNone pages (suc h) 1 → SamePages new (root_emptied_pages pages)
    → DropsAll pages new spare h
root_step pages new spare h good tall none is =
    let at : new 1 ≡ leaf_body 0 0 [] = is 1 ∙ at_here pages 1 (leaf_body 0 0 []) in
    let away : (x : ℕ) → times x (chain_down pages (suc h) 1) ≡ 0 → new x ≡ pages x =
    λ x t. is x ∙ at_other pages 1 (leaf_body 0 0 []) x (not_first x 1 (chain_down pages h (pages 1).leftmost) t) in
    record {
      good = good;
      tall = tall;
      none = none;
      kind = ap (λ (c : Body). c.kind) at;
      level = ap (λ (c : Body). c.level) at;
      entries = ap (λ (c : Body). c.entries) at;
      prev = ap (λ (c : Body). c.prev) at;
      next = ap (λ (c : Body). c.next) at;
      others = λ x t. (tree_of (pages x) (new x) (away x t), links_of (pages x) (new x) (away x t));
    }
