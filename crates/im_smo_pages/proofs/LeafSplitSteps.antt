-- The pages of a leaf's split that the code makes are those of a split of the tree.
use Rattle.std.proofs.Common.{◌≡◌, ℕ, zero, suc, ◌+◌, ◌≤◌, Bool, List, [], ◌∷◌, ◌++◌, take, drop, refl, sym, ap, subst, ◌∙◌, arith}
use Rattle.std.proofs.lemmas.List.{map-append}
use Rattle.im_base_types.specs.Keys.{Key}
use Rattle.im_base_types.specs.Pages.{Body}
use Rattle.im_theory_log.specs.Tree.{with_body}
use Rattle.im_base_types.specs.declared.page_kind.PageKind.TheVariants.{Leaf, Inner}
use Rattle.im_theory_page.specs.Entry.{entry_at, Rises}
use Rattle.im_theory_page.specs.Child.{IsChild}
use Rattle.im_theory_tree.specs.Levels.{Pages, Node, below, descend, page_numbers, pages_under, the_root}
use Rattle.im_theory_tree.specs.Same.{SameLinks}
use Rattle.im_theory_tree.specs.Good.{times, IsGoodTree}
use Rattle.im_theory_tree.specs.Search.{IsOnWay}
use Rattle.im_theory_tree.specs.KeySplits.{SplitsLeafPages, SplitsKeyLeaf}
use Rattle.im_theory_tree.proofs.Cited.{times-append, times-here, pages_above, pages_descend, good_once, way_leaf, way_inner, step_way}
use Rattle.im_smo_pages.specs.Bodies.{with_separator, with_prev}
use Rattle.im_theory_page.specs.Header.{leaf_body}
use Rattle.im_smo_pages.specs.Parts.{SplitsAt}
use Rattle.im_smo_pages.specs.Changed.{SamePages, leaf_split_pages}
use Rattle.im_smo_pages.proofs.Updates.{at_here, at_other, tree_of, links_of, tree_then, prev_here, prev_other, prev_tree, links_then, links_with, not_first, not_later}
use Rattle.im_smo_pages.proofs.Beside.{place_on_way, beside}

-- page 0, or another page
pub zero_or : (r x : ℕ) → (1 ≤ r → r ≡ x → ⊥) → r ≡ x → x ≡ 0
zero_or zero x h e = sym e
zero_or (suc r) x h e = absurd (h (omega arith) e)

-- a page on a key's way stands in the tree, and so is not spare
pub way_not_spare : (pages : Pages) (spare : List ℕ) (k : ℕ) (key : Key) (p : ℕ) → IsGoodTree pages spare → IsOnWay pages k key p → times p spare ≡ 0
way_not_spare pages spare k key p good way =
    let level : List Node = way.left ++ way.node ∷ way.right in
    omega (
      arith,
      good_once pages spare good p,
      node_times way.left way.node way.right p way.page,
      level_times pages k level p,
      ap (λ h. times p (pages_under pages h the_root)) way.tall ∙ ap (times p) (pages_descend pages way.above k the_root)
          ∙ times-append p (pages_above pages way.above the_root) (pages_under pages k (descend pages way.above the_root))
          ∙ ap (λ ns. times p (pages_above pages way.above the_root) + times p (pages_under pages k ns)) way.down,
    )
  where
    node_times : (before : List Node) (n : Node) (after : List Node) (x : ℕ) → n.page ≡ x → 1 ≤ times x (page_numbers (before ++ n ∷ after))
    node_times before n after x e =
        omega (
          arith,
          ap (times x) (map-append (λ (m : Node). m.page) before (n ∷ after)) ∙ times-append x (page_numbers before) (page_numbers (n ∷ after)),
          times-here x (page_numbers after),
          ap (λ y. times x (y ∷ page_numbers after)) e,
        )

    level_times : (pages : Pages) (k : ℕ) (ns : List Node) (x : ℕ) → times x (page_numbers ns) ≤ times x (pages_under pages k ns)
    level_times pages zero ns x = omega arith
    level_times pages (suc k) ns x = omega (arith, times-append x (page_numbers ns) (pages_under pages k (below pages ns)))

-- a leaf is no inner page
pub other_kind : (pages : Pages) (a b : ℕ) → (pages a).kind ≡ Leaf → (pages b).kind ≡ Inner → a ≡ b → ⊥
other_kind pages a b leaf inner e = let clash : Leaf ≡ Inner = sym leaf ∙ ap (λ x. (pages x).kind) e ∙ inner in cc clash

-- ---- a leaf

-- the pages of the split are different ones
pub record LeafApart (pages : Pages) (parent p q : ℕ) : Type 0 where
  pub right_left : q ≡ p → ⊥
  pub parent_left : parent ≡ p → ⊥
  pub parent_right : parent ≡ q → ⊥
  pub next_left : 1 ≤ (pages p).next → (pages p).next ≡ p → ⊥
  pub next_right : 1 ≤ (pages p).next → (pages p).next ≡ q → ⊥
  pub next_parent : 1 ≤ (pages p).next → (pages p).next ≡ parent → ⊥

pub leaf_apart : (pages : Pages) (spare : List ℕ) (key : Key) (parent p q : ℕ) → IsGoodTree pages (q ∷ spare) → IsOnWay pages (suc zero) key parent → IsChild (pages parent) key p
    → LeafApart pages parent p q
leaf_apart pages spare key parent p q good way child =
    let down = step_way pages zero key parent p way child in
    let near = beside pages (q ∷ spare) p good (place_on_way pages key p down) in
    let leaf = (way_leaf pages key p down).0 in
    let inner = (way_inner pages zero key parent way).0 in
    record {
      right_left = not_first p q spare near.self_spare;
      parent_left = λ e. other_kind pages p parent leaf inner (sym e);
      parent_right = λ e. not_first parent q spare (way_not_spare pages (q ∷ spare) (suc zero) key parent good way) (sym e);
      next_left = near.next_self;
      next_right = λ some e. not_first (pages p).next q spare (near.next_spare some) (sym e);
      next_parent = λ some e. other_kind pages (pages p).next parent (near.next_kind some) inner e;
    }

module _ (pages new : Pages) (parent p q n : ℕ) (apart : LeafApart pages parent p q) (is : SamePages new (leaf_split_pages pages parent p q n)) where
  abbrev leaf_left : Body
  leaf_left = leaf_body (pages p).prev q (take n (pages p).entries)

  abbrev leaf_right : Body
  leaf_right = leaf_body p (pages p).next (drop n (pages p).entries)

  abbrev leaf_above : Body
  leaf_above = with_separator (pages parent) (entry_at (pages p).entries n).0 q

  abbrev leaf_first : Pages
  leaf_first = with_body pages parent leaf_above

  abbrev leaf_second : Pages
  leaf_second = with_body leaf_first q leaf_right

  abbrev leaf_third : Pages
  leaf_third = with_body leaf_second p leaf_left

  leaf_unlinked : (x : ℕ) → ((pages p).next ≡ x → x ≡ 0) → new x ≡ leaf_third x
  leaf_unlinked x h = is x ∙ prev_other leaf_third (pages p).next q x h

  leaf_elsewhere : (x : ℕ) → (p ≡ x → ⊥) → (q ≡ x → ⊥) → (parent ≡ x → ⊥) → leaf_third x ≡ pages x
  leaf_elsewhere x l r a = at_other leaf_second p leaf_left x l ∙ at_other leaf_first q leaf_right x r ∙ at_other pages parent leaf_above x a

  leaf_at_left : new p ≡ leaf_left
  leaf_at_left = leaf_unlinked p (zero_or (pages p).next p apart.next_left) ∙ at_here leaf_second p leaf_left

  leaf_at_right : new q ≡ leaf_right
  leaf_at_right = leaf_unlinked q (zero_or (pages p).next q apart.next_right) ∙ at_other leaf_second p leaf_left q (λ e. apart.right_left (sym e)) ∙ at_here leaf_first q leaf_right

  leaf_at_parent : new parent ≡ leaf_above
  leaf_at_parent =
      leaf_unlinked parent (zero_or (pages p).next parent apart.next_parent) ∙ at_other leaf_second p leaf_left parent (λ e. apart.parent_left (sym e))
      ∙ at_other leaf_first q leaf_right parent (λ e. apart.parent_right (sym e)) ∙ at_here pages parent leaf_above

  leaf_at_next : 1 ≤ (pages p).next → new (pages p).next ≡ with_prev (pages (pages p).next) q
  leaf_at_next some =
      is (pages p).next ∙ prev_here leaf_third (pages p).next q some
      ∙ ap (λ (b : Body). with_prev b q)
      (leaf_elsewhere (pages p).next (λ e. apart.next_left some (sym e)) (λ e. apart.next_right some (sym e)) (λ e. apart.next_parent some (sym e)))

  pub leaf_pages_split : SplitsLeafPages pages new parent p q n
  leaf_pages_split = record {
    left = (ap (λ (b : Body). b.kind) leaf_at_left, ap (λ (b : Body). b.level) leaf_at_left);
    left_entries = ap (λ (b : Body). b.entries) leaf_at_left;
    left_prev = ap (λ (b : Body). b.prev) leaf_at_left;
    left_next = ap (λ (b : Body). b.next) leaf_at_left;
    right = (ap (λ (b : Body). b.kind) leaf_at_right, ap (λ (b : Body). b.level) leaf_at_right);
    right_entries = ap (λ (b : Body). b.entries) leaf_at_right;
    right_prev = ap (λ (b : Body). b.prev) leaf_at_right;
    right_next = ap (λ (b : Body). b.next) leaf_at_right;
    adds = record {
      kind = ap (λ (b : Body). b.kind) leaf_at_parent;
      level = ap (λ (b : Body). b.level) leaf_at_parent;
      leftmost = ap (λ (b : Body). b.leftmost) leaf_at_parent;
      entries = ap (λ (b : Body). b.entries) leaf_at_parent;
    };
    neighbour = λ r same some.
        let here : new r ≡ with_prev (pages r) q =
        subst (λ (x : ℕ). new x ≡ with_prev (pages x) q) (sym same) (leaf_at_next (omega (arith, same, some))) in
        (ap (λ (b : Body). b.prev) here, ap (λ (b : Body). b.next) here);
    others = λ x t.
        let t1 = not_later x parent (p ∷ q ∷ []) t in
        let t2 = not_later x p (q ∷ []) t1 in
        tree_then (pages x) (leaf_third x) (new x)
        (tree_of (pages x) (leaf_third x) (leaf_elsewhere x (not_first x p (q ∷ []) t1) (not_first x q [] t2) (not_first x parent (p ∷ q ∷ []) t)))
        (tree_then (leaf_third x) (leaf_split_pages pages parent p q n x) (new x) (prev_tree leaf_third (pages p).next q x) (tree_of (leaf_split_pages pages parent p q n x) (new x) (is x)));
    links = λ x t away.
        let t2 = not_later x p (q ∷ []) t in
        links_at x (not_first x p (q ∷ []) t) (not_first x q [] t2) (leaf_unlinked x (λ e. away (sym e)));
  }
    where
      -- the parent keeps its links, which an inner page does not have
      links_at : (x : ℕ) → (p ≡ x → ⊥) → (q ≡ x → ⊥) → new x ≡ leaf_third x → SameLinks (pages x) (new x)
      links_at x l r e =
          links_then (pages x) (leaf_first x) (new x) (links_with pages parent leaf_above (record { prev = refl; next = refl }) x)
          (links_of (leaf_first x) (new x) (e ∙ at_other leaf_second p leaf_left x l ∙ at_other leaf_first q leaf_right x r))

-- the images of a leaf's split, in a good tree, are a split of the key's leaf
pub leaf_step : {dense : Bool} (pages new : Pages) (spare : List ℕ) (key : Key) (parent p q n : ℕ) → IsGoodTree pages (q ∷ spare) → IsOnWay pages (suc zero) key parent → IsChild (pages parent) key p
    → Rises (pages parent).entries → Rises (pages p).entries → SplitsAt dense Leaf (pages p) n → SamePages new (leaf_split_pages pages parent p q n)
    → SplitsKeyLeaf pages new spare key parent p q n
leaf_step pages new spare key parent p q n good way child parent_rises rises at is = record {
  good = good;
  way = way;
  child = child;
  parent_rises = parent_rises;
  rises = rises;
  some = at.well.left;
  within = omega (arith, at.well.right);
  pages_split = leaf_pages_split pages new parent p q n (leaf_apart pages spare key parent p q good way child) is;
}
