-- A split of the root, and the way of a key after it.
use Rattle.std.proofs.Common.{◌≡◌, ℕ, zero, suc, List, [], ◌∷◌, ◌++◌, Some, None, refl, sym, ap, ap₂, subst, ◌∙◌}
use Rattle.im_base_types.specs.Keys.{Key}
use Rattle.im_base_types.specs.Pages.{Entry}
use Rattle.im_theory_page.specs.Entry.{entry_at}
use Rattle.im_theory_tree.specs.Levels.{Pages, Node, below, leaves_under, the_root, height, walk, descend, lifted}
use Rattle.im_theory_tree.specs.Good.{AtOrAbove, IsUnder, next_bound, HaveLevels, IsGoodTree}
use Rattle.im_theory_tree.specs.Search.{IsOnWay}
use Rattle.im_theory_tree.specs.KeySplits.{SplitsKeyRootLeaf, SplitsKeyRootInner, KeepsWay}
use Rattle.im_theory_tree.proofs.Split.{below_root}
use Rattle.im_theory_tree.proofs.Descent.{leaves_descend}
use Rattle.im_theory_tree.proofs.RootSplit.{leaf_root_split}
use Rattle.im_theory_tree.proofs.InnerSplit.{root_split}
use Rattle.im_theory_tree.proofs.Way.{split_at}
use Rattle.im_theory_tree.proofs.HalvesLemmas.{halves_at}

pub levels_at : (pages : Pages) (d k : ℕ) (ns : List Node) → HaveLevels pages (lifted d k) ns → HaveLevels pages k (descend pages d ns)
levels_at pages zero k ns have = have
levels_at pages (suc d) k ns have = levels_at pages d k (below pages ns) have.1

-- a node of a level of a good tree, in whose range the key lies
pub node_on_way : (pages : Pages) (spare : List ℕ) (d k : ℕ) (key : Key) (left : List Node) (n : Node) (right : List Node) → IsGoodTree pages spare → height pages ≡ lifted d k
    → descend pages d the_root ≡ left ++ n ∷ right → AtOrAbove n.bound key → IsUnder key (next_bound right) → IsOnWay pages k key n.page
node_on_way pages spare d k key left n right good tall down at under = record {
  above = d;
  left = left;
  node = n;
  right = right;
  page = refl;
  tall = tall;
  down = down;
  leaves = sym (ap (λ m. leaves_under pages m the_root) tall ∙ leaves_descend pages d k the_root ∙ ap (leaves_under pages k) down);
  levels = subst (HaveLevels pages k) down (levels_at pages d k the_root (subst (λ m. HaveLevels pages m the_root) tall good.levels));
  at = at;
  under = under;
}

-- the way of a key goes through one of the two children of a root
ways_of_two : (pages new : Pages) (spare : List ℕ) (k : ℕ) (key : Key) (left right : ℕ) (s : Key) → IsGoodTree new spare → walk new ≡ walk pages → height new ≡ suc k
    → below new the_root ≡ record { bound = None; page = left } ∷ record { bound = Some s; page = right } ∷ [] → KeepsWay pages new spare k key left right s
ways_of_two pages new spare k key left right s good walks tall two =
    let l : Node = record { bound = None; page = left } in
    let r : Node = record { bound = Some s; page = right } in
    record {
      good = good;
      walks = walks;
      low = λ under. node_on_way new spare (suc zero) k key [] l (r ∷ []) good tall two tt under;
      high = λ reached. node_on_way new spare (suc zero) k key (l ∷ []) r [] good tall two reached tt;
    }

-- A ROOT THAT IS A LEAF
pub key_root_leaf_split : (pages new : Pages) (spare : List ℕ) (key : Key) (left right n : ℕ) → SplitsKeyRootLeaf pages new spare left right n
    → KeepsWay pages new spare zero key left right (entry_at (pages 1).entries n).0
key_root_leaf_split pages new spare key left right n h =
    let f = h.pages_split in
    let s : Key = (entry_at (pages 1).entries n).0 in
    let done = leaf_root_split pages new spare left right s (record {
      good = h.good;
      tall = h.tall;
      root = f.root;
      leftmost = f.leftmost;
      entries = f.entries;
      is_left = f.is_left;
      is_right = f.is_right;
      halves = halves_at (pages 1).entries (new left).entries (new right).entries n h.rises h.within f.left_entries f.right_entries;
      left_prev = f.left_prev;
      left_next = f.left_next;
      right_prev = f.right_prev;
      right_next = f.right_next;
      others = f.others;
    }) in
    ways_of_two pages new spare zero key left right s done.0 done.1 f.root.1 (below_root pages new left right s (record { leftmost = f.leftmost; entries = f.entries }))

-- A ROOT THAT IS AN INNER PAGE
pub key_root_inner_split : (pages new : Pages) (spare : List ℕ) (h : ℕ) (key : Key) (left right n : ℕ) → SplitsKeyRootInner pages new spare h left right n
    → KeepsWay pages new spare (suc h) key left right (entry_at (pages 1).entries n).0
key_root_inner_split pages new spare h key left right n s =
    let f = s.pages_split in
    let up : Entry = entry_at (pages 1).entries n in
    let done = root_split pages new spare h left right up (record {
      good = s.good;
      tall = s.tall;
      root = f.root;
      leftmost = f.leftmost;
      entries = f.entries;
      is_left = f.is_left;
      is_right = f.is_right;
      joined = split_at (pages 1).entries n s.within ∙ sym (ap₂ (λ (x y : List Entry). x ++ up ∷ y) f.left_entries f.right_entries);
      left_leftmost = f.left_leftmost;
      right_leftmost = f.right_leftmost;
      others = f.others;
      links = f.links;
    }) in
    ways_of_two pages new spare (suc h) key left right up.0 done.0 done.1 f.root.1 (below_root pages new left right up.0 (record { leftmost = f.leftmost; entries = f.entries }))
