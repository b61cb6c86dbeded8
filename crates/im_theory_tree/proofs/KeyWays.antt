-- The same of splits and deletions as they are described by numbers of pages.
use Rattle.std.proofs.Common.{◌≡◌, ◌≢◌, ℕ, zero, suc, ◌+◌, ◌<◌, List, [], ◌∷◌, ◌++◌, length, map, take, drop, None, sym, ap, ap₂, subst, ◌∙◌, append_assoc, arith}
use Rattle.std.proofs.lemmas.List.{map-append}
use Rattle.im_base_types.specs.Keys.{Key}
use Rattle.im_base_types.specs.Pages.{Entry}
use Rattle.im_theory_page.specs.Entry.{entry_at, Rises}
use Rattle.im_theory_page.specs.Child.{IsChild}
use Rattle.im_theory_tree.specs.Levels.{Pages, Node, child_of, children, pages_under, the_root}
use Rattle.im_theory_tree.specs.Same.{SameTree}
use Rattle.im_theory_tree.specs.Good.{times}
use Rattle.im_theory_tree.specs.Allocations.{TakesFree, TakesCount, GivesFree}
use Rattle.im_theory_tree.specs.KeySplits.{SplitsLeafPages, SplitsKeyLeaf, SplitsInnerPages, SplitsKeyInner, SplitsKeyRootLeaf, SplitsKeyRootInner}
use Rattle.im_theory_tree.specs.KeyDeletions.{HasNone, chain_down, leaf_down, Unlinks, DropsEntry, DropsLeftmost, DropsAll}
use Rattle.im_theory_tree.specs.Steps.{DropsChain, FromEntry, FromLeftmost, FromRoot}
use Rattle.im_theory_tree.proofs.Way.{split_at}
use Rattle.im_theory_tree.proofs.WayStays.{way_stays}
use Rattle.im_theory_tree.proofs.FreeList.{take_free, take_count, give_free}
use Rattle.im_theory_tree.proofs.Descent.{times-here}
use Rattle.im_theory_tree.proofs.DropChild.{last_of}
use Rattle.im_theory_tree.proofs.ChildPlaces.{ChildPlace, child_place, first_child}
use Rattle.im_theory_tree.proofs.HalvesLemmas.{halves_at}
use Rattle.im_theory_tree.proofs.LeafSplitWay.{leaf_split_at}
use Rattle.im_theory_tree.proofs.InnerSplitWay.{inner_split_at}
use Rattle.im_theory_tree.proofs.KeyDeletionLemmas.{bare_of, under_is, leaf_is, split_next, unlinks_at, others_at}
use Rattle.im_theory_tree.specs.Ways.{KeepsWays, KeepsAllWays, SplitsKeepWays, DeletionsKeepWays}
use Rattle.im_theory_tree.proofs.WayLeaves.{leaf_split_ways, leaf_root_split_ways, root_split_ways, inner_split_ways, drop_child_ways, drop_first_ways, empty_root_ways}

-- ---- splits

pub key_leaf_ways : (pages new : Pages) (spare : List ℕ) (key : Key) (parent p q n : ℕ) → SplitsKeyLeaf pages new spare key parent p q n → KeepsWays pages new (λ x. x ≢ p)
key_leaf_ways pages new spare key parent p q n h =
    let way = h.way in
    let place : ChildPlace pages way.node key p = child_place pages way.node key p way.at (subst (λ x. IsChild (pages x) key p) (sym way.page) h.child) in
    let c = place.c in
    let facts : SplitsLeafPages pages new way.node.page c.page q n =
    subst (λ x. SplitsLeafPages pages new x c.page q n) (sym way.page) (subst (λ x. SplitsLeafPages pages new parent x q n) (sym place.page) h.pages_split) in
    let step = leaf_split_at pages new spare key way.above way.left way.right way.node p q n place h.good way.tall way.down
    (subst (λ x. Rises (pages x).entries) (sym way.page) h.parent_rises) (subst (λ x. Rises (pages x).entries) (sym place.page) h.rises)
    h.some (subst (λ x. n < length (pages x).entries) (sym place.page) h.within) facts in
    subst (λ y. KeepsWays pages new (λ x. x ≢ y)) place.page
    (leaf_split_ways pages new spare way.above way.left way.right way.node place.before (map child_of place.v) c q (entry_at (pages c.page).entries n).0 step)

pub key_inner_ways : (pages new : Pages) (spare : List ℕ) (h : ℕ) (key : Key) (parent p q n : ℕ) → SplitsKeyInner pages new spare h key parent p q n → KeepsAllWays pages new
key_inner_ways pages new spare h key parent p q n s =
    let way = s.way in
    let place : ChildPlace pages way.node key p = child_place pages way.node key p way.at (subst (λ x. IsChild (pages x) key p) (sym way.page) s.child) in
    let c = place.c in
    let facts : SplitsInnerPages pages new h way.node.page c.page q n =
    subst (λ x. SplitsInnerPages pages new h x c.page q n) (sym way.page) (subst (λ x. SplitsInnerPages pages new h parent x q n) (sym place.page) s.pages_split) in
    let step = inner_split_at pages new spare h key way.above way.left way.right way.node p q n place s.good way.tall way.down
    (subst (λ x. Rises (pages x).entries) (sym way.page) s.parent_rises) (subst (λ x. n < length (pages x).entries) (sym place.page) s.within) facts in
    inner_split_ways pages new spare way.above h way.left way.right way.node place.before (map child_of place.v) c q (entry_at (pages c.page).entries n) step

pub key_root_leaf_ways : (pages new : Pages) (spare : List ℕ) (left right n : ℕ) → SplitsKeyRootLeaf pages new spare left right n → KeepsWays pages new (λ x. x ≢ 1)
key_root_leaf_ways pages new spare left right n h =
    let f = h.pages_split in
    leaf_root_split_ways pages new spare left right (entry_at (pages 1).entries n).0 (record {
      good = h.good;
      tall = h.tall;
      root = f.root;
      leftmost = f.leftmost;
      entries = f.entries;
      is_left = f.is_left;
      is_right = f.is_right;
      halves = halves_at (pages 1).entries (new left).entries (new right).entries n h.rises h.within f.left_entries f.right_entries;
      left_prev = f.left_prev;
      left_next = f.left_next;
      right_prev = f.right_prev;
      right_next = f.right_next;
      others = f.others;
    })

pub key_root_inner_ways : (pages new : Pages) (spare : List ℕ) (h left right n : ℕ) → SplitsKeyRootInner pages new spare h left right n → KeepsAllWays pages new
key_root_inner_ways pages new spare h left right n s =
    let f = s.pages_split in
    let up : Entry = entry_at (pages 1).entries n in
    root_split_ways pages new spare h left right up (record {
      good = s.good;
      tall = s.tall;
      root = f.root;
      leftmost = f.leftmost;
      entries = f.entries;
      is_left = f.is_left;
      is_right = f.is_right;
      joined = split_at (pages 1).entries n s.within ∙ sym (ap₂ (λ (x y : List Entry). x ++ up ∷ y) f.left_entries f.right_entries);
      left_leftmost = f.left_leftmost;
      right_leftmost = f.right_leftmost;
      others = f.others;
      links = f.links;
    })

pub splits_keep_ways : SplitsKeepWays
splits_keep_ways = record { leaf = key_leaf_ways; inner = key_inner_ways; root_leaf = key_root_leaf_ways; root_inner = key_root_inner_ways }

-- ---- deletions

entry_ways : (pages new : Pages) (spare : List ℕ) (h : ℕ) (key : Key) (parent p i : ℕ) → DropsEntry pages new spare h key parent p i → KeepsWays pages new (λ x. x ≢ leaf_down pages h p)
entry_ways pages new spare h key parent p i s0 =
    let way = s0.way in
    let s : DropsEntry pages new spare h key way.node.page p i = subst (λ x. DropsEntry pages new spare h key x p i) (sym way.page) s0 in
    let node = way.node in
    let es : List Entry = (pages node.page).entries in
    let c : Node = child_of (entry_at es i) in
    let none : HasNone pages h c.page = subst (HasNone pages h) (sym s.child) s.none in
    let unlinks : Unlinks pages new (leaf_down pages h c.page) (chain_down pages h c.page) =
    subst (λ x. Unlinks pages new (leaf_down pages h x) (chain_down pages h x)) (sym s.child) s.unlinks in
    let others = subst (λ y. (x : ℕ) → times x (node.page ∷ chain_down pages h y) ≡ 0 → SameTree (pages x) (new x)) (sym s.child) s.others in
    let front = map child_of (take i es) in
    let after = map child_of (drop (suc i) es) in
    let last = last_of (first_child pages node) front in
    let u : List Node = last.0 in
    let m : Node = last.1 in
    let u_is : first_child pages node ∷ front ≡ u ++ m ∷ [] = last.2 in
    let un = unlinks_at pages new h c none unlinks in
    let was : children pages node ≡ u ++ m ∷ c ∷ after =
    ap (λ xs. first_child pages node ∷ map child_of xs) (split_next es i s.within)
    ∙ ap (λ ns. first_child pages node ∷ ns) (map-append child_of (take i es) (entry_at es i ∷ drop (suc i) es))
    ∙ ap (λ ns. ns ++ c ∷ after) u_is ∙ append_assoc u (m ∷ []) (c ∷ after) in
    let now : children new node ≡ u ++ m ∷ after =
    ap₂ (λ (l : ℕ) (xs : List Entry). record { bound = node.bound; page = l } ∷ map child_of xs) s.leftmost s.entries
    ∙ ap (λ ns. first_child pages node ∷ ns) (map-append child_of (take i es) (drop (suc i) es))
    ∙ ap (λ ns. ns ++ after) u_is ∙ append_assoc u (m ∷ []) after in
    subst (λ y. KeepsWays pages new (λ x. x ≢ y)) (leaf_is pages h c ∙ ap (leaf_down pages h) s.child)
    (drop_child_ways pages new spare way.above h way.left way.right node u after m c (record {
      good = s.good;
      tall = way.tall;
      at = way.down;
      was = was;
      now = now;
      parent_kind = s.kind;
      parent_level = s.level;
      bare = bare_of pages h c none;
      others = others_at pages new h node.page c none others;
      left = un.left;
      right = un.right;
      links = un.links;
    }))

leftmost_ways : (pages new : Pages) (spare : List ℕ) (h : ℕ) (key : Key) (parent p : ℕ) → DropsLeftmost pages new spare h key parent p → KeepsWays pages new (λ x. x ≢ leaf_down pages h p)
leftmost_ways pages new spare h key parent p s0 =
    let way = s0.way in
    let s : DropsLeftmost pages new spare h key way.node.page p = subst (λ x. DropsLeftmost pages new spare h key x p) (sym way.page) s0 in
    let node = way.node in
    let es : List Entry = (pages node.page).entries in
    let c : Node = first_child pages node in
    let e : Entry = entry_at es 0 in
    let none : HasNone pages h c.page = subst (HasNone pages h) (sym s.child) s.none in
    let unlinks : Unlinks pages new (leaf_down pages h c.page) (chain_down pages h c.page) =
    subst (λ x. Unlinks pages new (leaf_down pages h x) (chain_down pages h x)) (sym s.child) s.unlinks in
    let others = subst (λ y. (x : ℕ) → times x (node.page ∷ chain_down pages h y) ≡ 0 → SameTree (pages x) (new x)) (sym s.child) s.others in
    let after = map child_of (drop (suc zero) es) in
    let un = unlinks_at pages new h c none unlinks in
    let was : children pages node ≡ c ∷ child_of e ∷ after = ap (λ xs. first_child pages node ∷ map child_of xs) (split_next es 0 s.within) in
    let now : children new node ≡ record { bound = c.bound; page = e.1 } ∷ after =
    ap₂ (λ (l : ℕ) (xs : List Entry). record { bound = node.bound; page = l } ∷ map child_of xs) s.leftmost s.entries in
    subst (λ y. KeepsWays pages new (λ x. x ≢ y)) (leaf_is pages h c ∙ ap (leaf_down pages h) s.child)
    (drop_first_ways pages new spare way.above h way.left way.right node after c (child_of e) (record {
      good = s.good;
      tall = way.tall;
      at = way.down;
      was = was;
      now = now;
      parent_kind = s.kind;
      parent_level = s.level;
      bare = bare_of pages h c none;
      others = others_at pages new h node.page c none others;
      left = un.left;
      right = un.right;
      links = un.links;
    }))

all_ways : (pages new : Pages) (spare : List ℕ) (h : ℕ) → DropsAll pages new spare h → KeepsWays pages new (λ x. x ≢ leaf_down pages (suc h) 1)
all_ways pages new spare h s =
    let root : Node = record { bound = None; page = 1 } in
    let under : pages_under pages (suc h) the_root ≡ chain_down pages (suc h) 1 = under_is pages (suc h) root s.none in
    subst (λ y. KeepsWays pages new (λ x. x ≢ y)) (leaf_is pages (suc h) root)
    (empty_root_ways pages new spare h (record {
      good = s.good;
      tall = s.tall;
      bare = bare_of pages (suc h) root s.none;
      kind = s.kind;
      level = s.level;
      entries = s.entries;
      prev = s.prev;
      next = s.next;
      others = λ x t. s.others x (subst (λ ps. times x ps ≡ 0) under t);
    }))

-- the leaf at the end of a chain is one of it
leaf_in_chain : (pages : Pages) (h p x : ℕ) → times x (chain_down pages h p) ≡ 0 → x ≢ leaf_down pages h p
leaf_in_chain pages zero p x none e = absurd (omega (arith, subst (λ y. times y (p ∷ []) ≡ 0) e none, times-here p []))
leaf_in_chain pages (suc h) p x none e = leaf_in_chain pages h (pages p).leftmost x (omega (arith, none)) e

pub chain_ways : (pages new : Pages) (gone : List ℕ) → DropsChain pages new gone → KeepsWays pages new (λ x. times x gone ≡ 0)
chain_ways pages new gone (FromEntry h key parent p i s e) key_of q way apart =
    entry_ways pages new [] h key parent p i s key_of q way (leaf_in_chain pages h p q (subst (λ ps. times q ps ≡ 0) e apart))
chain_ways pages new gone (FromLeftmost h key parent p s e) key_of q way apart =
    leftmost_ways pages new [] h key parent p s key_of q way (leaf_in_chain pages h p q (subst (λ ps. times q ps ≡ 0) e apart))
chain_ways pages new gone (FromRoot h s e) key_of q way apart =
    all_ways pages new [] h s key_of q way (leaf_in_chain pages h (pages 1).leftmost q (subst (λ ps. times q ps ≡ 0) e apart))

-- ---- allocations

takes_free_ways : (pages new : Pages) (spare : List ℕ) (n q : ℕ) → TakesFree pages new spare n q → KeepsAllWays pages new
takes_free_ways pages new spare n q s key p way apart =
    way_stays pages new spare (q ∷ spare) zero key p s.good (take_free pages new spare n q s).0
    (λ x t. (s.others x (omega (arith, t))).0) way

takes_count_ways : (pages new : Pages) (spare : List ℕ) → TakesCount pages new spare → KeepsAllWays pages new
takes_count_ways pages new spare s key p way apart =
    way_stays pages new spare ((pages 0).leftmost ∷ spare) zero key p s.good (take_count pages new spare s).0
    (λ x t. (s.others x (omega (arith, t))).0) way

gives_ways : (pages new : Pages) (spare : List ℕ) (q : ℕ) → GivesFree pages new spare q → KeepsAllWays pages new
gives_ways pages new spare q s key p way apart =
    way_stays pages new (q ∷ spare) spare zero key p s.good (give_free pages new spare q s).0
    (λ x t. (s.others x (omega (arith, t))).0) way

pub deletions_keep_ways : DeletionsKeepWays
deletions_keep_ways = record {
  entry = entry_ways;
  leftmost = leftmost_ways;
  all = all_ways;
  chain = chain_ways;
  takes_free = takes_free_ways;
  takes_count = takes_count_ways;
  gives = gives_ways;
}
