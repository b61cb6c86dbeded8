-- Deletions from what each page holds before and after.
use Rattle.std.proofs.Common.{◌≡◌, ℕ, zero, suc, ◌+◌, ◌<◌, List, [], ◌∷◌, ◌++◌, length, map, take, drop, None, refl, sym, ap, ap₂, subst, ◌∙◌, append_assoc, arith}
use Rattle.std.proofs.lemmas.List.{map-append}
use Rattle.im_base_types.specs.Keys.{Key}
use Rattle.im_base_types.specs.Pages.{Entry}
use Rattle.im_theory_page.specs.Entry.{entry_at}
use Rattle.im_theory_tree.specs.Levels.{Pages, Node, child_of, children, below, pages_under, the_root, walk}
use Rattle.im_theory_tree.specs.Same.{SameTree}
use Rattle.im_theory_tree.specs.Good.{times, IsGoodTree}
use Rattle.im_theory_tree.specs.Deletions.{IsBare, bare_leaf}
use Rattle.im_theory_tree.specs.KeyDeletions.{HasNone, chain_down, leaf_down, Unlinks, DropsEntry, DropsLeftmost, DropsAll}
use Rattle.im_theory_tree.proofs.Way.{split_at}
use Rattle.im_theory_tree.proofs.DropChild.{drop_child, last_of}
use Rattle.im_theory_tree.proofs.DropFirst.{drop_first}
use Rattle.im_theory_tree.proofs.EmptyRoot.{empty_root}
use Rattle.im_theory_tree.proofs.ChildPlaces.{first_child}

-- the chain of pages by nodes and by numbers
pub bare_of : (pages : Pages) (h : ℕ) (c : Node) → HasNone pages h c.page → IsBare pages h c
bare_of pages zero c none = none
bare_of pages (suc h) c none = (none.0, bare_of pages h (first_child pages c) none.1)

pub under_is : (pages : Pages) (h : ℕ) (c : Node) → HasNone pages h c.page → pages_under pages h (c ∷ []) ≡ chain_down pages h c.page
under_is pages zero c none = refl
under_is pages (suc h) c none =
    ap (λ ns. c.page ∷ pages_under pages h ns) (ap (λ es. (first_child pages c ∷ map child_of es) ++ []) none.0)
    ∙ ap (λ ps. c.page ∷ ps) (under_is pages h (first_child pages c) none.1)

pub leaf_is : (pages : Pages) (h : ℕ) (c : Node) → (bare_leaf pages h c).page ≡ leaf_down pages h c.page
leaf_is pages zero c = refl
leaf_is pages (suc h) c = leaf_is pages h (first_child pages c)

pub split_next : (es : List Entry) (i : ℕ) → i < length es → es ≡ take i es ++ entry_at es i ∷ drop (suc i) es
split_next es i lt = let next : i + 1 ≡ suc i = omega arith in split_at es i lt ∙ ap (λ k. take i es ++ entry_at es i ∷ drop k es) next

pub unlinks_at : (pages new : Pages) (h : ℕ) (c : Node) → HasNone pages h c.page → Unlinks pages new (leaf_down pages h c.page) (chain_down pages h c.page)
    → Unlinks pages new (bare_leaf pages h c).page (pages_under pages h (c ∷ []))
unlinks_at pages new h c none u =
    subst (λ x. Unlinks pages new x (pages_under pages h (c ∷ []))) (sym (leaf_is pages h c))
    (subst (Unlinks pages new (leaf_down pages h c.page)) (sym (under_is pages h c none)) u)

pub others_at : (pages new : Pages) (h parent : ℕ) (c : Node) → HasNone pages h c.page → ((x : ℕ) → times x (parent ∷ chain_down pages h c.page) ≡ 0 → SameTree (pages x) (new x))
    → (x : ℕ) → times x (parent ∷ pages_under pages h (c ∷ [])) ≡ 0 → SameTree (pages x) (new x)
others_at pages new h parent c none f x t = f x (subst (λ ps. times x (parent ∷ ps) ≡ 0) (under_is pages h c none) t)

-- A CHILD BEHIND ANOTHER GOES
pub drop_entry : (pages new : Pages) (spare : List ℕ) (h : ℕ) (key : Key) (parent p i : ℕ) → DropsEntry pages new spare h key parent p i
    → IsGoodTree new (chain_down pages h p ++ spare) × (walk new ≡ walk pages)
drop_entry pages new spare h key parent p i s0 =
    let way = s0.way in
    let s : DropsEntry pages new spare h key way.node.page p i = subst (λ x. DropsEntry pages new spare h key x p i) (sym way.page) s0 in
    let node = way.node in
    let es : List Entry = (pages node.page).entries in
    let c : Node = child_of (entry_at es i) in
    let none : HasNone pages h c.page = subst (HasNone pages h) (sym s.child) s.none in
    let unlinks : Unlinks pages new (leaf_down pages h c.page) (chain_down pages h c.page) =
    subst (λ x. Unlinks pages new (leaf_down pages h x) (chain_down pages h x)) (sym s.child) s.unlinks in
    let others = subst (λ y. (x : ℕ) → times x (node.page ∷ chain_down pages h y) ≡ 0 → SameTree (pages x) (new x)) (sym s.child) s.others in
    let front = map child_of (take i es) in
    let after = map child_of (drop (suc i) es) in
    let last = last_of (first_child pages node) front in
    let u : List Node = last.0 in
    let m : Node = last.1 in
    let u_is : first_child pages node ∷ front ≡ u ++ m ∷ [] = last.2 in
    let un = unlinks_at pages new h c none unlinks in
    let was : children pages node ≡ u ++ m ∷ c ∷ after =
    ap (λ xs. first_child pages node ∷ map child_of xs) (split_next es i s.within)
    ∙ ap (λ ns. first_child pages node ∷ ns) (map-append child_of (take i es) (entry_at es i ∷ drop (suc i) es))
    ∙ ap (λ ns. ns ++ c ∷ after) u_is ∙ append_assoc u (m ∷ []) (c ∷ after) in
    let now : children new node ≡ u ++ m ∷ after =
    ap₂ (λ (l : ℕ) (xs : List Entry). record { bound = node.bound; page = l } ∷ map child_of xs) s.leftmost s.entries
    ∙ ap (λ ns. first_child pages node ∷ ns) (map-append child_of (take i es) (drop (suc i) es))
    ∙ ap (λ ns. ns ++ after) u_is ∙ append_assoc u (m ∷ []) after in
    let done = drop_child pages new spare way.above h way.left way.right node u after m c (record {
      good = s.good;
      tall = way.tall;
      at = way.down;
      was = was;
      now = now;
      parent_kind = s.kind;
      parent_level = s.level;
      bare = bare_of pages h c none;
      others = others_at pages new h node.page c none others;
      left = un.left;
      right = un.right;
      links = un.links;
    }) in
    (subst (λ ps. IsGoodTree new (ps ++ spare)) (under_is pages h c none ∙ ap (chain_down pages h) s.child) done.0, done.1)

-- THE LEFTMOST CHILD GOES
pub drop_leftmost : (pages new : Pages) (spare : List ℕ) (h : ℕ) (key : Key) (parent p : ℕ) → DropsLeftmost pages new spare h key parent p
    → IsGoodTree new (chain_down pages h p ++ spare) × (walk new ≡ walk pages)
drop_leftmost pages new spare h key parent p s0 =
    let way = s0.way in
    let s : DropsLeftmost pages new spare h key way.node.page p = subst (λ x. DropsLeftmost pages new spare h key x p) (sym way.page) s0 in
    let node = way.node in
    let es : List Entry = (pages node.page).entries in
    let c : Node = first_child pages node in
    let e : Entry = entry_at es 0 in
    let none : HasNone pages h c.page = subst (HasNone pages h) (sym s.child) s.none in
    let unlinks : Unlinks pages new (leaf_down pages h c.page) (chain_down pages h c.page) =
    subst (λ x. Unlinks pages new (leaf_down pages h x) (chain_down pages h x)) (sym s.child) s.unlinks in
    let others = subst (λ y. (x : ℕ) → times x (node.page ∷ chain_down pages h y) ≡ 0 → SameTree (pages x) (new x)) (sym s.child) s.others in
    let after = map child_of (drop (suc zero) es) in
    let un = unlinks_at pages new h c none unlinks in
    let was : children pages node ≡ c ∷ child_of e ∷ after = ap (λ xs. first_child pages node ∷ map child_of xs) (split_next es 0 s.within) in
    let now : children new node ≡ record { bound = c.bound; page = e.1 } ∷ after =
    ap₂ (λ (l : ℕ) (xs : List Entry). record { bound = node.bound; page = l } ∷ map child_of xs) s.leftmost s.entries in
    let done = drop_first pages new spare way.above h way.left way.right node after c (child_of e) (record {
      good = s.good;
      tall = way.tall;
      at = way.down;
      was = was;
      now = now;
      parent_kind = s.kind;
      parent_level = s.level;
      bare = bare_of pages h c none;
      others = others_at pages new h node.page c none others;
      left = un.left;
      right = un.right;
      links = un.links;
    }) in
    (subst (λ ps. IsGoodTree new (ps ++ spare)) (under_is pages h c none ∙ ap (chain_down pages h) s.child) done.0, done.1)

-- THE ROOT IS LEFT WITHOUT A CHILD
pub drop_all : (pages new : Pages) (spare : List ℕ) (h : ℕ) → DropsAll pages new spare h → IsGoodTree new (chain_down pages h (pages 1).leftmost ++ spare) × (walk new ≡ walk pages)
drop_all pages new spare h s =
    let root : Node = record { bound = None; page = 1 } in
    let c : Node = first_child pages root in
    let under : pages_under pages (suc h) the_root ≡ chain_down pages (suc h) 1 = under_is pages (suc h) root s.none in
    let level : below pages the_root ≡ c ∷ [] = ap (λ es. (c ∷ map child_of es) ++ []) s.none.0 in
    let done = empty_root pages new spare h (record {
      good = s.good;
      tall = s.tall;
      bare = bare_of pages (suc h) root s.none;
      kind = s.kind;
      level = s.level;
      entries = s.entries;
      prev = s.prev;
      next = s.next;
      others = λ x t. s.others x (subst (λ ps. times x ps ≡ 0) under t);
    }) in
    (subst (λ ps. IsGoodTree new (ps ++ spare)) (ap (pages_under pages h) level ∙ under_is pages h c s.none.1) done.0, done.1)
