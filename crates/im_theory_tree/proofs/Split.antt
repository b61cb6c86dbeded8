-- One page becomes two, and their parent gets a separator.
use Rattle.std.proofs.Common.{◌≡◌, ℕ, suc, List, [], ◌∷◌, ◌++◌, map, Some, None, sym, ap, ap₂, ◌∙◌, append_assoc}
use Rattle.std.proofs.lemmas.List.{map-append}
use Rattle.std.proofs.lemmas.List.Concat.{flat_map-append}
use Rattle.im_theory_tree.specs.Levels.{Pages, Node, child_of, children, below, leaves_under, pages_under, entries_in, the_root, page_numbers}
use Rattle.im_theory_tree.specs.Same.{SameOn}
use Rattle.im_theory_tree.specs.Splits.{PutsSeparator, SplitsInner}
use Rattle.im_base_types.specs.Pages.{Entry}
use Rattle.im_theory_tree.proofs.Frame.{below_same, entries_same, leaves_same}

-- page p keeps a front of its entries, and q has the rest, from the separator on
pub record SplitsLeaf (pages new : Pages) (p q : ℕ) (s : List ℕ) : Type 0 where
  pub joined : (new p).entries ++ (new q).entries ≡ (pages p).entries

-- the children of the halves are those of the whole
pub children_split : (pages new : Pages) (n : Node) (q : ℕ) (up : Entry) → SplitsInner pages new n.page q up
    → children new n ++ children new (record { bound = Some up.0; page = q }) ≡ children pages n
children_split pages new n q up h =
    let moved = map-append child_of (new n.page).entries (up ∷ (new q).entries) in
    ap₂ (λ l r. (record { bound = n.bound; page = l } ∷ map child_of (new n.page).entries) ++ record { bound = Some up.0; page = r } ∷ map child_of (new q).entries) h.left h.right
    ∙ ap (λ es. record { bound = n.bound; page = (pages n.page).leftmost } ∷ es) (sym moved ∙ ap (map child_of) (sym h.joined))

-- so the levels under a split page stay as they are
pub below_split : (pages new : Pages) (a b : List Node) (n : Node) (q : ℕ) (up : Entry) → SplitsInner pages new n.page q up
    → SameOn pages new (page_numbers a) → SameOn pages new (page_numbers b)
    → below new (a ++ n ∷ record { bound = Some up.0; page = q } ∷ b) ≡ below pages (a ++ n ∷ b)
below_split pages new a b n q up h sa sb =
    let m : Node = record { bound = Some up.0; page = q } in
    flat_map-append (children new) a (n ∷ m ∷ b)
    ∙ ap₂ ◌++◌ (below_same pages new a sa)
    (sym (append_assoc (children new n) (children new m) (below new b)) ∙ ap₂ ◌++◌ (children_split pages new n q up h) (below_same pages new b sb))
    ∙ sym (flat_map-append (children pages) a (n ∷ b))

-- a level above the split: one node more
pub below_put : (pages new : Pages) (a b : List Node) (parent : Node) (before after : List Node) (n : Node) (s : Entry)
    → PutsSeparator pages new parent before after n s → SameOn pages new (page_numbers a) → SameOn pages new (page_numbers b)
    → below new (a ++ parent ∷ b) ≡ (below pages a ++ before) ++ n ∷ child_of s ∷ (after ++ below pages b)
below_put pages new a b parent before after n s h sa sb =
    flat_map-append (children new) a (parent ∷ b)
    ∙ ap₂ ◌++◌ (below_same pages new a sa) (ap₂ ◌++◌ h.now (below_same pages new b sb) ∙ append_assoc before (n ∷ child_of s ∷ after) (below pages b))
    ∙ sym (append_assoc (below pages a) before (n ∷ child_of s ∷ (after ++ below pages b)))

pub below_was : (pages new : Pages) (a b : List Node) (parent : Node) (before after : List Node) (n : Node) (s : Entry)
    → PutsSeparator pages new parent before after n s
    → below pages (a ++ parent ∷ b) ≡ (below pages a ++ before) ++ n ∷ (after ++ below pages b)
below_was pages new a b parent before after n s h =
    flat_map-append (children pages) a (parent ∷ b)
    ∙ ap (λ c. below pages a ++ (c ++ below pages b)) h.was
    ∙ ap (λ c. below pages a ++ c) (append_assoc before (n ∷ after) (below pages b))
    ∙ sym (append_assoc (below pages a) before (n ∷ (after ++ below pages b)))

-- THE WALK STAYS where a leaf is split
pub walk_split_leaf : (pages new : Pages) (a b : List Node) (n m : Node) (s : List ℕ) → SplitsLeaf pages new n.page m.page s
    → SameOn pages new (page_numbers a) → SameOn pages new (page_numbers b)
    → entries_in new (a ++ n ∷ m ∷ b) ≡ entries_in pages (a ++ n ∷ b)
walk_split_leaf pages new a b n m s h sa sb =
    let f : Pages → Node → List Entry = λ ps x. (ps x.page).entries in
    flat_map-append (f new) a (n ∷ m ∷ b)
    ∙ ap₂ ◌++◌ (entries_same pages new a sa)
    (sym (append_assoc (new n.page).entries (new m.page).entries (entries_in new b)) ∙ ap₂ ◌++◌ h.joined (entries_same pages new b sb))
    ∙ sym (flat_map-append (f pages) a (n ∷ b))

-- THE LEAVES STAY where an inner page is split
pub leaves_split_inner : (pages new : Pages) (h : ℕ) (a b : List Node) (n : Node) (q : ℕ) (up : Entry) → SplitsInner pages new n.page q up
    → SameOn pages new (page_numbers a) → SameOn pages new (page_numbers b) → SameOn pages new (pages_under pages h (below pages (a ++ n ∷ b)))
    → leaves_under new (suc h) (a ++ n ∷ record { bound = Some up.0; page = q } ∷ b) ≡ leaves_under pages (suc h) (a ++ n ∷ b)
leaves_split_inner pages new h a b n q up split sa sb under =
    ap (leaves_under new h) (below_split pages new a b n q up split sa sb) ∙ leaves_same pages new h (below pages (a ++ n ∷ b)) under

-- the root becomes the parent of its halves
pub record GrowsRoot (pages new : Pages) (left right : ℕ) (s : List ℕ) : Type 0 where
  pub leftmost : (new 1).leftmost ≡ left
  pub entries : (new 1).entries ≡ (s, right) ∷ []

pub below_root : (pages new : Pages) (left right : ℕ) (s : List ℕ) → GrowsRoot pages new left right s
    → below new the_root ≡ record { bound = None; page = left } ∷ record { bound = Some s; page = right } ∷ []
below_root pages new left right s h =
    ap₂ (λ l es. (record { bound = None; page = l } ∷ map child_of es) ++ []) h.leftmost h.entries

-- of an inner root: its halves have its children
pub leaves_split_root : (pages new : Pages) (h left right : ℕ) (up : Entry) → GrowsRoot pages new left right up.0
    → (pages 1).entries ≡ (new left).entries ++ up ∷ (new right).entries → (new left).leftmost ≡ (pages 1).leftmost → (new right).leftmost ≡ up.1
    → SameOn pages new (pages_under pages h (below pages the_root))
    → leaves_under new (suc (suc h)) the_root ≡ leaves_under pages (suc h) the_root
leaves_split_root pages new h left right up grows joined is_left is_right under =
    let l : Node = record { bound = None; page = left } in
    let r : Node = record { bound = Some up.0; page = right } in
    let moved = map-append child_of (new left).entries (up ∷ (new right).entries) in
    let halves : children new l ++ children new r ≡ children pages (record { bound = None; page = 1 }) =
    ap₂ (λ x y. (record { bound = None; page = x } ∷ map child_of (new left).entries) ++ record { bound = Some up.0; page = y } ∷ map child_of (new right).entries) is_left is_right
    ∙ ap (λ es. record { bound = None; page = (pages 1).leftmost } ∷ es) (sym moved ∙ ap (map child_of) (sym joined)) in
    ap (λ ns. leaves_under new h (below new ns)) (below_root pages new left right up.0 grows)
    ∙ ap (leaves_under new h) (sym (append_assoc (children new l) (children new r) []) ∙ ap (λ c. c ++ []) halves)
    ∙ leaves_same pages new h (below pages the_root) under
