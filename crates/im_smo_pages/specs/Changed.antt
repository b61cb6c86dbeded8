-- What pages hold after each step of a structure change, as updates of what they held before.
use Rattle.std.specs.Prelude.{◌≡◌, ℕ, zero, suc, ◌+◌, [], ◌∷◌, take, drop}
use Rattle.im_theory_log.specs.Tree.{with_body, with_entries}
use Rattle.im_base_types.specs.declared.page_kind.PageKind.TheVariants.{Free}
use Rattle.im_theory_page.specs.Entry.{entry_at}
use Rattle.im_theory_page.specs.Header.{empty_body, leaf_body}
use Rattle.im_theory_tree.specs.Levels.{Pages}
use Rattle.im_smo_pages.specs.Bodies.{inner_body, raised, with_separator, with_prev, with_next, without_entry, without_leftmost, meta_without_first, meta_with_count, meta_with_first}

-- the same pages
abbrev pub SamePages : Pages → Pages → Type 0
SamePages new pages = (x : ℕ) → new x ≡ pages x

-- a leaf with another leaf before it, and one with another after it; page 0 stands for no leaf
abbrev pub linked_prev : Pages → ℕ → ℕ → Pages
linked_prev pages zero v x = pages x
linked_prev pages (suc r) v x = with_body pages (suc r) (with_prev (pages (suc r)) v) x

abbrev pub linked_next : Pages → ℕ → ℕ → Pages
linked_next pages zero v x = pages x
linked_next pages (suc l) v x = with_body pages (suc l) (with_next (pages (suc l)) v) x

-- ---- splits at place n

-- leaf p keeps its first n entries, q has the rest, and the parent the separator
abbrev pub leaf_parted_pages : Pages → (parent p q n : ℕ) → Pages
leaf_parted_pages pages parent p q n =
    with_body
    (with_body
    (with_body pages parent (with_separator (pages parent) (entry_at (pages p).entries n).0 q))
    q (leaf_body p (pages p).next (drop n (pages p).entries)))
    p (leaf_body (pages p).prev q (take n (pages p).entries))

-- and the leaf after names q
abbrev pub leaf_split_pages : Pages → (parent p q n : ℕ) → Pages
leaf_split_pages pages parent p q n = linked_prev (leaf_parted_pages pages parent p q n) (pages p).next q

-- inner page p keeps its first n entries, the next key moves up to the parent, and q has what is after it
abbrev pub inner_split_pages : Pages → (parent p q n : ℕ) → Pages
inner_split_pages pages parent p q n =
    with_body
    (with_body
    (with_body pages parent (with_separator (pages parent) (entry_at (pages p).entries n).0 q))
    q (inner_body (pages p).level (entry_at (pages p).entries n).1 (drop (n + 1) (pages p).entries)))
    p (with_entries (pages p) (take n (pages p).entries))

-- the root, a leaf, is the parent of leaves l and r
abbrev pub root_leaf_split_pages : Pages → (l r n : ℕ) → Pages
root_leaf_split_pages pages l r n =
    with_body
    (with_body
    (with_body pages 1 (inner_body 1 l (((entry_at (pages 1).entries n).0, r) ∷ [])))
    r (leaf_body l 0 (drop n (pages 1).entries)))
    l (leaf_body 0 r (take n (pages 1).entries))

-- the root, an inner page, is the parent of inner pages l and r, one level up
abbrev pub root_inner_split_pages : Pages → (l r n : ℕ) → Pages
root_inner_split_pages pages l r n =
    with_body
    (with_body
    (with_body pages 1 (raised (pages 1) l (entry_at (pages 1).entries n).0 r))
    r (inner_body (pages 1).level (entry_at (pages 1).entries n).1 (drop (n + 1) (pages 1).entries)))
    l (with_entries (pages 1) (take n (pages 1).entries))

-- ---- deletions

-- the leaves beside a leaf name each other
abbrev pub unlinked_pages : Pages → (prev next : ℕ) → Pages
unlinked_pages pages prev next = linked_prev (linked_next pages prev next) next prev

-- the parent has no entry for the child at place i any more, and the leaf is out of the chain
abbrev pub entry_dropped_pages : Pages → (parent leaf i : ℕ) → Pages
entry_dropped_pages pages parent leaf i = unlinked_pages (with_body pages parent (without_entry (pages parent) i)) (pages leaf).prev (pages leaf).next

-- the parent has its first entry's child as leftmost one, and the leaf is out of the chain
abbrev pub leftmost_dropped_pages : Pages → (parent leaf : ℕ) → Pages
leftmost_dropped_pages pages parent leaf = unlinked_pages (with_body pages parent (without_leftmost (pages parent))) (pages leaf).prev (pages leaf).next

-- the root is a leaf without entries
abbrev pub root_emptied_pages : Pages → Pages
root_emptied_pages pages = with_body pages 1 (leaf_body 0 0 [])

-- ---- allocation

-- the first free page is free no more
abbrev pub free_taken_pages : Pages → Pages
free_taken_pages pages = with_body pages 0 (meta_without_first (pages 0) (pages (pages 0).next))

-- there is one page more
abbrev pub count_taken_pages : Pages → Pages
count_taken_pages pages = with_body pages 0 (meta_with_count (pages 0))

-- page q is the first free one
abbrev pub free_given_pages : Pages → (q : ℕ) → Pages
free_given_pages pages q = with_body (with_body pages 0 (meta_with_first (pages 0) q)) q (empty_body Free 0 0 (pages 0).next 0)
