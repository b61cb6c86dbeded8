-- A tree of two leaves, what wrong steps make of it, and wrong searches, plans and trees.
use Rattle.std.specs.Prelude.{◌≡◌, ◌⊎◌, ℕ, ◌+◌, ◌<◌, true, List, [], ◌∷◌, length, drop, if◌then◌else◌, ◌==◌}
use Rattle.im_base_types.specs.Keys.{Key, IsBelow}
use Rattle.im_base_types.specs.Pages.{Body, Entry}
use Rattle.im_theory_log.specs.Tree.{Tree}
use Rattle.im_base_types.specs.declared.page_kind.PageKind.TheVariants.{Free, Meta, Leaf, Inner}
use Rattle.im_theory_page.specs.Entry.{entry_at}
use Rattle.im_theory_page.specs.Header.{empty_body, leaf_body}
use Rattle.im_theory_page.specs.Split.{HasRoom}
use Rattle.im_theory_tree.specs.Levels.{Pages, walk}
use Rattle.im_theory_tree.specs.Good.{IsGoodTree}
use Rattle.im_theory_tree.specs.Plans.{Plan}
use Rattle.im_theory_tree.specs.Theory.{CanDropFrom}

-- the keys "a", "b" and "c"
abbrev pub key_a : Key
key_a = 97 ∷ []

abbrev pub key_b : Key
key_b = 98 ∷ []

abbrev pub key_c : Key
key_c = 99 ∷ []

abbrev pub free_body : Body
free_body = empty_body Free 0 0 0 0

-- the meta page, with its free pages and the page count
abbrev pub meta_body : (free first count : ℕ) → Body
meta_body free first count = empty_body Meta 0 free first count

-- a root over leaf 2, with further separators
abbrev pub root_body : List Entry → Body
root_body es = record (empty_body Inner 1 0 0 2) { entries = es }

-- pages 0 to 3
abbrev pub four_pages : Body → Body → Body → Body → Pages
four_pages a b c d p = if p == 0 then a else (if p == 1 then b else (if p == 2 then c else (if p == 3 then d else free_body)))

-- page 1 over leaf 2 with "a" and leaf 3 with "b" and "c"
abbrev pub two_leaves : Pages
two_leaves = four_pages (meta_body 0 0 4) (root_body ((key_b, 3) ∷ [])) (leaf_body 0 3 ((key_a, 7) ∷ [])) (leaf_body 2 0 ((key_b, 8) ∷ (key_c, 9) ∷ []))

-- the separator of a split was dropped: no entry leads to leaf 3
abbrev pub lost_separator : Pages
lost_separator = four_pages (meta_body 0 0 4) (root_body []) (leaf_body 0 3 ((key_a, 7) ∷ [])) (leaf_body 2 0 ((key_b, 8) ∷ (key_c, 9) ∷ []))

-- the separator is above a key of its leaf
abbrev pub high_separator : Pages
high_separator = four_pages (meta_body 0 0 4) (root_body ((key_c, 3) ∷ [])) (leaf_body 0 3 ((key_a, 7) ∷ [])) (leaf_body 2 0 ((key_b, 8) ∷ (key_c, 9) ∷ []))

-- leaf 3 was deleted and is free, but leaf 2 still names it as the next one
abbrev pub still_chained : Pages
still_chained = four_pages (meta_body 1 3 4) (root_body []) (leaf_body 0 3 ((key_a, 7) ∷ [])) free_body

-- leaf 3 was taken off the free list, and still stands there
abbrev pub used_twice : Pages
used_twice = four_pages (meta_body 1 3 4) (root_body ((key_b, 3) ∷ [])) (leaf_body 0 3 ((key_a, 7) ∷ [])) (leaf_body 2 0 ((key_b, 8) ∷ []))

-- two leaves with no entry under a root that has lost its last separator: leaf 3 stands nowhere
abbrev pub not_given_back : Pages
not_given_back = four_pages (meta_body 0 0 4) (root_body []) (leaf_body 0 0 ((key_a, 7) ∷ [])) free_body

-- ---- searches, plans and trees as they must not be. Edits that have to be refused put them in place of the right ones

-- the first of these entries, if there is one, is at or above the key
abbrev pub StartAtOrAbove : Key → List Entry → Type 0
StartAtOrAbove key [] = Unit {0}
StartAtOrAbove key (e ∷ es) = (key ≡ e.0) ⊎ IsBelow key e.0

-- a search that goes left at a separator that equals its key
abbrev pub IsChildLeft : Body → Key → ℕ → Type 0
IsChildLeft b key child =
    ((child ≡ b.leftmost) × StartAtOrAbove key b.entries)
    ⊎ ((i : ℕ) × (i < length b.entries) × (child ≡ (entry_at b.entries i).1) × IsBelow (entry_at b.entries i).0 key × StartAtOrAbove key (drop (i + 1) b.entries))

-- pages of which the first image of a plan alone is taken back
abbrev pub restored_first : Pages → Plan → Pages
restored_first pages [] q = pages q
restored_first pages (i ∷ plan) q = if i.page == q then i.before else pages q

-- a tree in which a key may be put into any leaf that has room
abbrev pub any_leaf_tree : Tree
any_leaf_tree = record {
  walk = walk;
  Good = λ pages. IsGoodTree pages [];
  CanPut = λ pages p k i. ((pages p).kind ≡ Leaf) × HasRoom true (pages p).entries (k, i);
  CanDrop = CanDropFrom;
}
