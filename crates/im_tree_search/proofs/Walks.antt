-- The list of all entries, along the leaf chain.
use Rattle.std.proofs.Common.{◌≡◌, ◌≢◌, ◌≤◌, ◌<◌, ◌+◌, ℕ, suc, List, [], ◌∷◌, ◌++◌, length, refl, sym, ◌∙◌, ap, ap₂, subst, arith, append_assoc, append-nil, length-append}
use Rattle.std.proofs.lemmas.List.Concat.{flat_map-append}
use Rattle.im_base_types.specs.declared.fault.Fault.{Fault}
use Rattle.im_base_types.specs.declared.fault.Fault.TheVariants.{Memory, NotAStore}
use Rattle.im_base_types.specs.Keys.{Key, IsBelow}
use Rattle.im_base_types.specs.Pages.{Body, Entry, Page}
use Rattle.im_base_types.specs.declared.page_kind.PageKind.TheVariants.{Leaf}
use Rattle.im_theory_tree.specs.Levels.{Pages, Node, leaves_under, entries_in, the_root, height, walk}
use Rattle.im_theory_tree.specs.Good.{AllOf, AreOrdered, AreChained, IsLeafPage, first_page, IsGoodTree}
use Rattle.im_theory_tree.specs.Search.{IsOnWay}
use Rattle.im_theory_tree.specs.Lookups.{IsLeafAhead}
use Rattle.im_theory_tree.proofs.Cited.{before_below, AllOf-right, chained_right, leaves_counted, leaf_in_tree, leaves_are_leaves}
use Rattle.im_tree_search.specs.Levels.{HasLevel}
use Rattle.im_tree_search.specs.Found.{IsListed}

-- no key is below the empty one
none_below : (key : Key) → IsBelow key [] → ⊥
none_below [] h = let less = h.less in cc
none_below (x ∷ key) h = let less = h.less in cc

nothing_below : (es : List Entry) → AllOf (λ (e : Entry). IsBelow e.0 []) es → [] ≡ es
nothing_below [] h = refl
nothing_below (e ∷ es) h = absurd (none_below e.0 h.0)

-- the list begins at the leaf of the empty key
pub listed_begins : (pages : Pages) (spare : List ℕ) (p : ℕ) → IsGoodTree pages spare → IsOnWay pages 0 [] p → IsListed pages [] 0 p
listed_begins pages spare p good way =
    let ordered : AreOrdered pages (way.left ++ way.node ∷ way.right) = subst (AreOrdered pages) (sym way.leaves) good.ordered in
    record {
      before = way.left;
      rest = way.node ∷ way.right;
      leaves = sym way.leaves;
      page = way.page;
      count = omega arith;
      entries = nothing_below (entries_in pages way.left) (before_below pages way.left way.right way.node [] ordered way.at);
    }

-- the page ahead is a leaf below the page count, and fewer leaves than pages have been passed
pub leaf_facts : (pages : Pages) (spare : List ℕ) (before : List Node) (node : Node) (after : List Node) (passed p : ℕ) → IsGoodTree pages spare → leaves_under pages (height pages) the_root ≡ before ++ node ∷ after
    → node.page ≡ p → passed ≤ length before → IsLeafAhead pages passed p
leaf_facts pages spare before node after passed p good leaves page count =
    let all : AllOf (IsLeafPage pages) (before ++ node ∷ after) = subst (AllOf (IsLeafPage pages)) leaves (leaves_are_leaves pages (height pages) the_root good.levels) in
    let here = (AllOf-right (IsLeafPage pages) before (node ∷ after) all).0 in
    record {
      kind = subst (λ q. (pages q).kind ≡ Leaf) page here.0;
      level = subst (λ q. (pages q).level ≡ 0) page here.1;
      known = subst (λ q. q < (pages 0).leftmost) page (leaf_in_tree pages spare before node after good leaves).1;
      few = omega (arith, count, leaves_counted pages spare good, ap (λ (ns : List Node). length ns) leaves, length-append before (node ∷ after));
    }

pub listed_leaf : (pages : Pages) (spare : List ℕ) (list : List Entry) (passed p : ℕ) → IsGoodTree pages spare → IsListed pages list passed p → 1 ≤ p → IsLeafAhead pages passed p
listed_leaf pages spare list passed p good h some = by h.rest h.leaves h.page
  where
    by : (rest : List Node) → leaves_under pages (height pages) the_root ≡ h.before ++ rest → first_page rest ≡ p → IsLeafAhead pages passed p
    by [] leaves page = absurd (omega (arith, page, some))
    by (node ∷ after) leaves page = leaf_facts pages spare h.before node after passed p good leaves page h.count

pub listed_level : (pages : Pages) (spare : List ℕ) (list : List Entry) (passed p : ℕ) → IsGoodTree pages spare → IsListed pages list passed p → 1 ≤ p → HasLevel 0 (pages p)
listed_level pages spare list passed p good h some = let leaf = listed_leaf pages spare list passed p good h some in record { kind = leaf.kind; level = leaf.level }

-- a chain with as many leaves as there are pages is none of a good tree
pub listed_within : (pages : Pages) (spare : List ℕ) (list : List Entry) (left passed p : ℕ) → IsGoodTree pages spare → IsListed pages list passed p → 1 ≤ p → left + passed ≡ (pages 0).leftmost → left ≡ 0 → ⊥
listed_within pages spare list left passed p good h some count none = let few : passed + 1 < (pages 0).leftmost = (listed_leaf pages spare list passed p good h some).few in omega (arith, few, count, none)

-- it goes on after the leaf, whose entries join
listed_on : (pages : Pages) (spare : List ℕ) (list : List Entry) (passed p : ℕ) → IsGoodTree pages spare → IsListed pages list passed p → 1 ≤ p → IsListed pages (list ++ (pages p).entries) (suc passed) (pages p).next
listed_on pages spare list passed p good h some = by h.rest h.leaves h.page
  where
    by : (rest : List Node) → leaves_under pages (height pages) the_root ≡ h.before ++ rest → first_page rest ≡ p → IsListed pages (list ++ (pages p).entries) (suc passed) (pages p).next
    by [] leaves page = absurd (omega (arith, page, some))
    by (node ∷ after) leaves page =
        let chain = chained_right pages 0 h.before (node ∷ after) (subst (AreChained pages 0) leaves good.chained) in
        let next : (pages node.page).next ≡ first_page after = chain.1.1 in
        record {
          before = h.before ++ node ∷ [];
          rest = after;
          leaves = leaves ∙ sym (append_assoc h.before (node ∷ []) after);
          page = sym next ∙ ap (λ q. (pages q).next) page;
          count = omega (arith, h.count, length-append h.before (node ∷ []));
          entries = ap₂ (λ (xs ys : List Entry). xs ++ ys) h.entries (ap (λ q. (pages q).entries) (sym page) ∙ sym (append-nil (pages node.page).entries))
              ∙ sym (flat_map-append (λ (m : Node). (pages m.page).entries) h.before (node ∷ []));
        }

pub listed_next : (pages : Pages) (spare : List ℕ) (list new : List Entry) (passed p : ℕ) (lent held : Page) → IsGoodTree pages spare → IsListed pages list passed p → 1 ≤ p → lent ≡ held → held.body ≡ pages p
    → new ≡ list ++ lent.body.entries → IsListed pages new (suc passed) lent.body.next
listed_next pages spare list new passed p lent held good h some same is joins =
    let body : lent.body ≡ pages p = ap (λ (g : Page). g.body) same ∙ is in
    let on : IsListed pages (list ++ lent.body.entries) (suc passed) lent.body.next =
    subst (λ (x : Body). IsListed pages (list ++ x.entries) (suc passed) x.next) (sym body) (listed_on pages spare list passed p good h some) in
    subst (λ (es : List Entry). IsListed pages es (suc passed) lent.body.next) (sym joins) on

-- after the last leaf the list is the walk
pub listed_ends : (pages : Pages) (spare : List ℕ) (list : List Entry) (passed p : ℕ) → IsGoodTree pages spare → IsListed pages list passed p → p ≡ 0 → list ≡ walk pages
listed_ends pages spare list passed p good h end = by h.rest h.leaves h.page
  where
    by : (rest : List Node) → leaves_under pages (height pages) the_root ≡ h.before ++ rest → first_page rest ≡ p → list ≡ walk pages
    by [] leaves page = h.entries ∙ ap (entries_in pages) (sym (leaves ∙ append-nil h.before))
    by (node ∷ after) leaves page = absurd (omega (arith, end, page, (leaf_in_tree pages spare h.before node after good leaves).0))

pub memory_not : (e : Fault) → e ≡ Memory → e ≢ NotAStore
memory_not e is why = let clash : Memory ≡ NotAStore = sym is ∙ why in cc clash
