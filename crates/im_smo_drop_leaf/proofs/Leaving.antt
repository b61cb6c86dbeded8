-- A chain that leaves the tree.
use Rattle.std.proofs.Common.{◌≡◌, ℕ, zero, suc, ◌≤◌, List, [], ◌∷◌, ◌++◌, inl, inr, refl, sym, ap, subst, ◌∙◌, arith}
use Rattle.std.proofs.Math.Path.{fun_ext}
use Rattle.std.proofs.lemmas.Bool.{cases_eq}
use Rattle.im_base_types.specs.Keys.{Key}
use Rattle.im_base_types.specs.Pages.{Body, Page}
use Rattle.im_theory_log.specs.Tree.{with_body}
use Rattle.im_page_writer.specs.Outcome.{AllPages}
use Rattle.im_base_types.specs.declared.page_kind.PageKind.TheVariants.{Leaf, Inner}
use Rattle.im_theory_tree.specs.Levels.{Pages, walk}
use Rattle.im_theory_tree.specs.Good.{IsGoodTree}
use Rattle.im_theory_tree.specs.Search.{IsOnWay}
use Rattle.im_theory_tree.specs.Steps.{DropsChain, FromEntry, FromLeftmost, FromRoot}
use Rattle.im_theory_tree.specs.KeyDeletions.{HasNone, chain_down, leaf_down}
use Rattle.im_theory_tree.proofs.Cited.{way_inner, drop_entry, drop_leftmost, drop_all}
use Rattle.im_smo_pages.specs.Bodies.{says, with_prev, with_next, without_entry, without_leftmost}
use Rattle.im_smo_pages.specs.Changed.{SamePages, linked_prev, linked_next, unlinked_pages}
use Rattle.im_smo_pages.specs.Images.{Numbered, IsRising, put_image, without_image}
use Rattle.im_smo_pages.specs.Seen.{seen, page_in}
use Rattle.im_smo_pages.proofs.Beside.{beside, place_on_way}
use Rattle.im_smo_pages.proofs.DropSteps.{entry_step, leftmost_step, root_step}
use Rattle.im_smo_pages.proofs.Updates.{at_other, next_tree}
use Rattle.im_smo_pages.proofs.Seeing.{page_says, put_back}
use Rattle.im_theory_page.specs.Header.{leaf_body}
use Rattle.im_tree_search.specs.declared.child_place.ChildPlace.{ChildPlace}
use Rattle.im_tree_search.specs.declared.child_place.ChildPlace.TheVariants.{Entry, Leftmost, Only}
use Rattle.im_smo_drop_leaf.specs.declared.beside.Side.{Side}
use Rattle.im_smo_drop_leaf.specs.declared.beside.Side.TheVariants.{Prev, Next}
use Rattle.im_smo_drop_leaf.specs.Chains.{out_of_tree, without_child, AreLeavesBeside, with_link, linked}
use Rattle.im_smo_drop_leaf.specs.Ways.{Hangs}

-- ---- the tree

no_more : (xs : List ℕ) → xs ++ [] ≡ xs
no_more [] = refl
no_more (x ∷ xs) = ap (λ (ys : List ℕ). x ∷ ys) (no_more xs)

abbrev LeavesTree : Pages → Pages → List ℕ → Type 0
LeavesTree pages new gone = IsGoodTree new gone × (walk new ≡ walk pages)

listed : (pages new : Pages) (chain gone : List ℕ) → chain ≡ gone → LeavesTree pages new (chain ++ []) → LeavesTree pages new gone
listed pages new chain gone is done = (subst (IsGoodTree new) (no_more chain ∙ is) done.0, done.1)

-- the leaf at the end of the chain, and the leaves beside it
unlinked_there : (pages new with_out : Pages) (leaf end prev next : ℕ) → end ≡ leaf → prev ≡ (pages leaf).prev → next ≡ (pages leaf).next → SamePages new (unlinked_pages with_out prev next)
    → SamePages new (unlinked_pages with_out (pages end).prev (pages end).next)
unlinked_there pages new with_out leaf end prev next at is_prev is_next same =
    let p : prev ≡ (pages end).prev = is_prev ∙ ap (λ (x : ℕ). (pages x).prev) (sym at) in
    let n : next ≡ (pages end).next = is_next ∙ ap (λ (x : ℕ). (pages x).next) (sym at) in
    subst (λ (x : ℕ). SamePages new (unlinked_pages with_out x (pages end).next)) p (subst (λ (x : ℕ). SamePages new (unlinked_pages with_out prev x)) n same)

-- A CHAIN WITHOUT ENTRIES LEAVES THE TREE
pub chain_drops : (pages new : Pages) (key : Key) (parent : ℕ) (place : ChildPlace) (leaf : ℕ) (above : List ℕ) (prev next : ℕ) → IsGoodTree pages [] → Hangs pages key parent place 0 leaf above → (pages leaf).entries ≡ []
    → prev ≡ (pages leaf).prev → next ≡ (pages leaf).next → SamePages new (out_of_tree pages parent place prev next) → DropsChain pages new (above ++ leaf ∷ [])
chain_drops pages new key parent (Entry i) leaf above prev next good hangs none is_prev is_next same =
    FromEntry hangs.h key parent hangs.p i
    (entry_step pages new [] hangs.h key parent hangs.p i good hangs.up hangs.at.0 hangs.at.1 (hangs.none none)
    (unlinked_there pages new (with_body pages parent (without_entry (pages parent) i)) leaf (leaf_down pages hangs.h hangs.p) prev next hangs.leaf is_prev is_next same))
    (sym hangs.chain)
chain_drops pages new key parent Leftmost leaf above prev next good hangs none is_prev is_next same =
    FromLeftmost hangs.h key parent hangs.p
    (leftmost_step pages new [] hangs.h key parent hangs.p good hangs.up hangs.at.0 hangs.at.1 (hangs.none none)
    (unlinked_there pages new (with_body pages parent (without_leftmost (pages parent))) leaf (leaf_down pages hangs.h hangs.p) prev next hangs.leaf is_prev is_next same))
    (sym hangs.chain)
chain_drops pages new key parent Only leaf above prev next good hangs none is_prev is_next same =
    let root : parent ≡ 1 = hangs.root in
    let level : (pages 1).level ≡ suc hangs.h = ap (λ (x : ℕ). (pages x).level) (sym root) ∙ (way_inner pages hangs.h key parent hangs.up).1 in
    let first : (pages 1).leftmost ≡ hangs.p = ap (λ (x : ℕ). (pages x).leftmost) (sym root) ∙ hangs.at.1 in
    let empty : (pages 1).entries ≡ [] = ap (λ (x : ℕ). (pages x).entries) (sym root) ∙ hangs.at.0 in
    let under : HasNone pages hangs.h (pages 1).leftmost = subst (HasNone pages hangs.h) (sym first) (hangs.none none) in
    FromRoot hangs.h
    (root_step pages new [] hangs.h good level (empty, under) (subst (λ (x : ℕ). SamePages new (with_body pages x (leaf_body 0 0 []))) root same))
    (sym (ap (chain_down pages hangs.h) first ∙ hangs.chain))

-- the tree stays good, with the pages of the chain spare
pub chain_keeps : (pages new : Pages) (gone : List ℕ) → DropsChain pages new gone → IsGoodTree new gone × (walk new ≡ walk pages)
chain_keeps pages new gone (FromEntry h key parent p i s e) = listed pages new (chain_down pages h p) gone (sym e) (drop_entry pages new [] h key parent p i s)
chain_keeps pages new gone (FromLeftmost h key parent p s e) = listed pages new (chain_down pages h p) gone (sym e) (drop_leftmost pages new [] h key parent p s)
chain_keeps pages new gone (FromRoot h s e) = listed pages new (chain_down pages h (pages 1).leftmost) gone (sym e) (drop_all pages new [] h s)

-- the leaves beside the leaf of a key are leaves
pub leaves_beside : (pages : Pages) (key : Key) (leaf prev next : ℕ) → IsGoodTree pages [] → IsOnWay pages 0 key leaf → prev ≡ (pages leaf).prev → next ≡ (pages leaf).next → AreLeavesBeside pages prev next
leaves_beside pages key leaf prev next good way is_prev is_next =
    let near = beside pages [] leaf good (place_on_way pages key leaf way) in
    record {
      prev_kind = λ some. subst (λ (x : ℕ). (pages x).kind ≡ Leaf) (sym is_prev) (near.prev_kind (subst (λ (x : ℕ). 1 ≤ x) is_prev some));
      next_kind = λ some. subst (λ (x : ℕ). (pages x).kind ≡ Leaf) (sym is_next) (near.next_kind (subst (λ (x : ℕ). 1 ≤ x) is_next some));
    }

-- ---- one page

-- a page taken out, changed and put back
pub edited : (store : AllPages) (xs mid new : List Numbered) (n : ℕ) (page : Page) (f : Body → Body) → IsRising xs → page ≡ page_in store xs n → mid ≡ without_image n xs → new ≡ put_image n (says page (f page.body)) mid
    → SamePages (seen store new) (with_body (seen store xs) n (f (seen store xs n)))
edited store xs mid new n page f up is is_mid is_new x =
    let body : page.body ≡ seen store xs n = ap (λ (g : Page). g.body) is ∙ page_says store xs n in
    ap (λ (l : List Numbered). seen store l x) (is_new ∙ ap (λ (l : List Numbered). put_image n (says page (f page.body)) l) is_mid)
    ∙ put_back store xs n (says page (f page.body)) up x
    ∙ ap (λ (c : Body). with_body (seen store xs) n (f c) x) body

-- what the page says
pub says_seen : (store : AllPages) (xs : List Numbered) (n : ℕ) (page : Page) → page ≡ page_in store xs n → page.body ≡ seen store xs n
says_seen store xs n page is = ap (λ (g : Page). g.body) is ∙ page_says store xs n

linked_next_is : (pages new : Pages) (l v : ℕ) → 1 ≤ l → SamePages new (with_body pages l (with_next (pages l) v)) → SamePages new (linked_next pages l v)
linked_next_is pages new zero v some same = absurd (omega (arith, some))
linked_next_is pages new (suc l) v some same = same

linked_prev_is : (pages new : Pages) (r v : ℕ) → 1 ≤ r → SamePages new (with_body pages r (with_prev (pages r) v)) → SamePages new (linked_prev pages r v)
linked_prev_is pages new zero v some same = absurd (omega (arith, some))
linked_prev_is pages new (suc r) v some same = same

-- page 0 stands for no leaf
linked_next_none : (pages : Pages) (l v : ℕ) → l ≡ 0 → SamePages pages (linked_next pages l v)
linked_next_none pages l v none = subst (λ (x : ℕ). SamePages pages (linked_next pages x v)) (sym none) (λ x. refl)

linked_prev_none : (pages : Pages) (r v : ℕ) → r ≡ 0 → SamePages pages (linked_prev pages r v)
linked_prev_none pages r v none = subst (λ (x : ℕ). SamePages pages (linked_prev pages x v)) (sym none) (λ x. refl)

-- so it is on either side
pub linked_is : (pages new : Pages) (side : Side) (n v : ℕ) → 1 ≤ n → SamePages new (with_body pages n (with_link (pages n) side v)) → SamePages new (linked pages side n v)
linked_is pages new Prev n v some same = linked_prev_is pages new n v some same
linked_is pages new Next n v some same = linked_next_is pages new n v some same

pub linked_none : (pages : Pages) (side : Side) (n v : ℕ) → n ≡ 0 → SamePages pages (linked pages side n v)
linked_none pages Prev n v none = linked_prev_none pages n v none
linked_none pages Next n v none = linked_next_none pages n v none

-- ---- several pages

pub unlinked_by : (pages mid new : Pages) (prev next : ℕ) → SamePages mid (linked_next pages prev next) → SamePages new (linked_prev mid next prev) → SamePages new (unlinked_pages pages prev next)
unlinked_by pages mid new prev next one two =
    let is : mid ≡ linked_next pages prev next = fun_ext one in
    subst (λ (f : Pages). SamePages new (linked_prev f next prev)) is two

-- a leaf stays one where another is told of its next
pub kind_linked : (pages mid : Pages) (l v x : ℕ) → SamePages mid (linked_next pages l v) → (pages x).kind ≡ Leaf → (mid x).kind ≡ Leaf
kind_linked pages mid l v x same is = ap (λ (c : Body). c.kind) (same x) ∙ (next_tree pages l v x).kind ∙ is

-- and where an inner page changes
kind_kept : (pages mid : Pages) (parent : ℕ) (c : Body) (x : ℕ) → SamePages mid (with_body pages parent c) → (pages parent).kind ≡ Inner → (pages x).kind ≡ Leaf → (mid x).kind ≡ Leaf
kind_kept pages mid parent c x same inner is = elim (cases_eq parent x) [
  | inl here ↦ let clash : Inner ≡ Leaf = sym inner ∙ ap (λ (y : ℕ). (pages y).kind) here ∙ is in absurd (cc clash)
  | inr other ↦ ap (λ (d : Body). d.kind) (same x ∙ at_other pages parent c x other) ∙ is
]

pub beside_stay : (pages mid : Pages) (parent : ℕ) (c : Body) (prev next : ℕ) → SamePages mid (with_body pages parent c) → (pages parent).kind ≡ Inner → AreLeavesBeside pages prev next → AreLeavesBeside mid prev next
beside_stay pages mid parent c prev next same inner are = record {
  prev_kind = λ some. kind_kept pages mid parent c prev same inner (are.prev_kind some);
  next_kind = λ some. kind_kept pages mid parent c next same inner (are.next_kind some);
}

-- ---- the chain out of the tree

-- under the root left without a child no leaf is linked
pub out_only : (pages new : Pages) (parent : ℕ) (place : ChildPlace) (prev next : ℕ) → place ≡ Only → SamePages new (with_body pages parent (without_child (pages parent) place)) → SamePages new (out_of_tree pages parent place prev next)
out_only pages new parent Only prev next is same = same
out_only pages new parent Leftmost prev next is same = absurd (cc is)
out_only pages new parent (Entry i) prev next is same = absurd (cc is)

-- otherwise the leaves beside it are
pub out_by : (pages mid new : Pages) (parent : ℕ) (place : ChildPlace) (prev next : ℕ) → (place ≡ Only → ⊥) → SamePages mid (with_body pages parent (without_child (pages parent) place))
    → SamePages new (unlinked_pages mid prev next) → SamePages new (out_of_tree pages parent place prev next)
out_by pages mid new parent Only prev next other one two = absurd (other refl)
out_by pages mid new parent Leftmost prev next other one two = subst (λ (f : Pages). SamePages new (unlinked_pages f prev next)) (fun_ext one) two
out_by pages mid new parent (Entry i) prev next other one two = subst (λ (f : Pages). SamePages new (unlinked_pages f prev next)) (fun_ext one) two
