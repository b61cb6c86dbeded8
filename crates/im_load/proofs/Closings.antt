-- The steps of a load keep what stands.
use Rattle.std.proofs.Common.{◌≡◌, ◌≢◌, ℕ, suc, ◌+◌, ◌<◌, ◌≤◌, List, [], ◌∷◌, ◌++◌, length, refl, sym, ap, subst, ◌∙◌, arith, ⊎_elim, inl, ◌==◌}
use Rattle.std.proofs.lemmas.Bool.{cases_eq, cond-true, cond-false, eq-eqb, ne_eqb}
use Rattle.im_base_types.specs.Keys.{Key}
use Rattle.im_base_types.specs.Pages.{Entry, Body}
use Rattle.im_base_types.specs.declared.page_kind.PageKind.TheVariants.{Free, Meta}
use Rattle.im_theory_log.specs.Tree.{with_body}
use Rattle.im_theory_tree.specs.Allocations.{initial_bodies}
use Rattle.im_theory_tree.specs.Good.{times, IsGoodTree}
use Rattle.im_theory_tree.specs.Levels.{Pages, height}
use Rattle.im_theory_tree.proofs.Cited.{relisted}
use Rattle.im_theory_tree.proofs.RootSplit.{initial_good}
use Rattle.im_load.specs.Edge.{moved, risen, IsAboveAll, Stands}
use Rattle.im_load.specs.Steps.{with_entry_last, one_page_more, ClosesLeaf, ClosesInner, RaisesLeaf, RaisesInner}
use Rattle.im_load.specs.Laws.{BecomesTree, LoadStepsKeep}
use Rattle.im_load.proofs.Edges.{edge_at, edge_apart}
use Rattle.im_load.proofs.Puts.{Goes, count_step, put_step, edge_leaves, top_leaf}
use Rattle.im_load.proofs.Leaves.{PartsLeaf, leaf_part}
use Rattle.im_load.proofs.Inners.{PartsInner, inner_part}
use Rattle.im_load.proofs.Roots.{PartsRootLeaf, root_leaf_part, PartsRootInner, root_inner_part}

body_here : (pages : Pages) (p : ℕ) (b : Body) → with_body pages p b p ≡ b
body_here pages p b = cond-true (p == p) b (pages p) (eq-eqb p p refl)

body_off : (pages : Pages) (p : ℕ) (b : Body) (x : ℕ) → x ≢ p → with_body pages p b x ≡ pages x
body_off pages p b x off = cond-false (p == x) b (pages x) (ne_eqb p x (λ e. off (sym e)))

-- there are pages
count_some : (pages : Pages) (spare : List ℕ) → IsGoodTree pages spare → (pages 0).leftmost ≢ 0
count_some pages spare good none = let clash : Meta ≡ Free = sym good.meta ∙ good.past 0 (omega (arith, none)) in cc

-- a key above all entries is above those of the last leaf
pub top_at : (pages : Pages) (at : ℕ → ℕ) (spare : List ℕ) (es : List Entry) (key : Key) → Stands pages at spare es → IsAboveAll key es → IsAboveAll key (pages (at 0)).entries
top_at pages at spare es key s top =
    let d : ℕ = height pages in
    let w = edge_at pages at s.edge d 0 (omega arith) in
    subst (λ x. IsAboveAll key (pages x).entries) w.page (top_leaf pages w.left w.node key (edge_leaves pages d (at 0) w refl) (subst (IsAboveAll key) (sym s.walks) top))

respared : (pages : Pages) (at : ℕ → ℕ) (spare left : List ℕ) (es : List Entry) → ((x : ℕ) → times x left ≡ times x spare) → Stands pages at spare es → Stands pages at left es
respared pages at spare left es same s = record {
  good = relisted pages spare left same s.good;
  edge = s.edge;
  walks = s.walks;
  none_free = s.none_free;
  some = s.some;
}

-- ---- one page more

abbrev one_more : Pages → Pages
one_more pages = with_body pages 0 (one_page_more (pages 0))

counted_once : (pages : Pages) (at : ℕ → ℕ) (spare : List ℕ) (es : List Entry) → Stands pages at spare es → Goes pages (one_more pages) at ((pages 0).leftmost ∷ spare) es
counted_once pages at spare es s =
    count_step pages (one_more pages) at spare es s (body_here pages 0 (one_page_more (pages 0))) (λ x off. body_off pages 0 (one_page_more (pages 0)) x off)

-- ---- and an entry more in the last leaf

abbrev with_last : Pages → (ℕ → ℕ) → Entry → Pages
with_last pages at e = with_body pages (at 0) (with_entry_last (pages (at 0)) e)

put_last : (pages : Pages) (at : ℕ → ℕ) (spare : List ℕ) (es : List Entry) (e : Entry) → Stands pages at spare es → IsAboveAll e.0 es → Goes pages (with_last pages at e) at spare (es ++ e ∷ [])
put_last pages at spare es e s top =
    put_step pages (with_last pages at e) at spare es e s top
    (record { leaf = body_here pages (at 0) (with_entry_last (pages (at 0)) e); others = λ x off. body_off pages (at 0) (with_entry_last (pages (at 0)) e) x off })

-- ---- a leaf under its parent

pub closes_leaf : (pages new : Pages) (at : ℕ → ℕ) (es : List Entry) (e : Entry) (q h : ℕ) → Stands pages at [] es → height pages ≡ suc h → IsAboveAll e.0 es → ClosesLeaf pages new at e q
    → Goes pages new (moved at 0 q) [] (es ++ e ∷ [])
closes_leaf pages new at es e q h s high top step =
    let apart = edge_apart pages at [] s.good s.edge in
    let a : Pages = one_more pages in
    let one = counted_once pages at [] es s in
    let b : Pages = with_last a at e in
    let two = put_last a at ((pages 0).leftmost ∷ []) es e one.stands top in
    let zero_off : at 0 ≢ 0 = apart.zero_off 0 (omega arith) in
    let still : (x : ℕ) → x ≢ 0 → x ≢ at 0 → b x ≡ pages x =
    λ x off away. body_off a (at 0) (with_entry_last (a (at 0)) e) x away ∙ body_off pages 0 (one_page_more (pages 0)) x off in
    let leaf : b (at 0) ≡ with_entry_last (pages (at 0)) e =
    body_here a (at 0) (with_entry_last (a (at 0)) e) ∙ ap (λ (c : Body). with_entry_last c e) (body_off pages 0 (one_page_more (pages 0)) (at 0) zero_off) in
    let meta : b 0 ≡ one_page_more (pages 0) = body_off a (at 0) (with_entry_last (a (at 0)) e) 0 (λ z. zero_off (sym z)) ∙ body_here pages 0 (one_page_more (pages 0)) in
    let tall : height b ≡ height pages = two.tall ∙ one.tall in
    let front : List Entry = (pages (at 0)).entries in
    let parts : PartsLeaf b new at front e q = record {
      was = ap (λ (c : Body). c.entries) leaf;
      some = ⊎_elim (λ (z : height pages ≡ 0). absurd (omega (arith, z, high))) (λ (l : 1 ≤ length (pages (at 0)).entries). l) s.some;
      low = top_at pages at [] es e.0 s top;
      fresh = λ k le. apart.past_off k q (omega (arith, le, tall)) (omega (arith, step.count));
      positive = λ z. count_some pages [] s.good (step.count ∙ z);
      closed = step.closed ∙ ap (λ (c : Body). record c { next = q; entries = front }) (sym leaf);
      opened = step.opened;
      above = step.above ∙ ap (λ (c : Body). with_entry_last c (e.0, q)) (sym (still (at 1) (apart.zero_off 1 (omega (arith, high))) (apart.from 1 0 (omega (arith, high)) (omega arith) (λ z. absurd (omega (arith, z))))));
      others = λ x x_leaf x_new x_above. ⊎_elim
          (λ (z : x ≡ 0). subst (λ y. new y ≡ b y) (sym z) (step.meta ∙ sym meta))
          (λ (off : x ≡ 0 → ⊥). step.others x off x_leaf x_new x_above ∙ sym (still x off x_leaf))
          (cases_eq x 0);
    } in
    let three = leaf_part b new at [] (es ++ e ∷ []) front e q h (subst (λ x. Stands b at (x ∷ []) (es ++ e ∷ [])) step.count two.stands) (tall ∙ high) parts in
    record { stands = three.stands; tall = three.tall ∙ tall }

-- ---- an inner page under its parent

pub closes_inner : (pages new : Pages) (at : ℕ → ℕ) (es : List Entry) (k d : ℕ) (front : List Entry) (up : Entry) (q : ℕ) → Stands pages at [] es → d + suc (suc k) ≡ height pages
    → ClosesInner pages new at (suc k) front up q → Goes pages new (moved at (suc k) q) [] es
closes_inner pages new at es k d front up q s high step =
    let apart = edge_apart pages at [] s.good s.edge in
    let a : Pages = one_more pages in
    let one = counted_once pages at [] es s in
    let still : (x : ℕ) → x ≢ 0 → a x ≡ pages x = λ x off. body_off pages 0 (one_page_more (pages 0)) x off in
    let mine : a (at (suc k)) ≡ pages (at (suc k)) = still (at (suc k)) (apart.zero_off (suc k) (omega (arith, high))) in
    let parts : PartsInner a new at k front up q = record {
      was = ap (λ (c : Body). c.entries) mine ∙ step.was;
      fresh = λ j le. apart.past_off j q (omega (arith, le, one.tall)) (omega (arith, step.count));
      positive = λ z. count_some pages [] s.good (step.count ∙ z);
      closed = step.closed ∙ ap (λ (c : Body). record c { entries = front }) (sym mine);
      opened = step.opened;
      above = step.above ∙ ap (λ (c : Body). with_entry_last c (up.0, q)) (sym (still (at (suc (suc k))) (apart.zero_off (suc (suc k)) (omega (arith, high)))));
      others = λ x x_own x_new x_above. ⊎_elim
          (λ (z : x ≡ 0). subst (λ y. new y ≡ a y) (sym z) (step.meta ∙ sym (body_here pages 0 (one_page_more (pages 0)))))
          (λ (off : x ≡ 0 → ⊥). step.others x off x_own x_new x_above ∙ sym (still x off))
          (cases_eq x 0);
    } in
    let two = inner_part a new at [] es k front up q d (subst (λ x. Stands a at (x ∷ []) es) step.count one.stands) (high ∙ sym one.tall) parts in
    record { stands = two.stands; tall = two.tall ∙ one.tall }

-- ---- a root

abbrev two_more : Pages → Pages
two_more pages = one_more (one_more pages)

two_here : (pages : Pages) → two_more pages 0 ≡ one_page_more (one_page_more (pages 0))
two_here pages = body_here (one_more pages) 0 (one_page_more (one_more pages 0)) ∙ ap one_page_more (body_here pages 0 (one_page_more (pages 0)))

two_off : (pages : Pages) (x : ℕ) → x ≢ 0 → two_more pages x ≡ pages x
two_off pages x off = body_off (one_more pages) 0 (one_page_more (one_more pages 0)) x off ∙ body_off pages 0 (one_page_more (pages 0)) x off

counted_twice : (pages : Pages) (at : ℕ → ℕ) (es : List Entry) (l r : ℕ) → Stands pages at [] es → (pages 0).leftmost ≡ l → suc l ≡ r → Goes pages (two_more pages) at (l ∷ r ∷ []) es
counted_twice pages at es l r s is_l is_r =
    let one = counted_once pages at [] es s in
    let two = counted_once (one_more pages) at ((pages 0).leftmost ∷ []) es one.stands in
    let next : (one_more pages 0).leftmost ≡ r = ap (λ (c : Body). c.leftmost) (body_here pages 0 (one_page_more (pages 0))) ∙ ap suc is_l ∙ is_r in
    let first : Stands (two_more pages) at (r ∷ (pages 0).leftmost ∷ []) es = subst (λ x. Stands (two_more pages) at (x ∷ (pages 0).leftmost ∷ []) es) next two.stands in
    let both : Stands (two_more pages) at (r ∷ l ∷ []) es = subst (λ x. Stands (two_more pages) at (r ∷ x ∷ []) es) is_l first in
    record {
      stands = respared (two_more pages) at (r ∷ l ∷ []) (l ∷ r ∷ []) es (λ x. omega arith) both;
      tall = two.tall ∙ one.tall;
    }

pub raises_leaf : (pages new : Pages) (at : ℕ → ℕ) (es : List Entry) (e : Entry) (l r : ℕ) → Stands pages at [] es → height pages ≡ 0 → IsAboveAll e.0 es → RaisesLeaf pages new e l r
    → BecomesTree new (risen at 0 r) (es ++ e ∷ []) 1
raises_leaf pages new at es e l r s flat top step =
    let at_root : at 0 ≡ 1 = ap at (sym flat) ∙ s.edge.root in
    let a : Pages = two_more pages in
    let one = counted_twice pages at es l r s step.count step.after in
    let b : Pages = with_last a at e in
    let two = put_last a at (l ∷ r ∷ []) es e one.stands top in
    let off_root : (x : ℕ) → x ≢ 1 → b x ≡ a x = λ x off. body_off a (at 0) (with_entry_last (a (at 0)) e) x (λ z. off (z ∙ at_root)) in
    let leaf : b 1 ≡ with_entry_last (pages 1) e =
    ap b (sym at_root) ∙ body_here a (at 0) (with_entry_last (a (at 0)) e) ∙ ap (λ x. with_entry_last (a x) e) at_root ∙ ap (λ (c : Body). with_entry_last c e) (two_off pages 1 (λ z. absurd (omega (arith, z)))) in
    let front : List Entry = (pages 1).entries in
    let left_some : l ≢ 0 = λ z. count_some pages [] s.good (step.count ∙ z) in
    let parts : PartsRootLeaf b new front e l r = record {
      was = ap (λ (c : Body). c.entries) leaf;
      low = subst (λ x. IsAboveAll e.0 (pages x).entries) at_root (top_at pages at [] es e.0 s top);
      left_some = left_some;
      right_some = λ z. absurd (omega (arith, z, step.after));
      root = step.root;
      closed = step.closed ∙ ap (λ (c : Body). record c { next = r; entries = front }) (sym leaf);
      opened = step.opened;
      others = λ x x_root x_left x_right. ⊎_elim
          (λ (z : x ≡ 0). subst (λ y. new y ≡ b y) (sym z) (step.meta ∙ sym (off_root 0 (λ o. absurd (omega (arith, o))) ∙ two_here pages)))
          (λ (off : x ≡ 0 → ⊥). step.others x off x_root x_left x_right ∙ sym (off_root x x_root ∙ two_off pages x off))
          (cases_eq x 0);
    } in
    record {
      stands = root_leaf_part b new at [] (es ++ e ∷ []) front e l r two.stands (two.tall ∙ one.tall ∙ flat) parts;
      tall = ap (λ (c : Body). c.level) step.root;
    }

pub raises_inner : (pages new : Pages) (at : ℕ → ℕ) (es : List Entry) (k : ℕ) (front : List Entry) (up : Entry) (l r : ℕ) → Stands pages at [] es → height pages ≡ suc k → RaisesInner pages new (suc k) front up l r
    → BecomesTree new (risen at (suc k) r) es (suc (suc k))
raises_inner pages new at es k front up l r s high step =
    let apart = edge_apart pages at [] s.good s.edge in
    let a : Pages = two_more pages in
    let one = counted_twice pages at es l r s step.count step.after in
    let root : a 1 ≡ pages 1 = two_off pages 1 (λ z. absurd (omega (arith, z))) in
    let left_some : l ≢ 0 = λ z. count_some pages [] s.good (step.count ∙ z) in
    let parts : PartsRootInner a new at k front up l r = record {
      was = ap (λ (c : Body). c.entries) root ∙ step.was;
      left_fresh = λ j le. apart.past_off j l (omega (arith, le, one.tall)) (omega (arith, step.count));
      right_fresh = λ j le. apart.past_off j r (omega (arith, le, one.tall)) (omega (arith, step.count, step.after));
      left_some = left_some;
      right_some = λ z. absurd (omega (arith, z, step.after));
      root = step.root ∙ ap (λ (c : Body). record c { level = suc c.level; leftmost = l; entries = (up.0, r) ∷ [] }) (sym root);
      closed = step.closed ∙ ap (λ (c : Body). record c { entries = front }) (sym root);
      opened = step.opened;
      others = λ x x_root x_left x_right. ⊎_elim
          (λ (z : x ≡ 0). subst (λ y. new y ≡ a y) (sym z) (step.meta ∙ sym (two_here pages)))
          (λ (off : x ≡ 0 → ⊥). step.others x off x_root x_left x_right ∙ sym (two_off pages x off))
          (cases_eq x 0);
    } in
    record {
      stands = root_inner_part a new at [] es k front up l r one.stands (one.tall ∙ high) parts;
      tall = ap (λ (c : Body). c.level) step.root ∙ ap suc high;
    }

-- ---- where a load begins

pub begins : Stands initial_bodies (λ k. 1) [] []
begins = record {
  good = initial_good.0;
  edge = record { root = refl; down = λ k lt. absurd (let none : k < 0 = lt in omega (arith, none)) };
  walks = initial_good.1;
  none_free = refl;
  some = inl refl;
}

-- ---- the laws

settles : (pages new : Pages) (at : ℕ → ℕ) (es : List Entry) → Goes pages new at [] es → BecomesTree new at es (height pages)
settles pages new at es g = record { stands = g.stands; tall = g.tall }

pub steps_kept : LoadStepsKeep
steps_kept = record {
  begins = begins;
  puts = λ pages new at es e s top step. settles pages new at (es ++ e ∷ []) (put_step pages new at [] es e s top step);
  closes_leaf = λ pages new at es e q h s high top step. settles pages new (moved at 0 q) (es ++ e ∷ []) (closes_leaf pages new at es e q h s high top step);
  closes_inner = λ pages new at es k d front up q s high step. settles pages new (moved at (suc k) q) es (closes_inner pages new at es k d front up q s high step);
  raises_leaf = λ pages new at es e l r s flat top step. raises_leaf pages new at es e l r s flat top step;
  raises_inner = λ pages new at es k front up l r s high step. raises_inner pages new at es k front up l r s high step;
}
