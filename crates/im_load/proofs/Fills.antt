-- Leaves that are closed are full.
use Rattle.std.proofs.Common.{◌≡◌, ◌≢◌, ℕ, zero, suc, ◌≤◌, Bool, true, false, List, [], ◌∷◌, refl, sym, ap, subst, ◌∙◌, arith, ⊎_elim, ◌==◌, if◌then◌else◌}
use Rattle.std.proofs.lemmas.Bool.{cases_eq}
use Rattle.im_base_types.specs.Pages.{Entry, Body}
use Rattle.im_base_types.specs.declared.page_kind.PageKind.TheVariants.{Free, Meta, Leaf, Inner}
use Rattle.im_theory_page.specs.Header.{empty_body}
use Rattle.im_theory_page.specs.Split.{LacksRoom}
use Rattle.im_theory_tree.specs.Allocations.{initial_bodies}
use Rattle.im_theory_tree.specs.Good.{AreChained}
use Rattle.im_theory_tree.specs.Levels.{Pages, height}
use Rattle.im_theory_tree.proofs.Cited.{chained_right}
use Rattle.im_load.specs.Edge.{Stands, AreDense}
use Rattle.im_load.specs.Steps.{one_page_more, PutsLast, ClosesLeaf, ClosesInner, RaisesLeaf, RaisesInner}
use Rattle.im_load.specs.Laws.{StepsFill}
use Rattle.im_load.proofs.Edges.{edge_at, edge_apart}
use Rattle.im_load.proofs.Puts.{edge_leaves}

-- what a page has to show
abbrev pub IsFilled : Body → Type 0
IsFilled b = b.kind ≡ Leaf → 1 ≤ b.next → LacksRoom true b.entries

inner_filled : (b : Body) → b.kind ≡ Inner → IsFilled b
inner_filled b inner leaf = let clash : Inner ≡ Leaf = sym inner ∙ leaf in absurd (cc clash)

meta_filled : (b : Body) → b.kind ≡ Meta → IsFilled b
meta_filled b meta leaf = let clash : Meta ≡ Leaf = sym meta ∙ leaf in absurd (cc clash)

last_filled : (b : Body) → b.next ≡ 0 → IsFilled b
last_filled b none leaf some = absurd (omega (arith, none, some))

-- no leaf comes after the last one
last_next : (pages : Pages) (at : ℕ → ℕ) (spare : List ℕ) (es : List Entry) → Stands pages at spare es → (pages (at 0)).next ≡ 0
last_next pages at spare es s =
    let d : ℕ = height pages in
    let w = edge_at pages at s.edge d 0 (omega arith) in
    subst (λ x. (pages x).next ≡ 0) w.page
    ((chained_right pages 0 w.left (w.node ∷ []) (subst (AreChained pages 0) (edge_leaves pages d (at 0) w refl) s.good.chained)).1.1)

inner_at : (pages : Pages) (at : ℕ → ℕ) (spare : List ℕ) (es : List Entry) (k : ℕ) → Stands pages at spare es → suc k ≤ height pages → (pages (at (suc k))).kind ≡ Inner
inner_at pages at spare es k s le = ((edge_apart pages at spare s.good s.edge).levels (suc k) le).0

initial_next : (b c : Bool) → (if b then empty_body Meta 0 0 0 2 else (if c then empty_body Leaf 0 0 0 0 else empty_body Free 0 0 0 0)).next ≡ 0
initial_next true c = refl
initial_next false true = refl
initial_next false false = refl

begins : AreDense initial_bodies
begins x = last_filled (initial_bodies x) (initial_next (x == 0) (x == 1))

-- the same of the page that it was
still : (pages new : Pages) (x : ℕ) → AreDense pages → new x ≡ pages x → IsFilled (new x)
still pages new x dense is = subst IsFilled (sym is) (dense x)

puts : (pages new : Pages) (at : ℕ → ℕ) (es : List Entry) (e : Entry) → Stands pages at [] es → PutsLast pages new at e → AreDense pages → AreDense new
puts pages new at es e s step dense x = ⊎_elim
    (λ (own : x ≡ at 0). subst (λ y. IsFilled (new y)) (sym own) (last_filled (new (at 0)) (ap (λ (b : Body). b.next) step.leaf ∙ last_next pages at [] es s)))
    (λ (off : x ≡ at 0 → ⊥). still pages new x dense (step.others x off))
    (cases_eq x (at 0))

-- a page is one of four that a step names, or as it was
one_of : (pages new : Pages) (x a b c d : ℕ) → AreDense pages → IsFilled (new a) → IsFilled (new b) → IsFilled (new c) → IsFilled (new d)
    → (x ≢ a → x ≢ b → x ≢ c → x ≢ d → new x ≡ pages x) → IsFilled (new x)
one_of pages new x a b c d dense fa fb fc fd others =
    let P : ℕ → Type 0 = λ y. IsFilled (new y) in
    ⊎_elim (λ (e : x ≡ a). subst P (sym e) fa)
    (λ (na : x ≡ a → ⊥). ⊎_elim (λ (e : x ≡ b). subst P (sym e) fb)
    (λ (nb : x ≡ b → ⊥). ⊎_elim (λ (e : x ≡ c). subst P (sym e) fc)
    (λ (nc : x ≡ c → ⊥). ⊎_elim (λ (e : x ≡ d). subst P (sym e) fd) (λ (nd : x ≡ d → ⊥). still pages new x dense (others na nb nc nd)) (cases_eq x d))
    (cases_eq x c)) (cases_eq x b)) (cases_eq x a)

meta_kept : (pages new : Pages) (at : ℕ → ℕ) (spare : List ℕ) (es : List Entry) (b : Body) → Stands pages at spare es → b.kind ≡ (pages 0).kind → new 0 ≡ b → IsFilled (new 0)
meta_kept pages new at spare es b s same is = meta_filled (new 0) (ap (λ (c : Body). c.kind) is ∙ same ∙ s.good.meta)

closes_leaf : (pages new : Pages) (at : ℕ → ℕ) (es : List Entry) (e : Entry) (q : ℕ) → Stands pages at [] es → 1 ≤ height pages → ClosesLeaf pages new at e q
    → LacksRoom true (pages (at zero)).entries → AreDense pages → AreDense new
closes_leaf pages new at es e q s high step full dense x = one_of pages new x 0 (at 0) q (at 1) dense
    (meta_kept pages new at [] es (one_page_more (pages 0)) s refl step.meta)
    (subst IsFilled (sym step.closed) (λ leaf some. full))
    (last_filled (new q) (ap (λ (b : Body). b.next) step.opened))
    (inner_filled (new (at 1)) (ap (λ (b : Body). b.kind) step.above ∙ inner_at pages at [] es 0 s high))
    (step.others x)

closes_inner : (pages new : Pages) (at : ℕ → ℕ) (es : List Entry) (k : ℕ) (front : List Entry) (up : Entry) (q : ℕ) → Stands pages at [] es → suc (suc k) ≤ height pages
    → ClosesInner pages new at (suc k) front up q → AreDense pages → AreDense new
closes_inner pages new at es k front up q s high step dense x = one_of pages new x 0 (at (suc k)) q (at (suc (suc k))) dense
    (meta_kept pages new at [] es (one_page_more (pages 0)) s refl step.meta)
    (inner_filled (new (at (suc k))) (ap (λ (b : Body). b.kind) step.closed ∙ inner_at pages at [] es k s (omega (arith, high))))
    (inner_filled (new q) (ap (λ (b : Body). b.kind) step.opened))
    (inner_filled (new (at (suc (suc k)))) (ap (λ (b : Body). b.kind) step.above ∙ inner_at pages at [] es (suc k) s high))
    (step.others x)

raises_leaf : (pages new : Pages) (at : ℕ → ℕ) (es : List Entry) (e : Entry) (l r : ℕ) → Stands pages at [] es → RaisesLeaf pages new e l r → LacksRoom true (pages 1).entries → AreDense pages → AreDense new
raises_leaf pages new at es e l r s step full dense x = one_of pages new x 0 1 l r dense
    (meta_kept pages new at [] es (one_page_more (one_page_more (pages 0))) s refl step.meta)
    (inner_filled (new 1) (ap (λ (b : Body). b.kind) step.root))
    (subst IsFilled (sym step.closed) (λ leaf some. full))
    (last_filled (new r) (ap (λ (b : Body). b.next) step.opened))
    (step.others x)

raises_inner : (pages new : Pages) (at : ℕ → ℕ) (es : List Entry) (k : ℕ) (front : List Entry) (up : Entry) (l r : ℕ) → Stands pages at [] es → height pages ≡ suc k
    → RaisesInner pages new (suc k) front up l r → AreDense pages → AreDense new
raises_inner pages new at es k front up l r s high step dense x =
    let root_is : at (suc k) ≡ 1 = ap at (sym high) ∙ s.edge.root in
    let inner : (pages 1).kind ≡ Inner = subst (λ y. (pages y).kind ≡ Inner) root_is (inner_at pages at [] es k s (omega (arith, high))) in
    one_of pages new x 0 1 l r dense
    (meta_kept pages new at [] es (one_page_more (one_page_more (pages 0))) s refl step.meta)
    (inner_filled (new 1) (ap (λ (b : Body). b.kind) step.root ∙ inner))
    (inner_filled (new l) (ap (λ (b : Body). b.kind) step.closed ∙ inner))
    (inner_filled (new r) (ap (λ (b : Body). b.kind) step.opened))
    (step.others x)

pub steps_filled : StepsFill
steps_filled = record {
  begins = begins;
  puts = puts;
  closes_leaf = closes_leaf;
  closes_inner = closes_inner;
  raises_leaf = raises_leaf;
  raises_inner = raises_inner;
}
