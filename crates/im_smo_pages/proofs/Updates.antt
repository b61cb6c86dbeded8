-- Pages with some of them changed, page by page.
use Rattle.std.proofs.Common.{◌≡◌, ℕ, zero, suc, ◌≤◌, List, ◌∷◌, inl, inr, refl, ap, subst, ◌∙◌, arith, ◌==◌, if◌then◌else◌}
use Rattle.std.proofs.lemmas.Bool.{cases_eq, cond-true, cond-false, eq-eqb, ne_eqb}
use Rattle.im_base_types.specs.Pages.{Body}
use Rattle.im_theory_log.specs.Tree.{with_body}
use Rattle.im_theory_tree.specs.Levels.{Pages}
use Rattle.im_theory_tree.specs.Same.{SameTree, SameLinks}
use Rattle.im_theory_tree.specs.Good.{times}
use Rattle.im_theory_tree.proofs.Descent.{times-here}
use Rattle.im_smo_pages.specs.Bodies.{with_prev, with_next}
use Rattle.im_smo_pages.specs.Changed.{SamePages, linked_prev, linked_next}

-- ---- one page

pub at_here : (pages : Pages) (p : ℕ) (b : Body) → with_body pages p b p ≡ b
at_here pages p b = cond-true (p == p) b (pages p) (eq-eqb p p refl)

pub at_other : (pages : Pages) (p : ℕ) (b : Body) (x : ℕ) → (p ≡ x → ⊥) → with_body pages p b x ≡ pages x
at_other pages p b x h = cond-false (p == x) b (pages x) (ne_eqb p x h)

-- the same page changed in the same pages
pub with_same : (new pages : Pages) (p : ℕ) (b : Body) → SamePages new pages → SamePages (with_body new p b) (with_body pages p b)
with_same new pages p b h x = ap (λ (o : Body). if p == x then b else o) (h x)

pub same_trans : (a b c : Pages) → SamePages a b → SamePages b c → SamePages a c
same_trans a b c h k x = h x ∙ k x

-- ---- pages that are the same to a tree, or to the chain

pub tree_of : (c d : Body) → d ≡ c → SameTree c d
tree_of c d e = record {
  kind = ap (λ (b : Body). b.kind) e;
  level = ap (λ (b : Body). b.level) e;
  entries = ap (λ (b : Body). b.entries) e;
  leftmost = ap (λ (b : Body). b.leftmost) e;
}

pub links_of : (c d : Body) → d ≡ c → SameLinks c d
links_of c d e = record { prev = ap (λ (b : Body). b.prev) e; next = ap (λ (b : Body). b.next) e }

pub tree_then : (b c d : Body) → SameTree b c → SameTree c d → SameTree b d
tree_then b c d h k = record {
  kind = k.kind ∙ h.kind;
  level = k.level ∙ h.level;
  entries = k.entries ∙ h.entries;
  leftmost = k.leftmost ∙ h.leftmost;
}

-- ---- links

pub prev_here : (pages : Pages) (r v : ℕ) → 1 ≤ r → linked_prev pages r v r ≡ with_prev (pages r) v
prev_here pages zero v some = absurd (omega arith)
prev_here pages (suc r) v some = at_here pages (suc r) (with_prev (pages (suc r)) v)

pub prev_other : (pages : Pages) (r v x : ℕ) → (r ≡ x → x ≡ 0) → linked_prev pages r v x ≡ pages x
prev_other pages zero v x h = refl
prev_other pages (suc r) v x h = at_other pages (suc r) (with_prev (pages (suc r)) v) x (λ e. absurd (omega (arith, e, h e)))

pub prev_tree : (pages : Pages) (r v x : ℕ) → SameTree (pages x) (linked_prev pages r v x)
prev_tree pages zero v x = tree_of (pages x) (pages x) refl
prev_tree pages (suc r) v x = elim (cases_eq (suc r) x) [
  | inl here ↦
      subst (λ (y : ℕ). SameTree (pages y) (linked_prev pages (suc r) v y)) here
      (tree_then (pages (suc r)) (with_prev (pages (suc r)) v) (linked_prev pages (suc r) v (suc r)) (record { kind = refl; level = refl; entries = refl; leftmost = refl })
      (tree_of (with_prev (pages (suc r)) v) (linked_prev pages (suc r) v (suc r)) (prev_here pages (suc r) v (omega arith))))
  | inr other ↦ tree_of (pages x) (linked_prev pages (suc r) v x) (prev_other pages (suc r) v x (λ e. absurd (other e)))
]

pub next_here : (pages : Pages) (l v : ℕ) → 1 ≤ l → linked_next pages l v l ≡ with_next (pages l) v
next_here pages zero v some = absurd (omega arith)
next_here pages (suc l) v some = at_here pages (suc l) (with_next (pages (suc l)) v)

pub next_other : (pages : Pages) (l v x : ℕ) → (l ≡ x → x ≡ 0) → linked_next pages l v x ≡ pages x
next_other pages zero v x h = refl
next_other pages (suc l) v x h = at_other pages (suc l) (with_next (pages (suc l)) v) x (λ e. absurd (omega (arith, e, h e)))

pub next_tree : (pages : Pages) (l v x : ℕ) → SameTree (pages x) (linked_next pages l v x)
next_tree pages zero v x = tree_of (pages x) (pages x) refl
next_tree pages (suc l) v x = elim (cases_eq (suc l) x) [
  | inl here ↦
      subst (λ (y : ℕ). SameTree (pages y) (linked_next pages (suc l) v y)) here
      (tree_then (pages (suc l)) (with_next (pages (suc l)) v) (linked_next pages (suc l) v (suc l)) (record { kind = refl; level = refl; entries = refl; leftmost = refl })
      (tree_of (with_next (pages (suc l)) v) (linked_next pages (suc l) v (suc l)) (next_here pages (suc l) v (omega arith))))
  | inr other ↦ tree_of (pages x) (linked_next pages (suc l) v x) (next_other pages (suc l) v x (λ e. absurd (other e)))
]

-- ---- pages that a list does not have

pub not_first : (x y : ℕ) (ys : List ℕ) → times x (y ∷ ys) ≡ 0 → y ≡ x → ⊥
not_first x y ys h e = omega (arith, subst (λ (z : ℕ). times x (z ∷ ys) ≡ 0) e h, times-here x ys)

pub not_later : (x y : ℕ) (ys : List ℕ) → times x (y ∷ ys) ≡ 0 → times x ys ≡ 0
not_later x y ys h = omega (arith, h)

pub links_then : (b c d : Body) → SameLinks b c → SameLinks c d → SameLinks b d
links_then b c d h k = record { prev = k.prev ∙ h.prev; next = k.next ∙ h.next }

-- a page whose body changes but for its links
pub links_with : (pages : Pages) (p : ℕ) (b : Body) → SameLinks (pages p) b → (x : ℕ) → SameLinks (pages x) (with_body pages p b x)
links_with pages p b h x = elim (cases_eq p x) [
  | inl here ↦ subst (λ (y : ℕ). SameLinks (pages y) (with_body pages p b y)) here (links_then (pages p) b (with_body pages p b p) h (links_of b (with_body pages p b p) (at_here pages p b)))
  | inr other ↦ links_of (pages x) (with_body pages p b x) (at_other pages p b x other)
]
