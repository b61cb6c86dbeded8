-- The leaves beside a leaf of a good tree.
use Rattle.std.proofs.Common.{◌≡◌, ℕ, zero, ◌+◌, ◌≤◌, List, [], ◌∷◌, ◌++◌, inl, inr, sym, ap, subst, ◌∙◌, arith}
use Rattle.std.proofs.lemmas.Bool.{cases_eq}
use Rattle.std.proofs.lemmas.Bool.Decides.{nat_tests}
use Rattle.std.proofs.lemmas.List.{map-append}
use Rattle.im_base_types.specs.declared.page_kind.PageKind.TheVariants.{Leaf}
use Rattle.im_base_types.specs.Keys.{Key}
use Rattle.im_theory_tree.specs.Levels.{Pages, Node, leaves_under, page_numbers, the_root, height}
use Rattle.im_theory_tree.specs.Good.{AllOf, IsLeafPage, AreChained, first_page, times, IsGoodTree}
use Rattle.im_theory_tree.specs.Search.{IsOnWay}
use Rattle.im_theory_tree.proofs.Cited.{times-append, times-here, chained_right, good_once, leaves_among, leaves_are_leaves}

-- a leaf, among the leaves from left to right
pub record LeafPlace (pages : Pages) (p : ℕ) : Type 0 where
  pub before : List Node
  pub node : Node
  pub after : List Node
  pub leaves : leaves_under pages (height pages) the_root ≡ before ++ node ∷ after
  pub page : node.page ≡ p

-- the leaves beside it, where there are some, are leaves, others than it and each other, and not spare
pub record Beside (pages : Pages) (spare : List ℕ) (p : ℕ) : Type 0 where
  pub self_spare : times p spare ≡ 0
  pub next_kind : 1 ≤ (pages p).next → (pages (pages p).next).kind ≡ Leaf
  pub next_self : 1 ≤ (pages p).next → (pages p).next ≡ p → ⊥
  pub next_spare : 1 ≤ (pages p).next → times (pages p).next spare ≡ 0
  pub prev_kind : 1 ≤ (pages p).prev → (pages (pages p).prev).kind ≡ Leaf
  pub prev_self : 1 ≤ (pages p).prev → (pages p).prev ≡ p → ⊥
  pub prev_spare : 1 ≤ (pages p).prev → times (pages p).prev spare ≡ 0
  pub apart : 1 ≤ (pages p).prev → (pages p).prev ≡ (pages p).next → ⊥

-- the leaf of a key
pub place_on_way : (pages : Pages) (key : Key) (p : ℕ) → IsOnWay pages zero key p → LeafPlace pages p
place_on_way pages key p way = record { before = way.left; node = way.node; after = way.right; leaves = sym way.leaves; page = way.page }

leaf_among : (pages : Pages) (ns : List Node) (x : ℕ) → AllOf (IsLeafPage pages) ns → 1 ≤ times x (page_numbers ns) → (pages x).kind ≡ Leaf
leaf_among pages [] x all some = absurd (omega arith)
leaf_among pages (n ∷ ns) x all some = elim (cases_eq n.page x) [
  | inl here ↦ subst (λ (y : ℕ). (pages y).kind ≡ Leaf) here all.0.0
  | inr other ↦ leaf_among pages ns x all.1 (omega (arith, some, not_here x n.page (page_numbers ns) other))
]
  where
    not_here : (x y : ℕ) (ys : List ℕ) → (y ≡ x → ⊥) → times x (y ∷ ys) ≡ times x ys
    not_here x y ys h = grind (arith, nat_tests, h)

next_among : (pages : Pages) (v : ℕ) (after : List Node) → v ≡ first_page after → 1 ≤ v → 1 ≤ times v (page_numbers after)
next_among pages v [] is some = absurd (omega (arith, is, some))
next_among pages v (n ∷ after) is some = subst (λ (x : ℕ). 1 ≤ times x (n.page ∷ page_numbers after)) (sym is) (omega (arith, times-here n.page (page_numbers after)))

prev_among : (pages : Pages) (b : ℕ) (before : List Node) (n : Node) (after : List Node) → AreChained pages b (before ++ n ∷ after)
    → 1 ≤ times (pages n.page).prev (b ∷ page_numbers before)
prev_among pages b [] n after h = subst (λ (x : ℕ). 1 ≤ times x (b ∷ [])) (sym h.0) (omega (arith, times-here b []))
prev_among pages b (m ∷ before) n after h = let rest = prev_among pages m.page before n after h.2 in omega (arith, rest)

not_zero : (x : ℕ) (ys : List ℕ) → 1 ≤ x → times x (0 ∷ ys) ≡ times x ys
not_zero x ys some = grind (arith, nat_tests)

pub beside : (pages : Pages) (spare : List ℕ) (p : ℕ) → IsGoodTree pages spare → LeafPlace pages p → Beside pages spare p
beside pages spare p good place = subst (Beside pages spare) place.page at_node
  where
    node : Node
    node = place.node

    chain : (v : ℕ) × AreChained pages v (place.node ∷ place.after)
    chain = chained_right pages 0 place.before (place.node ∷ place.after) (subst (AreChained pages 0) place.leaves good.chained)

    all : AllOf (IsLeafPage pages) (place.before ++ place.node ∷ place.after)
    all = subst (AllOf (IsLeafPage pages)) place.leaves (leaves_are_leaves pages (height pages) the_root good.levels)

    counts : (x : ℕ) → times x (page_numbers (place.before ++ place.node ∷ place.after)) ≡ times x (page_numbers place.before) + times x (place.node.page ∷ page_numbers place.after)
    counts x = ap (times x) (map-append (λ (n : Node). n.page) place.before (place.node ∷ place.after)) ∙ times-append x (page_numbers place.before) (place.node.page ∷ page_numbers place.after)

    once : (x : ℕ) → times x (page_numbers place.before) + times x (place.node.page ∷ []) + times x (page_numbers place.after) + times x spare + times x (0 ∷ []) ≤ 1
    once x = omega (arith, good_once pages spare good x, leaves_among pages (height pages) the_root x, ap (λ (ns : List Node). times x (page_numbers ns)) place.leaves, counts x)

    next_there : 1 ≤ (pages place.node.page).next → 1 ≤ times (pages place.node.page).next (page_numbers place.after)
    next_there = next_among pages (pages place.node.page).next place.after chain.1.1

    prev_there : 1 ≤ (pages place.node.page).prev → 1 ≤ times (pages place.node.page).prev (page_numbers place.before)
    prev_there some = omega (
      arith,
      prev_among pages 0 place.before place.node place.after (subst (AreChained pages 0) place.leaves good.chained),
      once (pages place.node.page).prev,
      not_zero (pages place.node.page).prev (page_numbers place.before) some,
    )

    at_node : Beside pages spare place.node.page
    at_node = record {
      self_spare = omega (arith, once place.node.page, times-here place.node.page []);
      next_kind = λ some. leaf_among pages (place.before ++ place.node ∷ place.after) (pages place.node.page).next all (omega (arith, counts (pages place.node.page).next, next_there some));
      next_self = λ some e. omega (arith, once (pages place.node.page).next, next_there some, subst (λ (x : ℕ). 1 ≤ times x (place.node.page ∷ [])) (sym e) (omega (arith, times-here place.node.page [])));
      next_spare = λ some. omega (arith, once (pages place.node.page).next, next_there some);
      prev_kind = λ some. leaf_among pages (place.before ++ place.node ∷ place.after) (pages place.node.page).prev all (omega (arith, counts (pages place.node.page).prev, prev_there some));
      prev_self = λ some e. omega (arith, once (pages place.node.page).prev, prev_there some, subst (λ (x : ℕ). 1 ≤ times x (place.node.page ∷ [])) (sym e) (omega (arith, times-here place.node.page [])));
      prev_spare = λ some. omega (arith, once (pages place.node.page).prev, prev_there some);
      apart = λ some e. omega (arith, once (pages place.node.page).prev, prev_there some, subst (λ (x : ℕ). 1 ≤ times x (page_numbers place.after)) (sym e) (next_there (omega (arith, some, e))));
    }
