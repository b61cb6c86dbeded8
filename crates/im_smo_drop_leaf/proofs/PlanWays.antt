-- A plan of a deletion keeps ways.
use Rattle.std.proofs.Common.{◌≡◌, ◌≢◌, ◌⊎◌, ℕ, zero, suc, ◌+◌, ◌≤◌, Bool, List, [], ◌∷◌, ◌++◌, inl, inr, refl, sym, ap, subst, ◌∙◌, arith, ◌==◌, if◌then◌else◌}
use Rattle.std.proofs.lemmas.Bool.{cases_eq, cond-true, cond-false, eq-eqb, ne_eqb}
use Rattle.im_base_types.specs.Keys.{Key}
use Rattle.im_base_types.specs.Pages.{Body}
use Rattle.im_base_types.specs.declared.page_kind.PageKind.TheVariants.{Free, Leaf}
use Rattle.im_theory_page.specs.Header.{empty_body}
use Rattle.im_theory_log.specs.Tree.{with_body}
use Rattle.im_theory_tree.specs.Levels.{Pages}
use Rattle.im_theory_tree.specs.Good.{IsLeafPage, times, IsGoodTree}
use Rattle.im_theory_tree.specs.Search.{IsOnWay}
use Rattle.im_theory_tree.specs.KeyDeletions.{chain_down}
use Rattle.im_theory_tree.specs.Steps.{DropsChain, FromEntry, FromLeftmost, FromRoot}
use Rattle.im_theory_tree.proofs.Cited.{AllOf-right, times-here, way_stays, drop_entry, drop_leftmost, drop_all, chain_ways, same_tree}
use Rattle.im_theory_tree.specs.Ways.{KeepsWays}
use Rattle.im_smo_pages.specs.Bodies.{meta_with_first}
use Rattle.im_smo_pages.specs.Images.{Numbered, held}
use Rattle.im_smo_pages.specs.OnWay.{IsApart}
use Rattle.im_smo_pages.specs.Seen.{bodies}
use Rattle.im_smo_pages.proofs.PlanWays.{apart_page}
use Rattle.im_smo_drop_leaf.specs.Given.{given_pages}
use Rattle.im_smo_drop_leaf.specs.Plan.{DeletesChain, DeletionPlansKeepWays}

no_more : (xs : List ℕ) → xs ++ [] ≡ xs
no_more [] = refl
no_more (x ∷ xs) = ap (λ ys. x ∷ ys) (no_more xs)

gone_spare : (mid : Pages) (gone chain : List ℕ) → gone ≡ chain → IsGoodTree mid (chain ++ []) → IsGoodTree mid gone
gone_spare mid gone chain e good = subst (IsGoodTree mid) (no_more chain ∙ sym e) good

good_between : (pages mid : Pages) (gone : List ℕ) → DropsChain pages mid gone → IsGoodTree mid gone
good_between pages mid gone (FromEntry h key parent p i s e) = gone_spare mid gone (chain_down pages h p) e (drop_entry pages mid [] h key parent p i s).0
good_between pages mid gone (FromLeftmost h key parent p s e) = gone_spare mid gone (chain_down pages h p) e (drop_leftmost pages mid [] h key parent p s).0
good_between pages mid gone (FromRoot h s e) = gone_spare mid gone (chain_down pages h (pages 1).leftmost) e (drop_all pages mid [] h s).0

not_in : (x q : ℕ) (qs : List ℕ) → times x (q ∷ qs) ≡ 0 → q ≡ x → ⊥
not_in x q qs none e = omega (arith, subst (λ y. times x (y ∷ qs) ≡ 0) e none, times-here x qs)

-- pages that are neither page 0 nor given back are as they were
given_elsewhere : (mid : Pages) (qs : List ℕ) (x : ℕ) → times x (0 ∷ qs) ≡ 0 → given_pages mid qs x ≡ mid x
given_elsewhere mid [] x none = refl
given_elsewhere mid (q ∷ qs) x none =
    let rest : times x (q ∷ qs) ≡ 0 = omega (arith, none) in
    let later : times x (0 ∷ qs) ≡ 0 = omega (arith, none) in
    let old : Pages = given_pages mid qs in
    cond-false (q == x) (empty_body Free 0 0 (old 0).next 0) (with_body old 0 (meta_with_first (old 0) q) x) (ne_eqb q x (not_in x q qs rest))
    ∙ cond-false (0 == x) (meta_with_first (old 0) q) (old x) (ne_eqb 0 x (not_in x 0 qs later))
    ∙ given_elsewhere mid qs x later

-- a page that is given back is free, unless it is page 0
given_free : (mid : Pages) (qs : List ℕ) (x : ℕ) → x ≢ 0 → 1 ≤ times x qs → (given_pages mid qs x).kind ≡ Free
given_free mid [] x other some = absurd (omega arith)
given_free mid (q ∷ qs) x other some = elim (cases_eq q x) [
  | inl here ↦
      let old : Pages = given_pages mid qs in
      ap (λ (b : Body). b.kind) (cond-true (q == x) (empty_body Free 0 0 (old 0).next 0) (with_body old 0 (meta_with_first (old 0) q) x) (eq-eqb q x here))
  | inr ne ↦
      let old : Pages = given_pages mid qs in
      let rest : 1 ≤ times x qs = subst (λ n. 1 ≤ n) (counts ne) some in
      ap (λ (b : Body). b.kind) (cond-false (q == x) (empty_body Free 0 0 (old 0).next 0) (with_body old 0 (meta_with_first (old 0) q) x) (ne_eqb q x ne)
      ∙ cond-false (0 == x) (meta_with_first (old 0) q) (old x) (ne_eqb 0 x (λ e. other (sym e))))
      ∙ given_free mid qs x other rest
]
  where
    counts : (q ≡ x → ⊥) → times x (q ∷ qs) ≡ times x qs
    counts ne = ap (λ (t : Bool). (if t then 1 else 0) + times x qs) (ne_eqb x q (λ e. ne (sym e))) ∙ omega arith

zero_or_more : (n : ℕ) → (n ≡ 0) ⊎ (1 ≤ n)
zero_or_more zero = inl refl
zero_or_more (suc n) = inr (omega arith)

-- the page at the end of a way to a leaf is a leaf
leaf_at : (pages : Pages) (key : Key) (q : ℕ) → IsOnWay pages zero key q → (pages q).kind ≡ Leaf
leaf_at pages key q way =
    subst (λ x. (pages x).kind ≡ Leaf) way.page (AllOf-right (IsLeafPage pages) way.left (way.node ∷ way.right) way.levels).0.0

-- page 0 is no leaf
leaf_not_zero : (pages : Pages) (q : ℕ) → IsGoodTree pages [] → (pages q).kind ≡ Leaf → q ≢ 0
leaf_not_zero pages q good leaf e =
    let clash = sym good.meta ∙ ap (λ x. (pages x).kind) (sym e) ∙ leaf in cc clash

deletions_keep_ways : (pages : Pages) (images : List Numbered) (p : ℕ) → IsGoodTree pages [] → IsGoodTree (held pages images) [] → DeletesChain pages (held pages images) p → KeepsWays pages (held pages images) (IsApart images)
deletions_keep_ways pages images p good after deletes key q way apart = elim (zero_or_more (times q (deletes.above ++ p ∷ []))) [
  | inl none ↦
      let gone = deletes.above ++ p ∷ [] in
      let over : IsOnWay deletes.mid zero key q = chain_ways pages deletes.mid gone deletes.drops key q way none in
      way_stays deletes.mid (held pages images) gone [] zero key q (good_between pages deletes.mid gone deletes.drops) after
      (λ x t. same_tree (deletes.mid x) (held pages images x) (deletes.gives x ∙ given_elsewhere deletes.mid gone x t)) over
  | inr some ↦
      let gone = deletes.above ++ p ∷ [] in
      let leaf = leaf_at pages key q way in
      let free : (held pages images q).kind ≡ Free = ap (λ (b : Body). b.kind) (deletes.gives q) ∙ given_free deletes.mid gone q (leaf_not_zero pages q good leaf) some in
      let still : (held pages images q).kind ≡ Leaf = ap (λ (b : Body). b.kind) (apart_page pages images q apart) ∙ leaf in
      absurd (let clash = sym free ∙ still in cc clash)
]

pub deletion_plans_keep_ways : DeletionPlansKeepWays
deletion_plans_keep_ways pages p images good plan = deletions_keep_ways (bodies pages) images p good plan.good plan.by
