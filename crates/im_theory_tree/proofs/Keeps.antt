-- What a split of a leaf keeps: order, levels, chain, cover. And the parts that do not change.
use Rattle.std.proofs.Common.{◌≡◌, ℕ, zero, suc, ◌+◌, List, [], ◌∷◌, ◌++◌, Option, Some, None, refl, sym, ap, subst, ◌∙◌, inl, inr, arith}
use Rattle.std.proofs.lemmas.List.{map-append}
use Rattle.im_theory_tree.specs.Good.{AllOf, IsLeafPage, IsInnerPage, HaveLevels, AtOrAbove, IsUnder, next_bound, IsAfter, BoundsFollow, AreOrdered, first_page, AreChained, free_from, AreFree, times}
use Rattle.im_theory_tree.specs.Levels.{Pages, Node, below, pages_under, page_numbers}
use Rattle.im_theory_tree.specs.Same.{SameTree, SameOn, SameLinks}
use Rattle.im_theory_tree.specs.Splits.{Halves}
use Rattle.im_base_types.specs.Keys.{IsBelow}
use Rattle.im_base_types.specs.Pages.{Entry}
use Rattle.im_theory_tree.proofs.Frame.{AllOf-left, AllOf-right, below_same}
use Rattle.im_theory_tree.proofs.Order.{AllOf-both}

-- ORDER
pub ordered_same : (pages new : Pages) (ns : List Node) → SameOn pages new (page_numbers ns) → AreOrdered pages ns → AreOrdered new ns
ordered_same pages new [] s h = tt
ordered_same pages new (n ∷ ns) s h = (rw s.0.entries h.0, h.1, ordered_same pages new ns s.1 h.2)

-- the bound after a front does not depend on what comes after the node after it
pub next_bound-front : (a t u : List Node) (n : Node) → next_bound (a ++ n ∷ t) ≡ next_bound (a ++ n ∷ u)
next_bound-front [] t u n = refl
next_bound-front (x ∷ a) t u n = refl

pub follow-front : (low : Option (List ℕ)) (a t u : List Node) (n : Node) → BoundsFollow low (a ++ n ∷ t) → BoundsFollow low (a ++ n ∷ u)
follow-front low [] t u n h = h
follow-front low (x ∷ a) t u n h = h

-- the tail of a level may change where it begins with the same node
pub ordered_front : (pages new : Pages) (a t u : List Node) (n : Node) → SameOn pages new (page_numbers a) → AreOrdered pages (a ++ n ∷ t)
    → AreOrdered new (n ∷ u) → AreOrdered new (a ++ n ∷ u)
ordered_front pages new [] t u n s h tail = tail
ordered_front pages new (x ∷ a) t u n s h tail =
    (rw (s.0.entries, next_bound-front a u t n) h.0, follow-front x.bound a t u n h.1, ordered_front pages new a t u n s.1 h.2 tail)

pub follow_separator : (s : List ℕ) (low high : Option (List ℕ)) → IsAfter low high → IsUnder s high → IsAfter (Some s) high
follow_separator s low None h u = absurd h
follow_separator s low (Some b) h u = u

pub follows : (s : List ℕ) (low : Option (List ℕ)) (b : List Node) → BoundsFollow low b → IsUnder s (next_bound b) → BoundsFollow (Some s) b
follows s low [] h u = tt
follows s low (n ∷ b) h u = follow_separator s low n.bound h u

pub ordered_halves : (pages new : Pages) (b : List Node) (n : Node) (q : ℕ) (s : List ℕ)
    → Halves (pages n.page).entries (new n.page).entries (new q).entries s → SameOn pages new (page_numbers b)
    → IsAfter n.bound (Some s) → AreOrdered pages (n ∷ b) → AreOrdered new (n ∷ record { bound = Some s; page = q } ∷ b)
ordered_halves pages new b n q s h sb after ordered =
    let P : Entry → Type 0 = λ e. AtOrAbove n.bound e.0 × IsUnder e.0 (next_bound b) in
    let all : AllOf P ((new n.page).entries ++ (new q).entries) = rw h.joined ordered.0 in
    let left : AllOf P (new n.page).entries = AllOf-left P (new n.page).entries (new q).entries all in
    let right : AllOf P (new q).entries = AllOf-right P (new n.page).entries (new q).entries all in
    let split : AllOf P (h.first ∷ h.others) = subst (AllOf P) h.starts right in
    let under : IsUnder s (next_bound b) = rw (← h.at) split.0.1 in
    let first : AtOrAbove (Some s) h.first.0 × IsUnder h.first.0 (next_bound b) = (inl (sym h.at), split.0.1) in
    let rest = AllOf-both P (λ (e : Entry). IsBelow s e.0) (λ e. AtOrAbove (Some s) e.0 × IsUnder e.0 (next_bound b)) (λ e x y. (inr y, x.1)) h.others split.1 h.above in (
      AllOf-both P (λ (e : Entry). IsBelow e.0 s) (λ e. AtOrAbove n.bound e.0 × IsUnder e.0 (Some s)) (λ e x y. (x.0, y)) (new n.page).entries left h.below,
      after,
      (rw h.starts (first, rest), follows s n.bound b ordered.1 under, ordered_same pages new b sb ordered.2),
    )

-- LEVELS
pub leaf_pages_same : (pages new : Pages) (ns : List Node) → SameOn pages new (page_numbers ns) → AllOf (IsLeafPage pages) ns → AllOf (IsLeafPage new) ns
leaf_pages_same pages new [] s h = tt
leaf_pages_same pages new (n ∷ ns) s h = ((s.0.kind ∙ h.0.0, s.0.level ∙ h.0.1), leaf_pages_same pages new ns s.1 h.1)

pub inner_pages_same : (pages new : Pages) (h : ℕ) (ns : List Node) → SameOn pages new (page_numbers ns) → AllOf (IsInnerPage pages h) ns → AllOf (IsInnerPage new h) ns
inner_pages_same pages new l [] s h = tt
inner_pages_same pages new l (n ∷ ns) s h = ((s.0.kind ∙ h.0.0, s.0.level ∙ h.0.1), inner_pages_same pages new l ns s.1 h.1)

pub levels_same : (pages new : Pages) (h : ℕ) (ns : List Node) → SameOn pages new (pages_under pages h ns) → HaveLevels pages h ns → HaveLevels new h ns
levels_same pages new zero ns s h = leaf_pages_same pages new ns s h
levels_same pages new (suc l) ns s h =
    let P : ℕ → Type 0 = λ q. SameTree (pages q) (new q) in
    let top = AllOf-left P (page_numbers ns) (pages_under pages l (below pages ns)) s in (
      inner_pages_same pages new (suc l) ns top h.0,
      subst (HaveLevels new l) (sym (below_same pages new ns top)) (levels_same pages new l (below pages ns) (AllOf-right P (page_numbers ns) (pages_under pages l (below pages ns)) s) h.1),
    )

-- CHAIN
pub first_page-front : (a t u : List Node) (n : Node) → first_page (a ++ n ∷ t) ≡ first_page (a ++ n ∷ u)
first_page-front [] t u n = refl
first_page-front (x ∷ a) t u n = refl

pub chained_same : (pages new : Pages) (prev : ℕ) (ns : List Node) → AllOf (λ q. SameLinks (pages q) (new q)) (page_numbers ns) → AreChained pages prev ns → AreChained new prev ns
chained_same pages new prev [] s h = tt
chained_same pages new prev (n ∷ ns) s h = (s.0.prev ∙ h.0, s.0.next ∙ h.1, chained_same pages new n.page ns s.1 h.2)

-- the node after which the tail changes keeps its prev
pub chained_front : (pages new : Pages) (prev : ℕ) (a t u : List Node) (n : Node) → AllOf (λ q. SameLinks (pages q) (new q)) (page_numbers a)
    → AreChained pages prev (a ++ n ∷ t) → ((p : ℕ) → (pages n.page).prev ≡ p → AreChained new p (n ∷ u)) → AreChained new prev (a ++ n ∷ u)
chained_front pages new prev [] t u n s h tail = tail prev h.0
chained_front pages new prev (x ∷ a) t u n s h tail =
    (s.0.prev ∙ h.0, s.0.next ∙ h.1 ∙ first_page-front a t u n, chained_front pages new x.page a t u n s.1 h.2 tail)

-- the right neighbour's prev names the new leaf, and nothing else in its links changes
pub rechained : (pages new : Pages) (p q : ℕ) (b : List Node) → AreChained pages p b
    → ((r : Node) (rest : List Node) → b ≡ r ∷ rest → ((new r.page).prev ≡ q) × ((new r.page).next ≡ (pages r.page).next) × AllOf (λ x. SameLinks (pages x) (new x)) (page_numbers rest))
    → AreChained new q b
rechained pages new p q [] h f = tt
rechained pages new p q (r ∷ rest) h f =
    let g = f r rest refl in (g.0, g.1 ∙ h.1, chained_same pages new r.page rest g.2 h.2)

-- COVER
pub times-append : (p : ℕ) (xs ys : List ℕ) → times p (xs ++ ys) ≡ times p xs + times p ys
times-append p [] ys = omega arith
times-append p (x ∷ xs) ys = omega (arith, times-append p xs ys)

-- one node more in a level
pub times_one_more : (x : ℕ) (a b : List Node) (n m : Node)
    → times x (page_numbers (a ++ n ∷ m ∷ b)) ≡ times x (page_numbers (a ++ n ∷ b)) + times x (m.page ∷ [])
times_one_more x a b n m =
    let f : Node → ℕ = λ y. y.page in
    let one = ap (times x) (map-append f a (n ∷ m ∷ b)) ∙ times-append x (page_numbers a) (page_numbers (n ∷ m ∷ b)) in
    let two = ap (times x) (map-append f a (n ∷ b)) ∙ times-append x (page_numbers a) (page_numbers (n ∷ b)) in
    omega (arith, one, two)

-- THE FREE LIST
pub free_same : (pages new : Pages) (n p : ℕ) → AllOf (λ q. ((new q).kind ≡ (pages q).kind) × ((new q).next ≡ (pages q).next)) (free_from pages n p)
    → (free_from new n p ≡ free_from pages n p) × (AreFree pages n p → AreFree new n p)
free_same pages new zero p s = (refl, λ h. h)
free_same pages new (suc n) p s =
    let rest = free_same pages new n (pages p).next s.1 in
    (ap (λ t. p ∷ t) (ap (free_from new n) s.0.1 ∙ rest.0), λ h. (s.0.0 ∙ h.0, subst (AreFree new n) (sym s.0.1) (rest.1 h.1)))
