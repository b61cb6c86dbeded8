-- How many pages a good tree has.
use Rattle.std.proofs.Common.{◌≡◌, ℕ, zero, suc, ◌+◌, ◌<◌, ◌≤◌, Bool, true, false, List, [], ◌∷◌, ◌++◌, length, refl, sym, ap, ◌∙◌, arith, ◌==◌, nat_lt, if◌then◌else◌}
use Rattle.std.proofs.lemmas.Bool.Decides.{nat_tests}
use Rattle.std.proofs.lemmas.List.{length-append, length-map}
use Rattle.im_theory_tree.specs.Levels.{Pages, Node, below, leaves_under, pages_under, the_root, height, page_numbers}
use Rattle.im_theory_tree.specs.Good.{free_from, times, IsGoodTree}
use Rattle.im_theory_tree.proofs.Keeps.{times-append}
use Rattle.im_theory_tree.proofs.Descent.{times-here}

-- 1 where the test holds
abbrev pub one_if : Bool → ℕ
one_if t = if t then 1 else 0

-- how many of the list's numbers are below n
abbrev pub count_below : ℕ → List ℕ → ℕ
count_below zero qs = 0
count_below (suc n) qs = count_below n qs + times n qs

one_more : (q n : ℕ) → (if nat_lt q n then 1 else 0) + (if n == q then 1 else 0) ≡ (if nat_lt q (suc n) then 1 else 0)
one_more q n = grind (arith, nat_tests)

pub count_cons : (n q : ℕ) (qs : List ℕ) → count_below n (q ∷ qs) ≡ (if nat_lt q n then 1 else 0) + count_below n qs
count_cons zero q qs = none q
  where
    none : (x : ℕ) → 0 ≡ (if nat_lt x 0 then 1 else 0) + 0
    none x = grind (arith, nat_tests)
count_cons (suc n) q qs = omega (arith, count_cons n q qs, one_more q n)

pub count_none : (n : ℕ) → count_below n [] ≡ 0
count_none zero = refl
count_none (suc n) = omega (arith, count_none n)

-- a list whose numbers are below n is counted whole
pub count_whole : (n : ℕ) (qs : List ℕ) → ((x : ℕ) → 1 ≤ times x qs → one_if (nat_lt x n) ≡ 1) → count_below n qs ≡ length qs
count_whole n [] h = count_none n
count_whole n (q ∷ qs) h =
    omega (arith, count_cons n q qs, h q (omega (arith, times-here q qs)), count_whole n qs (λ x t. h x (omega (arith, t))))

-- each number below n once
pub count_once : (n m : ℕ) (qs : List ℕ) → m ≤ n → ((x : ℕ) → times x qs ≡ (if nat_lt x n then 1 else 0)) → count_below m qs ≡ m
count_once n zero qs le h = refl
count_once n (suc m) qs le h = omega (arith, count_once n m qs (omega arith) h, h m, is_less m n (omega arith))
  where
    is_less : (x y : ℕ) → x < y → one_if (nat_lt x y) ≡ 1
    is_less x y lt = grind (arith, nat_tests)

-- a list that has each number below n once, and no other, has n numbers
pub length_once : (n : ℕ) (qs : List ℕ) → ((x : ℕ) → times x qs ≡ (if nat_lt x n then 1 else 0)) → length qs ≡ n
length_once n qs h =
    sym (count_whole n qs (λ x t. one (nat_lt x n) (omega (arith, t, h x)))) ∙ count_once n n qs (omega arith) h
  where
    one : (t : Bool) → 1 ≤ one_if t → one_if t ≡ 1
    one true le = refl
    one false le = absurd (omega arith)

pub length-free_from : (pages : Pages) (n p : ℕ) → length (free_from pages n p) ≡ n
length-free_from pages zero p = refl
length-free_from pages (suc n) p = ap suc (length-free_from pages n (pages p).next)

-- the page count is the meta page, the pages of the tree, the free and the spare ones
pub pages_counted : (pages : Pages) (spare : List ℕ) → IsGoodTree pages spare
    → 1 + length (pages_under pages (height pages) the_root) + (pages 0).prev + length spare ≡ (pages 0).leftmost
pages_counted pages spare good =
    let tree = pages_under pages (height pages) the_root in
    let free = free_from pages (pages 0).prev (pages 0).next in
    omega (arith, length_once (pages 0).leftmost (0 ∷ tree ++ free ++ spare) good.cover, length-append (tree ++ free) spare, length-append tree free, length-free_from pages (pages 0).prev (pages 0).next)

-- the leaves are among the pages
pub leaves_fewer : (pages : Pages) (h : ℕ) (ns : List Node) → length (leaves_under pages h ns) ≤ length (pages_under pages h ns)
leaves_fewer pages zero ns = omega (arith, length-map ns (λ (n : Node). n.page))
leaves_fewer pages (suc h) ns = omega (arith, leaves_fewer pages h (below pages ns), length-append (page_numbers ns) (pages_under pages h (below pages ns)))

pub leaves_counted : (pages : Pages) (spare : List ℕ) → IsGoodTree pages spare → length (leaves_under pages (height pages) the_root) < (pages 0).leftmost
leaves_counted pages spare good = omega (arith, pages_counted pages spare good, leaves_fewer pages (height pages) the_root)

-- a page that stands in the tree is below the page count, and is not the meta page
pub below_count : (pages : Pages) (spare : List ℕ) (x : ℕ) → IsGoodTree pages spare → 1 ≤ times x (pages_under pages (height pages) the_root) → (1 ≤ x) × (x < (pages 0).leftmost)
below_count pages spare x good there =
    let tree = pages_under pages (height pages) the_root in
    let free = free_from pages (pages 0).prev (pages 0).next in
    let all = good.cover x in
    let one = times-append x (tree ++ free) spare in
    let two = times-append x tree free in
    let zero_once : 1 ≤ (if nat_lt x (pages 0).leftmost then 1 else 0) = omega (arith, all, one, two, there) in
    (not_zero x (omega (arith, all, one, two, there, at_most (nat_lt x (pages 0).leftmost))), is_below x (pages 0).leftmost zero_once)
  where
    at_most : (t : Bool) → (if t then 1 else 0) ≤ 1
    at_most true = omega arith
    at_most false = omega arith

    not_zero : (y : ℕ) → times y (0 ∷ []) ≡ 0 → 1 ≤ y
    not_zero zero h = absurd (omega (arith, h, times-here 0 []))
    not_zero (suc y) h = omega arith

    is_below : (y n : ℕ) → 1 ≤ (if nat_lt y n then 1 else 0) → y < n
    is_below y n h = grind (arith, nat_tests, h)
