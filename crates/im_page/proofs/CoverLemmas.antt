-- Ranges that are apart and take all of a stretch together leave no number of it out.
use Rattle.std.proofs.Common.{zero, suc, ◌≡◌, ◌≢◌, ◌⊎◌, ℕ, ◌+◌, ◌-◌, ◌<◌, ◌≤◌, if◌then◌else◌, nat_le, refl, sym, ap, subst, ◌∙◌, inl, inr, ⊎_elim, arith}
use Rattle.std.proofs.lemmas.Bool.{cases_eq, cases_lt, le-leb, lt-leb}

-- what a function has below m, added up
counted : (ℕ → ℕ) → ℕ → ℕ
counted f zero = 0
counted f (suc m) = counted f m + f m

-- 1 within a range
within : ℕ → ℕ → ℕ → ℕ
within s e k = if nat_le s k then (if nat_le e k then 0 else 1) else 0

in_front : (s e k : ℕ) → k < s → within s e k ≡ 0
unfolding within
in_front s e k lt = ap (λ t. if t then (if nat_le e k then 0 else 1) else 0) (lt-leb s k lt)

inside : (s e k : ℕ) → s ≤ k → k < e → within s e k ≡ 1
unfolding within
inside s e k le lt = ap (λ t. if t then (if nat_le e k then 0 else 1) else 0) (le-leb s k le) ∙ ap (λ t. if t then 0 else 1) (lt-leb e k lt)

behind : (s e k : ℕ) → s ≤ k → e ≤ k → within s e k ≡ 0
unfolding within
behind s e k low high = ap (λ t. if t then (if nat_le e k then 0 else 1) else 0) (le-leb s k low) ∙ ap (λ t. if t then 0 else 1) (le-leb e k high)

within_most : (s e k : ℕ) → within s e k ≤ 1
within_most s e k = ⊎_elim (λ (x : k < s). omega (arith, in_front s e k x))
    (λ (x : s ≤ k). ⊎_elim (λ (y : k < e). omega (arith, inside s e k x y)) (λ (y : e ≤ k). omega (arith, behind s e k x y)) (cases_lt k e))
    (cases_lt k s)

-- a range counts its length, once it is passed
ranged : (s e m : ℕ) → s ≤ e
    → ((m ≤ s) × (counted (within s e) m ≡ 0)) ⊎ (((s ≤ m) × (m ≤ e) × (counted (within s e) m + s ≡ m)) ⊎ ((e ≤ m) × (counted (within s e) m + s ≡ e)))
unfolding counted
ranged s e zero order = inl (omega arith, refl)
ranged s e (suc m) order =
    ⊎_elim
    (λ h. ⊎_elim
    (λ (x : m < s). let out = in_front s e m x in inl (omega arith, omega (arith, h.1, out)))
    (λ (x : s ≤ m). ⊎_elim
    (λ (y : m < e). let one = inside s e m x y in inr (inl (omega arith, omega arith, omega (arith, h.0, h.1, one))))
    (λ (y : e ≤ m). let out = behind s e m (omega arith) y in inr (inr (omega arith, omega (arith, h.0, h.1, out))))
    (cases_lt m e))
    (cases_lt m s))
    (λ rest. ⊎_elim
    (λ h. ⊎_elim
    (λ (y : m < e). let one = inside s e m h.0 y in inr (inl (omega (arith, h.0), omega arith, omega (arith, h.2, one))))
    (λ (y : e ≤ m). let out = behind s e m (omega arith) y in inr (inr (omega arith, omega (arith, h.1, h.2, out))))
    (cases_lt m e))
    (λ h. let out = behind s e m (omega (arith, h.0)) h.0 in inr (inr (omega (arith, h.0), omega (arith, h.1, out))))
    rest)
    (ranged s e m order)

counted_none : (m : ℕ) → counted (λ k. 0) m ≡ 0
unfolding counted
counted_none zero = refl
counted_none (suc m) = omega (arith, counted_none m)

counted_both : (f g : ℕ → ℕ) (m : ℕ) → counted (λ k. f k + g k) m ≡ counted f m + counted g m
unfolding counted
counted_both f g zero = refl
counted_both f g (suc m) = omega (arith, counted_both f g m)

-- at most one each from a number on, and none before it
bounded : (f : ℕ → ℕ) (start m : ℕ) → ((k : ℕ) → f k ≤ 1) → ((k : ℕ) → k < start → f k ≡ 0) → (m ≤ start → counted f m ≡ 0) × (start ≤ m → counted f m + start ≤ m)
unfolding counted
bounded f start zero one none = (λ _. refl, λ le. omega arith)
bounded f start (suc m) one none =
    let before = bounded f start m one none in (
      λ le. omega (arith, before.0 (omega arith), none m (omega arith)),
      λ le. ⊎_elim (λ (x : m < start). omega (arith, before.0 (omega arith), none m x)) (λ (x : start ≤ m). omega (arith, before.1 x, one m)) (cases_lt m start),
    )

-- .. and one less where a number from there on has none
missing : (f : ℕ → ℕ) (start m k : ℕ) → ((k : ℕ) → f k ≤ 1) → ((k : ℕ) → k < start → f k ≡ 0) → start ≤ k → k < m → f k ≡ 0 → counted f m + start + 1 ≤ m
unfolding counted
missing f start zero k one none from to out = absurd (omega arith)
missing f start (suc m) k one none from to out =
    ⊎_elim
    (λ (x : k < m). omega (arith, missing f start m k one none from x out, one m))
    (λ (x : m ≤ k). let same : k ≡ m = omega arith in let here : f m ≡ 0 = subst (λ j. f j ≡ 0) same out in omega (arith, (bounded f start m one none).1 (omega arith), here))
    (cases_lt k m)

-- one each from a number on, and none before it
filled : (f : ℕ → ℕ) (start m : ℕ) → ((k : ℕ) → k < start → f k ≡ 0) → ((k : ℕ) → start ≤ k → k < m → f k ≡ 1) → (m ≤ start → counted f m ≡ 0) × (start ≤ m → counted f m + start ≡ m)
unfolding counted
filled f start zero none one = (λ _. refl, λ le. omega arith)
filled f start (suc m) none one =
    let before = filled f start m none (λ k le lt. one k le (omega arith)) in (
      λ le. omega (arith, before.0 (omega arith), none m (omega arith)),
      λ le. ⊎_elim (λ (x : m < start). omega (arith, before.0 (omega arith), none m x)) (λ (x : start ≤ m). omega (arith, before.1 x, one m x (omega arith))) (cases_lt m start),
    )

module _ (s e : ℕ → ℕ) where
  -- how many of the first n ranges have a number
  cover : ℕ → ℕ → ℕ
  cover zero k = 0
  cover (suc n) k = cover n k + within (s n) (e n) k

  -- what the first n ranges take
  unfoldable pub spans : ℕ → ℕ
  spans zero = 0
  spans (suc n) = spans n + (e n - s n)

  -- ranges that are apart
  abbrev pub Apart : ℕ → Type 0
  Apart n = (i j : ℕ) → i < n → j < n → i ≢ j → (e i ≤ s j) ⊎ (e j ≤ s i)

  none_or : (n k : ℕ) → (cover n k ≡ 0) ⊎ ((i : ℕ) × (i < n) × (s i ≤ k) × (k < e i))
  unfolding cover
  none_or zero k = inl refl
  none_or (suc n) k =
      ⊎_elim
      (λ none. ⊎_elim
      (λ (x : k < s n). inl (omega (arith, none, in_front (s n) (e n) k x)))
      (λ (x : s n ≤ k). ⊎_elim
      (λ (y : k < e n). inr (n, omega arith, x, y))
      (λ (y : e n ≤ k). inl (omega (arith, none, behind (s n) (e n) k x y)))
      (cases_lt k (e n)))
      (cases_lt k (s n)))
      (λ some. inr (some.0, omega (arith, some.1), some.2, some.3))
      (none_or n k)

  at_most_one : (n k : ℕ) → Apart n → cover n k ≤ 1
  unfolding cover
  at_most_one zero k apart = omega arith
  at_most_one (suc n) k apart =
      let before : Apart n = λ i j li lj ne. apart i j (omega arith) (omega arith) ne in
      ⊎_elim
      (λ none. omega (arith, none, within_most (s n) (e n) k))
      (λ some. let out : within (s n) (e n) k ≡ 0 = ⊎_elim
      (λ (x : k < s n). in_front (s n) (e n) k x)
      (λ (x : s n ≤ k). ⊎_elim
      (λ (y : k < e n). absurd (⊎_elim (λ z. omega (arith, z, some.2, some.3)) (λ z. omega (arith, z, some.2, some.3)) (apart some.0 n (omega (arith, some.1)) (omega arith) (λ same. omega (arith, same, some.1)))))
      (λ (y : e n ≤ k). behind (s n) (e n) k x y)
      (cases_lt k (e n)))
      (cases_lt k (s n)) in omega (arith, at_most_one n k before, out))
      (none_or n k)

  counted_spans : (n m : ℕ) → ((i : ℕ) → i < n → (s i ≤ e i) × (e i ≤ m)) → counted (cover n) m ≡ spans n
  unfolding cover spans
  counted_spans zero m ok = counted_none m
  counted_spans (suc n) m ok =
      let here = ok n (omega arith) in
      let rest = counted_spans n m (λ i lt. ok i (omega arith)) in
      let both = counted_both (cover n) (within (s n) (e n)) m in
      ⊎_elim
      (λ h. omega (arith, both, rest, h.0, h.1, here.0, here.1))
      (λ more. ⊎_elim (λ h. omega (arith, both, rest, h.1, h.2, here.0, here.1)) (λ h. omega (arith, both, rest, h.1, here.0)) more)
      (ranged (s n) (e n) m here.0)

  -- each number of the stretch is in one of the ranges
  pub covered : (n start m : ℕ) → ((i : ℕ) → i < n → (start ≤ s i) × (s i ≤ e i) × (e i ≤ m)) → Apart n → start + spans n ≡ m
      → (k : ℕ) → start ≤ k → k < m → (i : ℕ) × (i < n) × (s i ≤ k) × (k < e i)
  covered n start m ok apart all k from to =
      ⊎_elim
      (λ none. absurd (omega (arith, all, counted_spans n m (λ i lt. ((ok i lt).1, (ok i lt).2)), missing (cover n) start m k (λ j. at_most_one n j apart) early from to none)))
      (λ some. some)
      (none_or n k)
    where
      early : (j : ℕ) → j < start → cover n j ≡ 0
      early j lt = ⊎_elim (λ none. none) (λ some. absurd (omega (arith, (ok some.0 some.1).0, some.2))) (none_or n j)

  some_cover : (n i k : ℕ) → i < n → s i ≤ k → k < e i → 1 ≤ cover n k
  unfolding cover
  some_cover zero i k li from to = absurd (omega arith)
  some_cover (suc n) i k li from to =
      ⊎_elim
      (λ (x : i < n). omega (arith, some_cover n i k x from to))
      (λ (x : n ≤ i). let same : i ≡ n = omega arith in
      let here : within (s n) (e n) k ≡ 1 = inside (s n) (e n) k (subst (λ j. s j ≤ k) same from) (subst (λ j. k < e j) same to) in omega (arith, here))
      (cases_lt i n)

  -- ranges that are apart and leave no number of the stretch out take all of it together
  pub full : (n start m : ℕ) → ((i : ℕ) → i < n → (start ≤ s i) × (s i ≤ e i) × (e i ≤ m)) → Apart n → start ≤ m
      → ((k : ℕ) → start ≤ k → k < m → (i : ℕ) × (i < n) × (s i ≤ k) × (k < e i)) → start + spans n ≡ m
  full n start m ok apart order all =
      let early : (j : ℕ) → j < start → cover n j ≡ 0 = λ j lt. ⊎_elim (λ none. none) (λ some. absurd (omega (arith, (ok some.0 some.1).0, some.2))) (none_or n j) in
      let one : (k : ℕ) → start ≤ k → k < m → cover n k ≡ 1 = λ k from to. let some = all k from to in omega (arith, at_most_one n k apart, some_cover n some.0 k some.1 some.2 some.3) in
      omega (arith, counted_spans n m (λ i lt. ((ok i lt).1, (ok i lt).2)), (filled (cover n) start m early one).1 order)

  -- each range begins at the start, or where a range ends
  abbrev pub Follow : ℕ → ℕ → Type 0
  Follow n start = (i : ℕ) → i < n → (s i ≡ start) ⊎ ((j : ℕ) × (j < n) × (e j ≡ s i))

  abbrev pub Distinct : ℕ → Type 0
  Distinct n = (i j : ℕ) → i < n → j < n → i ≢ j → s i ≢ s j

  from_start : (n start m : ℕ) → ((i : ℕ) → i < n → s i < e i) → Follow n start → (i : ℕ) → i < n → s i ≤ m → start ≤ s i
  from_start n start zero some follow i li le =
      ⊎_elim (λ (x : s i ≡ start). omega (arith, x)) (λ (p : (j : ℕ) × (j < n) × (e j ≡ s i)). absurd (omega (arith, p.2, some p.0 p.1, le))) (follow i li)
  from_start n start (suc m) some follow i li le =
      ⊎_elim (λ (x : s i ≡ start). omega (arith, x))
      (λ (p : (j : ℕ) × (j < n) × (e j ≡ s i)). omega (arith, p.2, some p.0 p.1, from_start n start m some follow p.0 p.1 (omega (arith, p.2, some p.0 p.1, le))))
      (follow i li)

  -- no range begins below a start
  pub none_below : (n start : ℕ) → ((i : ℕ) → i < n → s i < e i) → Follow n start → (i : ℕ) → i < n → start ≤ s i
  none_below n start some follow i li = from_start n start (s i) some follow i li (omega arith)

  passed : (n start m : ℕ) → ((i : ℕ) → i < n → s i < e i) → Distinct n → Follow n start → (i j : ℕ) → i < n → j < n → s j ≤ m → s i < s j → e i ≤ s j
  passed n start zero some distinct follow i j li lj le lt = absurd (omega (arith, le, lt))
  passed n start (suc m) some distinct follow i j li lj le lt =
      ⊎_elim
      (λ (x : s j ≡ start). absurd (omega (arith, x, lt, none_below n start some follow i li)))
      (λ (p : (k : ℕ) × (k < n) × (e k ≡ s j)).
      let k : ℕ = p.0 in
      let before : s k < e k = some k p.1 in
      ⊎_elim
      (λ (y : k ≡ i). subst (λ a. e a ≤ s j) y (omega (arith, p.2)))
      (λ (ne : k ≢ i). ⊎_elim
      (λ (z : s i < s k). omega (arith, passed n start m some distinct follow i k li p.1 (omega (arith, p.2, before, le)) z, before, p.2))
      (λ (z : s k ≤ s i). let other : s k ≢ s i = distinct k i p.1 li ne in
      ⊎_elim
      (λ (w : s k < s i). absurd (omega (arith, passed n start m some distinct follow k i p.1 li (omega (arith, le, lt)) w, p.2, lt)))
      (λ (w : s i ≤ s k). absurd (other (omega (arith, z, w))))
      (cases_lt (s k) (s i)))
      (cases_lt (s i) (s k)))
      (cases_eq k i))
      (follow j lj)

  -- ranges that follow one another, no two of which begin at one number, are apart
  pub follow_apart : (n start : ℕ) → ((i : ℕ) → i < n → s i < e i) → Distinct n → Follow n start → Apart n
  follow_apart n start some distinct follow i j li lj ne =
      let other : s i ≢ s j = distinct i j li lj ne in
      ⊎_elim
      (λ (x : s i < s j). inl (passed n start (s j) some distinct follow i j li lj (omega arith) x))
      (λ (x : s j ≤ s i). ⊎_elim
      (λ (y : s j < s i). inr (passed n start (s i) some distinct follow j i lj li (omega arith) y))
      (λ (y : s i ≤ s j). absurd (other (omega (arith, x, y))))
      (cases_lt (s j) (s i)))
      (cases_lt (s i) (s j))

  -- they leave no number out, from the start to where one ends
  pub follow_all : (n start m d : ℕ) → ((i : ℕ) → i < n → s i < e i) → Follow n start → (start ≡ m) ⊎ ((j : ℕ) × (j < n) × (e j ≡ m))
      → (k : ℕ) → start ≤ k → k + 1 + d ≡ m → (i : ℕ) × (i < n) × (s i ≤ k) × (k < e i)
  follow_all n start m zero some follow end k from to =
      ⊎_elim
      (λ (x : start ≡ m). absurd (omega (arith, x, from, to)))
      (λ (p : (j : ℕ) × (j < n) × (e j ≡ m)). (p.0, p.1, omega (arith, some p.0 p.1, p.2, to), omega (arith, p.2, to)))
      end
  follow_all n start m (suc d) some follow end k from to =
      let next = follow_all n start m d some follow end (k + 1) (omega (arith, from)) (omega (arith, to)) in
      ⊎_elim
      (λ (x : k < s next.0). ⊎_elim
      (λ (y : s next.0 ≡ start). absurd (omega (arith, x, y, from)))
      (λ (p : (j : ℕ) × (j < n) × (e j ≡ s next.0)). (p.0, p.1, omega (arith, some p.0 p.1, p.2, next.2), omega (arith, p.2, x)))
      (follow next.0 next.1))
      (λ (x : s next.0 ≤ k). (next.0, next.1, x, omega (arith, next.3)))
      (cases_lt k (s next.0))

  -- where ranges are apart and take all of a stretch together, each but the first begins where one ends, and one ends with the stretch
  pub ended_at : (n start m : ℕ) → ((i : ℕ) → i < n → (start ≤ s i) × (s i < e i) × (e i ≤ m)) → Apart n → start + spans n ≡ m
      → (v : ℕ) → start < v → (v ≡ m) ⊎ ((i : ℕ) × (i < n) × (s i ≡ v)) → (j : ℕ) × (j < n) × (e j ≡ v)
  ended_at n start m ok apart all v from at =
      let within_page : v ≤ m = ⊎_elim (λ (x : v ≡ m). omega (arith, x)) (λ (p : (i : ℕ) × (i < n) × (s i ≡ v)). omega (arith, p.2, (ok p.0 p.1).1, (ok p.0 p.1).2)) at in
      let last = covered n start m (λ i lt. ((ok i lt).0, omega (arith, (ok i lt).1), (ok i lt).2)) apart all (v - 1) (omega (arith, from)) (omega (arith, from, within_page)) in (
        last.0,
        last.1,
        ⊎_elim
            (λ (x : v ≡ m). omega (arith, x, last.3, (ok last.0 last.1).2, from))
            (λ (p : (i : ℕ) × (i < n) × (s i ≡ v)). ⊎_elim
            (λ z. omega (arith, z, p.2, last.3, from))
            (λ z. absurd (omega (arith, z, p.2, last.2, (ok p.0 p.1).1, from)))
            (apart last.0 p.0 last.1 p.1 (λ same. absurd (omega (arith, subst (λ a. s a ≡ v) (sym same) p.2, last.2, from)))))
            at,
      )
