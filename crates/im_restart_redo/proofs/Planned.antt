-- Which changes of a segment a round takes: pages in rising number, each with all of its changes.
use Rattle.std.proofs.Common.{◌≡◌, inl, inr, ℕ, suc, zero, ◌+◌, ◌-◌, ◌<◌, ◌≤◌, List, [], ◌∷◌, ◌++◌, length, take, drop, get_or, Bool, true, refl, sym, ◌∙◌, ap, subst, arith}
use Rattle.std.specs.Prelude.{if◌then◌else◌, slice_index_or}
use Rattle.std.proofs.lemmas.Bool.{cases_eq, cases_lt}
use Rattle.std.proofs.lemmas.List.{drop_all, drop_more, get_or_append_left, get_or_default, get_or_push, length-map, length-take-le, length_push, map_more, map_push, take_more}
use Rattle.im_page_rounds.specs.Hand.{AreRising, IsAmong}
use Rattle.im_restart_analysis.specs.declared.changes.Change.{Change}
use Rattle.im_restart_redo.specs.Segments.{AreAfter, AreApart, AreOnPages, AreOrdered, IsLast, IsPlanned, lsns_at, lsns_in, pairs_of}
use Rattle.im_restart_redo.proofs.Ordered.{at_other, ordered_drop}

-- what a push leaves that succeeds
pub pushed_is : (done : Bool) (new old : List ℕ) (n : ℕ) → new ≡ (if done then old ++ n ∷ [] else old) → done ≡ true → new ≡ old ++ n ∷ []
pushed_is done new old n is ok = is ∙ ap (λ (t : Bool). if t then old ++ n ∷ [] else old) ok

-- ---- a greater number joins the numbers

module _ (ns : List ℕ) (n : ℕ) where
  pushed_old : (i : ℕ) → i < length ns → slice_index_or (ns ++ n ∷ []) i 0 ≡ slice_index_or ns i 0
  pushed_old i lt = get_or_append_left ns (n ∷ []) 0 i lt

  pushed_last : slice_index_or (ns ++ n ∷ []) (length ns) 0 ≡ n
  pushed_last = get_or_push ns n 0 (length ns) refl

  pub push_last : IsLast (ns ++ n ∷ []) n
  push_last =
      let long = length_push ns n in
      record { some = omega (arith, long); is = ap (λ (k : ℕ). slice_index_or (ns ++ n ∷ []) k 0) (let e : length (ns ++ n ∷ []) - 1 ≡ length ns = omega (arith, long) in e) ∙ pushed_last }

  pub push_among : (p : ℕ) → IsAmong ns p → IsAmong (ns ++ n ∷ []) p
  push_among p among =
      let long = length_push ns n in
      let within = among.within in
      record { place = among.place; within = omega (arith, long, within); is = pushed_old among.place among.within ∙ among.is }

  -- each is at most the last one
  at_most : AreRising ns → (l : ℕ) → IsLast ns l → (i : ℕ) → i < length ns → slice_index_or ns i 0 ≤ l
  at_most rising l last i lt = elim (cases_lt i (length ns - 1)) [
    | inl low ↦ (let less = rising i (length ns - 1) low (let some : 0 < length ns = last.some in omega (arith, some)) in let is : slice_index_or ns (length ns - 1) 0 ≡ l = last.is in omega (arith, less, is))
    | inr high ↦ (let e : i ≡ length ns - 1 = omega (arith, lt, high) in let same : slice_index_or ns i 0 ≡ l = ap (λ (k : ℕ). slice_index_or ns k 0) e ∙ last.is in omega (arith, same))
  ]

  pub push_rising : AreRising ns → ((l : ℕ) → IsLast ns l → l < n) → AreRising (ns ++ n ∷ [])
  push_rising rising above i j lt within = elim (cases_lt j (length ns)) [
    | inl low ↦ (let less : slice_index_or ns i 0 < slice_index_or ns j 0 = rising i j lt low in let one = pushed_old i (omega (arith, lt, low)) in let two = pushed_old j low in omega (arith, less, one, two))
    | inr high ↦
        let long = length_push ns n in
        let here : j ≡ length ns = omega (arith, within, high, long) in
        let old : i < length ns = omega (arith, lt, here) in
        let l : ℕ = slice_index_or ns (length ns - 1) 0 in
        let last : IsLast ns l = record { some = omega (arith, old); is = refl } in
        let le = at_most rising l last i old in
        let less = above l last in
        let one = pushed_old i old in
        let two : slice_index_or (ns ++ n ∷ []) j 0 ≡ n = ap (λ (k : ℕ). slice_index_or (ns ++ n ∷ []) k 0) here ∙ pushed_last in
        omega (arith, le, less, one, two)
  ]

-- each of these numbers is at most the last
pub among_low : (ns : List ℕ) (p l : ℕ) → AreRising ns → IsLast ns l → IsAmong ns p → p ≤ l
among_low ns p l rising last among = let low = at_most ns 0 rising l last among.place among.within in let is : slice_index_or ns among.place 0 ≡ p = among.is in omega (arith, low, is)

-- the last one is among them
pub last_among : (ns : List ℕ) (p : ℕ) → IsLast ns p → IsAmong ns p
last_among ns p last = record { place = length ns - 1; within = (let some : 0 < length ns = last.some in omega (arith, some)); is = last.is }

pub no_last : (ns : List ℕ) (p : ℕ) → ns ≡ [] → IsLast ns p → ⊥
no_last ns p none last = let some : 0 < length ns = last.some in let zero_long : length ns ≡ 0 = ap (λ (l : List ℕ). length l) none in omega (arith, some, zero_long)

pub same_last : (ns : List ℕ) (p q : ℕ) → IsLast ns p → IsLast ns q → p ≡ q
same_last ns p q one two = sym one.is ∙ two.is

-- ---- the changes of these pages

pub on_wider : (old new : List ℕ) (xs : List (ℕ × ℕ)) → ((p : ℕ) → IsAmong old p → IsAmong new p) → AreOnPages old xs → AreOnPages new xs
on_wider old new [] wider all = tt
on_wider old new (x ∷ xs) wider all = (wider x.0 all.0, on_wider old new xs wider all.1)

pub on_more : (ns : List ℕ) (xs : List (ℕ × ℕ)) (x : ℕ × ℕ) → AreOnPages ns xs → IsAmong ns x.0 → AreOnPages ns (xs ++ x ∷ [])
on_more ns [] x all one = (one, tt)
on_more ns (y ∷ xs) x all one = (all.0, on_more ns xs x all.1 one)

-- a greater page has none of them
none_over : (ns : List ℕ) (p l : ℕ) (xs : List (ℕ × ℕ)) → AreRising ns → IsLast ns l → l < p → AreOnPages ns xs → lsns_at p xs ≡ []
none_over ns p l [] rising last over all = refl
none_over ns p l (x ∷ xs) rising last over all =
    at_other p x xs (λ e. let low = among_low ns x.0 l rising last all.0 in omega (arith, low, e, over))
    ∙ none_over ns p l xs rising last over all.1

-- a lower one has none after a change
after_none : (p : ℕ) (x : ℕ × ℕ) (xs : List (ℕ × ℕ)) → p < x.0 → AreAfter x xs → lsns_at p xs ≡ []
after_none p x [] under after = refl
after_none p x (y ∷ ys) under after =
    let le : x.0 ≤ y.0 = elim after.0 [ inl lt ↦ omega (arith, lt) | inr same ↦ (let e : x.0 ≡ y.0 = same.0 in omega (arith, e)) ] in
    at_other p y ys (λ e. omega (arith, le, e, under))
    ∙ after_none p x ys under after.1

-- the page of the next change is no lower
pub next_page : (xs : List (ℕ × ℕ)) (k : ℕ) (d : ℕ × ℕ) → AreOrdered xs → k + 1 < length xs → (get_or xs k d).0 ≤ (get_or xs (k + 1) d).0
next_page [] k d up lt = absurd (omega (arith, lt))
next_page (x ∷ []) k d up lt = absurd (omega (arith, lt))
next_page (x ∷ y ∷ ys) zero d up lt = elim up.0.0 [ inl less ↦ omega (arith, less) | inr same ↦ (let e : x.0 ≡ y.0 = same.0 in omega (arith, e)) ]
next_page (x ∷ y ∷ ys) (suc k) d up lt =
    subst (λ (n : ℕ). (get_or (y ∷ ys) k d).0 ≤ (get_or (x ∷ y ∷ ys) n d).0) (let e : suc (k + 1) ≡ suc k + 1 = omega arith in e) (next_page (y ∷ ys) k d up.1 (omega (arith, lt)))

-- where the next change is of another page, no page of those before it has changes after it
pub parts_apart : (ns : List ℕ) (xs : List (ℕ × ℕ)) (k l : ℕ) (d : ℕ × ℕ) → AreOrdered xs → k < length xs → AreRising ns → AreOnPages ns (take k xs) → IsLast ns l → l < (get_or xs k d).0 → AreApart (take k xs) (drop k xs)
parts_apart ns xs k l d up lt rising all last less p = elim (cases_lt l p) [
  | inl over ↦ inl (none_over ns p l (take k xs) rising last over all)
  | inr low ↦
      let x : ℕ × ℕ = get_or xs k d in
      let rest : List (ℕ × ℕ) = drop (k + 1) xs in
      let is : drop k xs ≡ x ∷ rest = drop_more xs k d lt in
      let order : AreOrdered (x ∷ rest) = subst (λ (ys : List (ℕ × ℕ)). AreOrdered ys) is (ordered_drop k xs up) in
      let under : p < x.0 = omega (arith, low, less) in
      inr (ap (λ (ys : List (ℕ × ℕ)). lsns_at p ys) is ∙ at_other p x rest (λ e. omega (arith, under, e)) ∙ after_none p x rest under order.0)
]

-- some page has the first change
pub some_page : (ns : List ℕ) (k : ℕ) (xs : List (ℕ × ℕ)) → 0 < k → 0 < length xs → AreOnPages ns (take k xs) → 0 < length ns
some_page ns zero xs some more all = absurd (omega (arith, some))
some_page ns (suc k) [] some more all = absurd (omega (arith, more))
some_page ns (suc k) (x ∷ xs) some more all = let within = all.0.within in omega (arith, within)

pub lsns_next : (xs : List (ℕ × ℕ)) (n : ℕ) (d : ℕ × ℕ) → n < length xs → lsns_in (take (n + 1) xs) ≡ lsns_in (take n xs) ++ (get_or xs n d).1 ∷ []
lsns_next xs n d lt = map_more (λ (x : ℕ × ℕ). x.1) xs n d lt

-- ---- a round is planned, change after change

pub planned_none : (most : ℕ) (xs : List (ℕ × ℕ)) (ns ls : List ℕ) → ns ≡ [] → ls ≡ [] → IsPlanned most xs 0 ns ls
planned_none most xs ns ls none empty = record {
  lsns_are = empty;
  long = ap (λ (l : List ℕ). length l) empty;
  rising = λ i j lt within. absurd (let short : length ns ≡ 0 = ap (λ (l : List ℕ). length l) none in omega (arith, within, short));
  few = (let short : length ns ≡ 0 = ap (λ (l : List ℕ). length l) none in omega (arith, short));
  none = λ e. none;
  last = λ k d e. absurd (omega (arith, e));
  on = tt;
}

pub planned_as : {most n : ℕ} {xs : List (ℕ × ℕ)} (ns ls old before : List ℕ) → ns ≡ old → ls ≡ before → IsPlanned most xs n old before → IsPlanned most xs n ns ls
planned_as {most} {n} {xs} ns ls old before pages lsns so = subst (λ (l : List ℕ). IsPlanned most xs n l ls) (sym pages) (subst (λ (l : List ℕ). IsPlanned most xs n old l) (sym lsns) so)

module _ (most : ℕ) (xs : List (ℕ × ℕ)) (up : AreOrdered xs) (d : ℕ × ℕ) where
  -- the next change is of no lower page than the last one
  pub planned_above : (n : ℕ) (ns ls : List ℕ) → IsPlanned most xs n ns ls → n < length xs → (p : ℕ) → IsLast ns p → p ≤ (get_or xs n d).0
  planned_above zero ns ls so lt p last = absurd (no_last ns p (so.none refl) last)
  planned_above (suc k) ns ls so lt p last =
      let e : k + 1 ≡ suc k = omega arith in
      let same : p ≡ (get_or xs k d).0 = same_last ns p (get_or xs k d).0 last (so.last k d e) in
      let le : (get_or xs k d).0 ≤ (get_or xs (suc k) d).0 = subst (λ (n : ℕ). (get_or xs k d).0 ≤ (get_or xs n d).0) e (next_page xs k d up (omega (arith, lt))) in
      omega (arith, same, le)

  -- where it is of another page, the part ends
  pub planned_apart : (n : ℕ) (ns ls : List ℕ) → IsPlanned most xs n ns ls → n < length xs → (IsLast ns (get_or xs n d).0 → ⊥) → AreApart (take (length ls) xs) (drop (length ls) xs)
  planned_apart n ns ls so lt other = subst (λ (k : ℕ). AreApart (take k xs) (drop k xs)) (sym so.long) (by n so lt other)
    where
      by : (n : ℕ) → IsPlanned most xs n ns ls → n < length xs → (IsLast ns (get_or xs n d).0 → ⊥) → AreApart (take n xs) (drop n xs)
      by zero so lt other = λ p. inl refl
      by (suc k) so lt other =
          let l : ℕ = (get_or xs k d).0 in
          let last : IsLast ns l = so.last k d (omega arith) in
          let le = planned_above (suc k) ns ls so lt l last in
          let apart : l ≡ (get_or xs (suc k) d).0 → ⊥ = λ e. other (subst (λ (p : ℕ). IsLast ns p) e last) in
          parts_apart ns xs (suc k) l d up lt so.rising so.on last (omega (arith, le, apart))

  -- one change more
  pub planned_next : (n : ℕ) (ns ls new lsns : List ℕ) → IsPlanned most xs n ns ls → n < length xs → lsns ≡ ls ++ (get_or xs n d).1 ∷ [] → AreRising new → length new ≤ most → IsLast new (get_or xs n d).0 → ((p : ℕ) → IsAmong ns p → IsAmong new p)
      → IsPlanned most xs (n + 1) new lsns
  planned_next n ns ls new lsns so lt is rising few last wider = record {
    lsns_are = is ∙ ap (λ (l : List ℕ). l ++ (get_or xs n d).1 ∷ []) so.lsns_are ∙ sym (lsns_next xs n d lt);
    long = (let one = ap (λ (l : List ℕ). length l) is in let more = length_push ls (get_or xs n d).1 in let was = so.long in omega (arith, one, more, was));
    rising = rising;
    few = few;
    none = λ e. absurd (omega (arith, e));
    last = λ k e k_is.
        let same : k ≡ n = omega (arith, k_is) in
        subst (λ (x : ℕ × ℕ). IsLast new x.0) (get_or_default xs n d e lt ∙ ap (λ (i : ℕ). get_or xs i e) (sym same)) last;
    on = subst (λ (ys : List (ℕ × ℕ)). AreOnPages new ys) (sym (take_more xs n d lt)) (on_more new (take n xs) (get_or xs n d) (on_wider ns new (take n xs) wider so.on) (last_among new (get_or xs n d).0 last));
  }

-- all changes are taken
pub planned_all : {most n : ℕ} {xs : List (ℕ × ℕ)} (ns ls : List ℕ) → IsPlanned most xs n ns ls → length xs ≤ n → AreApart (take (length ls) xs) (drop (length ls) xs)
planned_all {most} {n} {xs} ns ls so past p = inr (ap (λ (ys : List (ℕ × ℕ)). lsns_at p ys) (drop_all (length ls) xs (let long = so.long in omega (arith, long, past))))

pub planned_lsns : {most n : ℕ} {xs : List (ℕ × ℕ)} (ns ls : List ℕ) → IsPlanned most xs n ns ls → ls ≡ lsns_in (take (length ls) xs)
planned_lsns {most} {n} {xs} ns ls so = so.lsns_are ∙ ap (λ (k : ℕ). lsns_in (take k xs)) (sym so.long)

pub planned_on : {most n : ℕ} {xs : List (ℕ × ℕ)} (ns ls : List ℕ) → IsPlanned most xs n ns ls → AreOnPages ns (take (length ls) xs)
planned_on {most} {n} {xs} ns ls so = subst (λ (k : ℕ). AreOnPages ns (take k xs)) (sym so.long) so.on

-- one at least, where a page more would have been taken
pub planned_some : {most n : ℕ} {xs : List (ℕ × ℕ)} (ns ls : List ℕ) → IsPlanned most xs n ns ls → 0 < most → (length ns < most → ⊥) → 0 < length ls
planned_some {most} {n} {xs} ns ls so room full = elim (cases_eq n 0) [
  | inl e ↦ absurd (full (let short : length ns ≡ 0 = ap (λ (l : List ℕ). length l) (so.none e) in omega (arith, short, room)))
  | inr some ↦ (let long = so.long in omega (arith, long, some))
]

-- ---- changes that are noted

-- so many of these changes are as many pairs
pub noted_all : (xs : List Change) (ys : List (ℕ × ℕ)) (n : ℕ) → n ≤ length xs → ys ≡ pairs_of (take n xs) → ys ≡ pairs_of (take (length ys) xs)
noted_all xs ys n le is =
    let long : length ys ≡ n = ap (λ (l : List (ℕ × ℕ)). length l) is ∙ length-map (take n xs) (λ (x : Change). (x.page, x.lsn)) ∙ length-take-le n xs le in
    is ∙ ap (λ (k : ℕ). pairs_of (take k xs)) (sym long)

pub noted_next : (xs : List Change) (n : ℕ) (d : Change) → n < length xs → pairs_of (take (n + 1) xs) ≡ pairs_of (take n xs) ++ ((get_or xs n d).page, (get_or xs n d).lsn) ∷ []
noted_next xs n d lt = map_more (λ (x : Change). (x.page, x.lsn)) xs n d lt

pub lsns_push : (xs : List (ℕ × ℕ)) (x : ℕ × ℕ) → lsns_in (xs ++ x ∷ []) ≡ lsns_in xs ++ x.1 ∷ []
lsns_push xs x = map_push (λ (y : ℕ × ℕ). y.1) xs x
