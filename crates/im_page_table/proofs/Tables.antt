-- The list of the dirty table stands for a function of the page.
use Rattle.std.proofs.Common.{◌≡◌, ◌≢◌, inl, inr, ℕ, zero, suc, ◌+◌, ◌<◌, ◌≤◌, List, [], ◌∷◌, ◌++◌, length, map, take, get_or, Bool, true, false, refl, sym, ◌∙◌, ap, subst, arith, Option, None, Some, option_map}
use Rattle.std.specs.Prelude.{if◌then◌else◌, ◌==◌, nat_eq, nat_lt, ◌||◌, Contains}
use Rattle.std.specs.Option.{is_some}
use Rattle.std.proofs.Math.ListN.{set}
use Rattle.std.proofs.lemmas.Bool.{cases_eq, cond-true, cond-false, eq-eqb, ne_eqb, lt-ltb, le-ltb}
use Rattle.im_theory_log.specs.Writer.{DirtyEntry}
use Rattle.im_page_table.specs.declared.table_entry.TableEntry.{TableEntry}
use Rattle.im_page_table.specs.DirtyTable.{TableView, table_entry, dirty_entry, entry_among, entry_in, has_room, place_among, written_in, ChangesEntry, AreApart, Finds, IsFound, put, put_among, synced_onto, synced_among, synced_entries, uncopied, with_written}
use Rattle.im_theory_log.specs.WriterSteps.{forgotten_entry, synced_entry, entry_since, written_entry}

-- ---- one entry in front

pub first_is : (x : TableEntry) (xs : List TableEntry) (p : ℕ) → x.page ≡ p → entry_among (x ∷ xs) p ≡ Some (dirty_entry x)
first_is x xs p here = cond-true (x.page == p) (Some (dirty_entry x)) (entry_among xs p) (eq-eqb x.page p here)

pub first_not : (x : TableEntry) (xs : List TableEntry) (p : ℕ) → x.page ≢ p → entry_among (x ∷ xs) p ≡ entry_among xs p
first_not x xs p other = cond-false (x.page == p) (Some (dirty_entry x)) (entry_among xs p) (ne_eqb x.page p other)

-- a page that has no entry is not that of the first, and has none among the others
pub not_first : (x : TableEntry) (xs : List TableEntry) (p : ℕ) → entry_among (x ∷ xs) p ≡ None → x.page ≢ p
not_first x xs p none here = let clash : Some (dirty_entry x) ≡ None = sym (first_is x xs p here) ∙ none in cc clash

pub not_later : (x : TableEntry) (xs : List TableEntry) (p : ℕ) → entry_among (x ∷ xs) p ≡ None → entry_among xs p ≡ None
not_later x xs p none = sym (first_not x xs p (not_first x xs p none)) ∙ none

-- ---- a page that is put

put_first : (f : Option DirtyEntry → DirtyEntry) (p : ℕ) (x : TableEntry) (xs : List TableEntry) → x.page ≡ p → put_among p f (x ∷ xs) ≡ table_entry p (f (Some (dirty_entry x))) ∷ xs
put_first f p x xs here = cond-true (x.page == p) (table_entry p (f (Some (dirty_entry x))) ∷ xs) (x ∷ put_among p f xs) (eq-eqb x.page p here)

put_later : (f : Option DirtyEntry → DirtyEntry) (p : ℕ) (x : TableEntry) (xs : List TableEntry) → x.page ≢ p → put_among p f (x ∷ xs) ≡ x ∷ put_among p f xs
put_later f p x xs other = cond-false (x.page == p) (table_entry p (f (Some (dirty_entry x))) ∷ xs) (x ∷ put_among p f xs) (ne_eqb x.page p other)

-- it has its new entry
pub held_put : (f : Option DirtyEntry → DirtyEntry) (p : ℕ) (xs : List TableEntry) → entry_among (put_among p f xs) p ≡ Some (f (entry_among xs p))
held_put f p [] = cond-true (p == p) (Some (f None)) None (eq-eqb p p refl)
held_put f p (x ∷ xs) = elim (cases_eq x.page p) [
  | inl here ↦
      ap (λ (l : List TableEntry). entry_among l p) (put_first f p x xs here)
      ∙ cond-true (p == p) (Some (f (Some (dirty_entry x)))) (entry_among xs p) (eq-eqb p p refl)
      ∙ ap (λ (o : Option DirtyEntry). Some (f o)) (sym (first_is x xs p here))
  | inr other ↦
      ap (λ (l : List TableEntry). entry_among l p) (put_later f p x xs other)
      ∙ first_not x (put_among p f xs) p other ∙ held_put f p xs
      ∙ ap (λ (o : Option DirtyEntry). Some (f o)) (sym (first_not x xs p other))
]

-- the others keep theirs
pub held_put_other : (f : Option DirtyEntry → DirtyEntry) (p q : ℕ) (xs : List TableEntry) → p ≢ q → entry_among (put_among p f xs) q ≡ entry_among xs q
held_put_other f p q [] other = cond-false (p == q) (Some (f None)) None (ne_eqb p q other)
held_put_other f p q (x ∷ xs) other = elim (cases_eq x.page p) [
  | inl here ↦
      ap (λ (l : List TableEntry). entry_among l q) (put_first f p x xs here)
      ∙ cond-false (p == q) (Some (f (Some (dirty_entry x)))) (entry_among xs q) (ne_eqb p q other)
      ∙ sym (first_not x xs q (λ same. other (sym here ∙ same)))
  | inr later ↦
      ap (λ (l : List TableEntry). entry_among l q) (put_later f p x xs later)
      ∙ ap (λ (o : Option DirtyEntry). if x.page == q then Some (dirty_entry x) else o) (held_put_other f p q xs other)
]

-- each page still comes once
pub put_apart : (f : Option DirtyEntry → DirtyEntry) (p : ℕ) (xs : List TableEntry) → AreApart xs → AreApart (put_among p f xs)
put_apart f p [] up = (refl, tt)
put_apart f p (x ∷ xs) up = elim (cases_eq x.page p) [
  | inl here ↦ subst (λ (l : List TableEntry). AreApart l) (sym (put_first f p x xs here)) (subst (λ (n : ℕ). entry_among xs n ≡ None) here up.0, up.1)
  | inr other ↦ subst (λ (l : List TableEntry). AreApart l) (sym (put_later f p x xs other)) (held_put_other f p x.page xs (λ same. other (sym same)) ∙ up.0, put_apart f p xs up.1)
]

-- a page that is put has an entry
pub put_some : (f : Option DirtyEntry → DirtyEntry) (p : ℕ) (xs : List TableEntry) → is_some (entry_among (put_among p f xs) p) ≡ true
put_some f p xs = ap (λ (o : Option DirtyEntry). is_some o) (held_put f p xs)

-- what a put leaves, page by page
pub changes_entry : (f : Option DirtyEntry → DirtyEntry) (p : ℕ) (old new : TableView) → new ≡ put p f old → ChangesEntry p f old new
changes_entry f p old new is = record {
  entry = ap (λ (t : TableView). entry_in t p) is ∙ held_put f p old.entries;
  others = λ q ne. ap (λ (t : TableView). entry_in t q) is ∙ held_put_other f p q old.entries (λ same. ne (sym same));
}

-- ---- where an entry is

pub place_none : (xs : List TableEntry) (p : ℕ) → place_among p xs ≡ None → entry_among xs p ≡ None
place_none [] p is = refl
place_none (x ∷ xs) p is = elim (cases_eq x.page p) [
  | inl here ↦ absurd (let clash : Some 0 ≡ None = sym (cond-true (x.page == p) (Some 0) (option_map suc (place_among p xs)) (eq-eqb x.page p here)) ∙ is in cc clash)
  | inr other ↦ first_not x xs p other ∙ place_none xs p (by (place_among p xs) (sym (cond-false (x.page == p) (Some 0) (option_map suc (place_among p xs)) (ne_eqb x.page p other)) ∙ is))
]
  where
    by : (o : Option ℕ) → option_map suc o ≡ None → o ≡ None
    by None none = refl
    by (Some i) some = absurd (cc some)

pub none_place : (xs : List TableEntry) (p : ℕ) → entry_among xs p ≡ None → place_among p xs ≡ None
none_place [] p none = refl
none_place (x ∷ xs) p none =
    cond-false (x.page == p) (Some 0) (option_map suc (place_among p xs)) (ne_eqb x.page p (not_first x xs p none))
    ∙ ap (λ (o : Option ℕ). option_map suc o) (none_place xs p (not_later x xs p none))

pub place_found : (xs : List TableEntry) (p i : ℕ) → place_among p xs ≡ Some i → IsFound xs p i
place_found [] p i is = absurd (cc is)
place_found (x ∷ xs) p i is = elim (cases_eq x.page p) [
  | inl here ↦
      let zeroth : Some 0 ≡ Some i = sym (cond-true (x.page == p) (Some 0) (option_map suc (place_among p xs)) (eq-eqb x.page p here)) ∙ is in
      let at : 0 ≡ i = cc zeroth in
      subst (λ (n : ℕ). IsFound (x ∷ xs) p n) at (record { within = omega arith; before = λ k d less. absurd (omega (arith, less)); here = λ d. here })
  | inr other ↦ by other (λ j. place_found xs p j) (place_among p xs) refl (sym (cond-false (x.page == p) (Some 0) (option_map suc (place_among p xs)) (ne_eqb x.page p other)) ∙ is)
]
  where
    before : x.page ≢ p → (j : ℕ) → IsFound xs p j → (k : ℕ) (d : TableEntry) → k < suc j → (get_or (x ∷ xs) k d).page ≢ p
    before other j found zero d less = other
    before other j found (suc k) d less = found.before k d (omega (arith, less))

    by : x.page ≢ p → ((j : ℕ) → place_among p xs ≡ Some j → IsFound xs p j) → (o : Option ℕ) → place_among p xs ≡ o → option_map suc o ≡ Some i → IsFound (x ∷ xs) p i
    by other later None none some = absurd (cc some)
    by other later (Some j) there some =
        let at : suc j ≡ i = cc some in
        let found = later j there in
        let within : j < length xs = found.within in
        subst (λ (n : ℕ). IsFound (x ∷ xs) p n) at (record { within = omega (arith, within); before = before other j found; here = λ d. found.here d })

-- one place further on in a shorter list
behind : (x : TableEntry) (xs : List TableEntry) (p i : ℕ) → IsFound (x ∷ xs) p (suc i) → IsFound xs p i
behind x xs p i is =
    let within : suc i < length (x ∷ xs) = is.within in
    record { within = omega (arith, within); before = λ k d less. is.before (suc k) d (omega (arith, less)); here = λ d. is.here d }

-- the entry that is found
pub found_entry : (xs : List TableEntry) (i p : ℕ) (d : TableEntry) → IsFound xs p i → entry_among xs p ≡ Some (dirty_entry (get_or xs i d))
found_entry [] i p d is = absurd (let within : i < length {A = TableEntry} [] = is.within in omega (arith, within))
found_entry (x ∷ xs) zero p d is = first_is x xs p (is.here d)
found_entry (x ∷ xs) (suc i) p d is = first_not x xs p (is.before zero x (omega arith)) ∙ found_entry xs i p d (behind x xs p i is)

-- its number is among those of the entries
pub has_number : (xs : List TableEntry) (p : ℕ) → is_some (entry_among xs p) ≡ true → Contains (map (λ (x : TableEntry). x.page) xs) p
has_number [] p some = absurd (cc some)
has_number (x ∷ xs) p some = elim (cases_eq x.page p) [
  | inl here ↦ (0, omega arith, here)
  | inr other ↦
      let rest = has_number xs p (ap (λ (o : Option DirtyEntry). is_some o) (sym (first_not x xs p other)) ∙ some) in
      (suc rest.0, omega (arith, rest.1), rest.2)
]

-- ---- what the code does at the place that it found

put_here : (f : Option DirtyEntry → DirtyEntry) (xs : List TableEntry) (i p : ℕ) (e : TableEntry) → IsFound xs p i → e ≡ get_or xs i e → put_among p f xs ≡ set xs i (table_entry p (f (Some (dirty_entry e))))
put_here f [] i p e found is = absurd (let within : i < length {A = TableEntry} [] = found.within in omega (arith, within))
put_here f (x ∷ xs) zero p e found is = put_first f p x xs (found.here x) ∙ ap (λ (y : TableEntry). table_entry p (f (Some (dirty_entry y))) ∷ xs) (sym is)
put_here f (x ∷ xs) (suc i) p e found is = put_later f p x xs (found.before zero x (omega arith)) ∙ ap (λ (l : List TableEntry). x ∷ l) (put_here f xs i p e (behind x xs p i found) is)

-- an entry that is there, as the code reads it and then writes it
pub put_set : (f : Option DirtyEntry → DirtyEntry) (xs : List TableEntry) (i p : ℕ) (e new : TableEntry) → IsFound xs p i → e ≡ get_or xs i e → new ≡ table_entry e.page (f (Some (dirty_entry e))) → set xs i new ≡ put_among p f xs
put_set f xs i p e new found at made =
    let page : e.page ≡ p = ap (λ (y : TableEntry). y.page) at ∙ found.here e in
    ap (λ (y : TableEntry). set xs i y) made
    ∙ ap (λ (q : ℕ). set xs i (table_entry q (f (Some (dirty_entry e))))) page
    ∙ sym (put_here f xs i p e found at)

-- what it writes is of the page that was found
pub found_made : (xs : List TableEntry) (i p : ℕ) (e new : TableEntry) → IsFound xs p i → e ≡ get_or xs i e → new.page ≡ e.page → IsFound xs new.page i
found_made xs i p e new found at made = subst (λ (n : ℕ). IsFound xs n i) (sym (made ∙ ap (λ (y : TableEntry). y.page) at ∙ found.here e)) found

-- an entry that comes in
pub put_absent : (f : Option DirtyEntry → DirtyEntry) (xs : List TableEntry) (p : ℕ) → entry_among xs p ≡ None → put_among p f xs ≡ xs ++ table_entry p (f None) ∷ []
put_absent f [] p none = refl
put_absent f (x ∷ xs) p none = put_later f p x xs (not_first x xs p none) ∙ ap (λ (l : List TableEntry). x ∷ l) (put_absent f xs p (not_later x xs p none))

-- ---- the places after that

pub place_set : (xs : List TableEntry) (i p : ℕ) (new : TableEntry) → IsFound xs p i → new.page ≡ p → (q : ℕ) → place_among q (set xs i new) ≡ place_among q xs
place_set [] i p new found page q = refl
place_set (x ∷ xs) zero p new found page q = ap (λ (n : ℕ). if n == q then Some 0 else option_map suc (place_among q xs)) (page ∙ sym (found.here x))
place_set (x ∷ xs) (suc i) p new found page q = ap (λ (o : Option ℕ). if x.page == q then Some 0 else option_map suc o) (place_set xs i p new (behind x xs p i found) page q)

entry_set : (xs : List TableEntry) (i p : ℕ) (new : TableEntry) → IsFound xs p i → new.page ≡ p → (q : ℕ) → entry_among xs q ≡ None → entry_among (set xs i new) q ≡ None
entry_set xs i p new found page q none = place_none (set xs i new) q (place_set xs i p new found page q ∙ none_place xs q none)

pub apart_set : (xs : List TableEntry) (i p : ℕ) (new : TableEntry) → AreApart xs → IsFound xs p i → new.page ≡ p → AreApart (set xs i new)
apart_set [] i p new up found page = tt
apart_set (x ∷ xs) zero p new up found page = (subst (λ (n : ℕ). entry_among xs n ≡ None) (found.here x ∙ sym page) up.0, up.1)
apart_set (x ∷ xs) (suc i) p new up found page = (entry_set xs i p new (behind x xs p i found) page x.page up.0, apart_set xs i p new up.1 (behind x xs p i found) page)

one_further : (t : Bool) (n : ℕ) (o : Option ℕ) → option_map suc (if t then Some n else o) ≡ (if t then Some (suc n) else option_map suc o)
one_further true n o = refl
one_further false n o = refl

place_push : (xs : List TableEntry) (y : TableEntry) (q : ℕ) → entry_among xs y.page ≡ None → place_among q (xs ++ y ∷ []) ≡ (if nat_eq y.page q then Some (length xs) else place_among q xs)
place_push [] y q none = refl
place_push (x ∷ xs) y q none = elim (cases_eq x.page q) [
  | inl here ↦
      cond-true (x.page == q) (Some 0) (option_map suc (place_among q (xs ++ y ∷ []))) (eq-eqb x.page q here)
      ∙ sym (cond-true (x.page == q) (Some 0) (option_map suc (place_among q xs)) (eq-eqb x.page q here))
      ∙ sym (cond-false (nat_eq y.page q) (Some (length (x ∷ xs))) (place_among q (x ∷ xs)) (ne_eqb y.page q (λ same. not_first x xs y.page none (here ∙ sym same))))
  | inr other ↦
      cond-false (x.page == q) (Some 0) (option_map suc (place_among q (xs ++ y ∷ []))) (ne_eqb x.page q other)
      ∙ ap (λ (o : Option ℕ). option_map suc o) (place_push xs y q (not_later x xs y.page none))
      ∙ one_further (nat_eq y.page q) (length xs) (place_among q xs)
      ∙ ap (λ (o : Option ℕ). if nat_eq y.page q then Some (suc (length xs)) else o) (sym (cond-false (x.page == q) (Some 0) (option_map suc (place_among q xs)) (ne_eqb x.page q other)))
]

pub finds_push : (at now : ℕ → Option ℕ) (xs : List TableEntry) (y : TableEntry) → Finds at xs → entry_among xs y.page ≡ None → ((q : ℕ) → now q ≡ (if nat_eq y.page q then Some (length xs) else at q)) → Finds now (xs ++ y ∷ [])
finds_push at now xs y finds none is q = is q ∙ ap (λ (o : Option ℕ). if nat_eq y.page q then Some (length xs) else o) (finds q) ∙ sym (place_push xs y q none)

entry_push : (xs : List TableEntry) (y : TableEntry) (q : ℕ) → entry_among xs q ≡ None → y.page ≢ q → entry_among (xs ++ y ∷ []) q ≡ None
entry_push [] y q none other = first_not y [] q other
entry_push (x ∷ xs) y q none other = first_not x (xs ++ y ∷ []) q (not_first x xs q none) ∙ entry_push xs y q (not_later x xs q none) other

pub apart_push : (xs : List TableEntry) (y : TableEntry) → AreApart xs → entry_among xs y.page ≡ None → AreApart (xs ++ y ∷ [])
apart_push [] y up none = (refl, tt)
apart_push (x ∷ xs) y up none = (entry_push xs y x.page up.0 (λ same. not_first x xs y.page none (sym same)), apart_push xs y up.1 (not_later x xs y.page none))

-- the front of a list, with the entry after it
pub apart_next : (xs : List TableEntry) (i : ℕ) (d : TableEntry) → AreApart xs → i < length xs → entry_among (take i xs) (get_or xs i d).page ≡ None
apart_next [] i d up within = absurd (omega (arith, within))
apart_next (x ∷ xs) zero d up within = refl
apart_next (x ∷ xs) (suc i) d up within =
    let rest = apart_next xs i d up.1 (omega (arith, within)) in
    first_not x (take i xs) (get_or xs i d).page (λ same. entry_there xs i d (omega (arith, within)) (subst (λ (n : ℕ). entry_among xs n ≡ None) same up.0)) ∙ rest
  where
    entry_there : (xs : List TableEntry) (i : ℕ) (d : TableEntry) → i < length xs → entry_among xs (get_or xs i d).page ≡ None → ⊥
    entry_there [] i d within none = omega (arith, within)
    entry_there (x ∷ xs) zero d within none = not_first x xs x.page none refl
    entry_there (x ∷ xs) (suc i) d within none = entry_there xs i d (omega (arith, within)) (not_later x xs (get_or xs i d).page none)

-- a front of the list
pub apart_take : (n : ℕ) (xs : List TableEntry) → AreApart xs → AreApart (take n xs)
apart_take zero xs up = tt
apart_take (suc n) [] up = tt
apart_take (suc n) (x ∷ xs) up = (none_before n xs x.page up.0, apart_take n xs up.1)
  where
    none_before : (n : ℕ) (xs : List TableEntry) (p : ℕ) → entry_among xs p ≡ None → entry_among (take n xs) p ≡ None
    none_before zero xs p none = refl
    none_before (suc n) [] p none = refl
    none_before (suc n) (x ∷ xs) p none = first_not x (take n xs) p (not_first x xs p none) ∙ none_before n xs p (not_later x xs p none)

-- ---- a sync

synced_at_head : (x : TableEntry) (xs : List TableEntry) (p : ℕ) → entry_among xs x.page ≡ None → (t : Option ℕ) → x.since ≡ t → entry_among (synced_among xs) p ≡ synced_entry (entry_among xs p)
    → entry_among (synced_onto x x.since (synced_among xs)) p ≡ synced_entry (entry_among (x ∷ xs) p)
synced_at_head x xs p alone None none rest = elim (cases_eq x.page p) [
  | inl here ↦
      ap (λ (t : Option ℕ). entry_among (synced_onto x t (synced_among xs)) p) none ∙ rest
      ∙ ap (λ (o : Option DirtyEntry). synced_entry o) (subst (λ (n : ℕ). entry_among xs n ≡ None) here alone)
      ∙ sym (ap (λ (t : Option ℕ). entry_since x.copied t) none)
      ∙ sym (ap (λ (o : Option DirtyEntry). synced_entry o) (first_is x xs p here))
  | inr other ↦
      ap (λ (t : Option ℕ). entry_among (synced_onto x t (synced_among xs)) p) none ∙ rest
      ∙ sym (ap (λ (o : Option DirtyEntry). synced_entry o) (first_not x xs p other))
]
synced_at_head x xs p alone (Some t) some rest = elim (cases_eq x.page p) [
  | inl here ↦
      ap (λ (t : Option ℕ). entry_among (synced_onto x t (synced_among xs)) p) some
      ∙ cond-true (x.page == p) (Some (record { rec_lsn = t; since = Some t; copied = x.copied })) (entry_among (synced_among xs) p) (eq-eqb x.page p here)
      ∙ sym (ap (λ (t : Option ℕ). entry_since x.copied t) some)
      ∙ sym (ap (λ (o : Option DirtyEntry). synced_entry o) (first_is x xs p here))
  | inr other ↦
      ap (λ (t : Option ℕ). entry_among (synced_onto x t (synced_among xs)) p) some
      ∙ cond-false (x.page == p) (Some (record { rec_lsn = t; since = Some t; copied = x.copied })) (entry_among (synced_among xs) p) (ne_eqb x.page p other)
      ∙ rest
      ∙ sym (ap (λ (o : Option DirtyEntry). synced_entry o) (first_not x xs p other))
]

-- page by page
pub held_synced : (xs : List TableEntry) (p : ℕ) → AreApart xs → entry_among (synced_among xs) p ≡ synced_entry (entry_among xs p)
held_synced [] p up = refl
held_synced (x ∷ xs) p up = synced_at_head x xs p up.0 x.since refl (held_synced xs p up.1)

pub synced_apart : (xs : List TableEntry) → AreApart xs → AreApart (synced_among xs)
synced_apart [] up = tt
synced_apart (x ∷ xs) up = by x.since (synced_apart xs up.1)
  where
    by : (t : Option ℕ) → AreApart (synced_among xs) → AreApart (synced_onto x t (synced_among xs))
    by None rest = rest
    by (Some t) rest = (held_synced xs x.page up.1 ∙ ap (λ (o : Option DirtyEntry). synced_entry o) up.0, rest)

pub synced_fewer : (xs : List TableEntry) → length (synced_among xs) ≤ length xs
synced_fewer [] = omega arith
synced_fewer (x ∷ xs) = by x.since (synced_fewer xs)
  where
    by : (t : Option ℕ) → length (synced_among xs) ≤ length xs → length (synced_onto x t (synced_among xs)) ≤ length (x ∷ xs)
    by None rest = omega (arith, rest)
    by (Some t) rest = omega (arith, rest)

-- those that it takes out have not changed since their last write
pub synced_left : (n : ℕ) (xs : List TableEntry) → length (synced_among xs) + with_written n xs ≡ length xs + n
synced_left n [] = omega arith
synced_left n (x ∷ xs) = by x.since (synced_left n xs) (synced_left (n + 1) xs)
  where
    by : (t : Option ℕ) → length (synced_among xs) + with_written n xs ≡ length xs + n → length (synced_among xs) + with_written (n + 1) xs ≡ length xs + (n + 1)
        → length (synced_onto x t (synced_among xs)) + with_written (if is_some t then n else n + 1) xs ≡ length (x ∷ xs) + n
    by None kept gone = omega (arith, gone)
    by (Some t) kept gone = omega (arith, kept)

pub syncs_entries : (old new : TableView) → AreApart old.entries → new ≡ synced_entries old → (p : ℕ) → entry_in new p ≡ synced_entry (entry_in old p)
syncs_entries old new up is p = ap (λ (t : TableView). entry_in t p) is ∙ held_synced old.entries p up

-- ---- copies are forgotten

pub forgets_entries : (xs : List TableEntry) (p : ℕ) → entry_among (map uncopied xs) p ≡ forgotten_entry (entry_among xs p)
forgets_entries [] p = refl
forgets_entries (x ∷ xs) p = elim (cases_eq x.page p) [
  | inl here ↦
      cond-true (x.page == p) (Some (record (dirty_entry x) { copied = false })) (entry_among (map uncopied xs) p) (eq-eqb x.page p here)
      ∙ ap (λ (o : Option DirtyEntry). forgotten_entry o) (sym (first_is x xs p here))
  | inr other ↦
      cond-false (x.page == p) (Some (record (dirty_entry x) { copied = false })) (entry_among (map uncopied xs) p) (ne_eqb x.page p other) ∙ forgets_entries xs p
      ∙ ap (λ (o : Option DirtyEntry). forgotten_entry o) (sym (first_not x xs p other))
]

pub forgotten_apart : (xs : List TableEntry) → AreApart xs → AreApart (map uncopied xs)
forgotten_apart [] up = tt
forgotten_apart (x ∷ xs) up = (forgets_entries xs x.page ∙ ap (λ (o : Option DirtyEntry). forgotten_entry o) up.0, forgotten_apart xs up.1)

pub place_forgotten : (xs : List TableEntry) (q : ℕ) → place_among q (map uncopied xs) ≡ place_among q xs
place_forgotten [] q = refl
place_forgotten (x ∷ xs) q = ap (λ (o : Option ℕ). if x.page == q then Some 0 else option_map suc o) (place_forgotten xs q)

-- ---- room

-- a page that has its entry has room, and keeps an entry when it is written
pub room_there : (p : ℕ) (t : TableView) → is_some (entry_in t p) ≡ true → has_room p t ≡ true
room_there p t some = ap (λ (y : Bool). y || nat_lt (length t.entries) t.most) some

pub written_stays : (p l : ℕ) (old new : TableView) → new ≡ written_in p l old → is_some (entry_in old p) ≡ true → is_some (entry_in new p) ≡ true
written_stays p l old new is some =
    ap (λ (t : TableView). is_some (entry_in t p)) (is ∙ cond-true (has_room p old) (put p (written_entry l) old) old (room_there p old some)) ∙ put_some (written_entry l) p old.entries

-- whether there is room
pub room_found : (t : TableView) (p : ℕ) (e : DirtyEntry) → entry_in t p ≡ Some e → has_room p t ≡ true
room_found t p e is = ap (λ (o : Option DirtyEntry). is_some o || nat_lt (length t.entries) t.most) is

pub room_free : (t : TableView) (p : ℕ) → entry_in t p ≡ None → length t.entries < t.most → has_room p t ≡ true
room_free t p none less = ap (λ (o : Option DirtyEntry). is_some o || nat_lt (length t.entries) t.most) none ∙ lt-ltb (length t.entries) t.most less

pub room_none : (t : TableView) (p : ℕ) → entry_in t p ≡ None → length t.entries ≡ t.most → has_room p t ≡ false
room_none t p none full = ap (λ (o : Option DirtyEntry). is_some o || nat_lt (length t.entries) t.most) none ∙ le-ltb (length t.entries) t.most (omega (arith, full))

-- what a write leaves
pub written_with : (l p : ℕ) (old new : TableView) → has_room p old ≡ true → new ≡ put p (written_entry l) old → new ≡ written_in p l old
written_with l p old new room is = is ∙ sym (cond-true (has_room p old) (put p (written_entry l) old) old room)

pub written_not : (l p : ℕ) (old : TableView) → has_room p old ≡ false → old ≡ written_in p l old
written_not l p old full = sym (cond-false (has_room p old) (put p (written_entry l) old) old full)

-- an entry that is not there knows of no copy
pub or_none : (k : Bool) → (k || false) ≡ k
or_none true = refl
or_none false = refl
