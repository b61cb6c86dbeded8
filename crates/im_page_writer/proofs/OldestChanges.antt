-- The page whose first change since its last write is the oldest has its entry; where there is none, each page that has one is written.
use Rattle.std.proofs.Common.{◌≡◌, inl, inr, ◌⊎◌, ℕ, Bool, true, false, List, [], ◌∷◌, Option, None, Some, refl, sym, ◌∙◌, ap, subst}
use Rattle.std.specs.Prelude.{is_some, option_map, if◌then◌else◌, ◌==◌}
use Rattle.std.proofs.lemmas.Bool.{cases_eq, cond-true, cond-false, eq-eqb, ne_eqb}
use Rattle.im_theory_log.specs.Writer.{DirtyEntry, IsWritten}
use Rattle.im_base_types.specs.declared.tables.DirtyPage.{DirtyPage}
use Rattle.im_page_table.specs.declared.table_entry.TableEntry.{TableEntry}
use Rattle.im_page_table.specs.DirtyTable.{TableView, dirty_page_of, dirty_entry, entry_among, entry_in, is_before, older, oldest, oldest_among}

-- ---- the older of two

chosen_some : {X : Type 0} (t : Bool) (x y : X) → is_some (if t then Some x else Some y) ≡ true
chosen_some true x y = refl
chosen_some false x y = refl

older_some : (o c : Option DirtyPage) → is_some o ≡ true → is_some (older o c) ≡ true
older_some None c is = absurd (cc is)
older_some (Some a) None is = refl
older_some (Some a) (Some b) is = chosen_some (is_before b a) b a

added_some : (o c : Option DirtyPage) → is_some c ≡ true → is_some (older o c) ≡ true
added_some None c is = is
added_some (Some a) None is = absurd (cc is)
added_some (Some a) (Some b) is = chosen_some (is_before b a) b a

chosen_one : {X : Type 0} (t : Bool) (x y r : X) → (if t then Some x else Some y) ≡ Some r → (Some y ≡ Some r) ⊎ (Some x ≡ Some r)
chosen_one true x y r is = inr is
chosen_one false x y r is = inl is

older_one : (o c : Option DirtyPage) (r : DirtyPage) → older o c ≡ Some r → (o ≡ Some r) ⊎ (c ≡ Some r)
older_one None c r is = inr is
older_one (Some a) None r is = inl is
older_one (Some a) (Some b) r is = chosen_one (is_before b a) b a r is

-- ---- the oldest of a list

oldest_some : (o : Option DirtyPage) (xs : List TableEntry) → is_some o ≡ true → is_some (oldest_among o xs) ≡ true
oldest_some o [] is = is
oldest_some o (x ∷ xs) is = oldest_some (older o (dirty_page_of x)) xs (older_some o (dirty_page_of x) is)

none_of : {X : Type 0} (o : Option X) → (is_some o ≡ true → ⊥) → o ≡ None
none_of None never = refl
none_of (Some x) never = absurd (never refl)

pub entry_here : {X : Type 0} (t : Bool) (x : X) (o : Option X) → t ≡ true → is_some (if t then Some x else o) ≡ true
entry_here true x o is = refl
entry_here false x o is = absurd (cc is)

pub entry_there : {X : Type 0} (t : Bool) (x : X) (o : Option X) → is_some o ≡ true → is_some (if t then Some x else o) ≡ true
entry_there true x o is = refl
entry_there false x o is = is

-- the change of a page
abbrev row_at : ℕ → ℕ → DirtyPage
row_at p l = record { page = p; rec_lsn = l }

-- a change is one of its entry's page
change_page : (x : TableEntry) (r : DirtyPage) → dirty_page_of x ≡ Some r → x.page ≡ r.page
change_page x r is = by x.since is
  where
    by : (o : Option ℕ) → option_map (λ (l : ℕ). row_at x.page l) o ≡ Some r → x.page ≡ r.page
    by None none = absurd (cc none)
    by (Some l) some = let same : row_at x.page l ≡ r = cc some in ap (λ (y : DirtyPage). y.page) same

oldest_from : (o : Option DirtyPage) (xs : List TableEntry) (r : DirtyPage) → oldest_among o xs ≡ Some r → (o ≡ Some r) ⊎ (is_some (entry_among xs r.page) ≡ true)
oldest_from o [] r is = inl is
oldest_from o (x ∷ xs) r is = elim (oldest_from (older o (dirty_page_of x)) xs r is) [
  | inr later ↦ inr (entry_there (x.page == r.page) (dirty_entry x) (entry_among xs r.page) later)
  | inl one ↦ elim (older_one o (dirty_page_of x) r one) [
    | inl before ↦ inl before
    | inr here ↦ inr (entry_here (x.page == r.page) (dirty_entry x) (entry_among xs r.page) (eq-eqb x.page r.page (change_page x r here)))
  ]
]

-- its page has an entry
pub oldest_there : (t : TableView) (r : DirtyPage) → oldest t ≡ Some r → is_some (entry_in t r.page) ≡ true
oldest_there t r is = elim (oldest_from None t.entries r is) [
  | inl none ↦ absurd (let clash : None ≡ Some r = none in cc clash)
  | inr there ↦ there
]

-- where there is none, an entry has no change
unchanged : (x : TableEntry) → dirty_page_of x ≡ None → x.since ≡ None
unchanged x is = by x.since is
  where
    by : (o : Option ℕ) → option_map (λ (l : ℕ). row_at x.page l) o ≡ None → o ≡ None
    by None none = refl
    by (Some l) some = absurd (cc some)

none_from : (o : Option DirtyPage) (xs : List TableEntry) → oldest_among o xs ≡ None → o ≡ None
none_from o xs is = none_of o (λ some. let clash : true ≡ false = sym (oldest_some o xs some) ∙ ap (λ (p : Option DirtyPage). is_some p) is in cc clash)

none_oldest : (o : Option DirtyPage) (xs : List TableEntry) → oldest_among o xs ≡ None → (p : ℕ) → IsWritten (entry_among xs p)
none_oldest o [] is p = tt
none_oldest o (x ∷ xs) is p =
    let rest : IsWritten (entry_among xs p) = none_oldest (older o (dirty_page_of x)) xs is p in
    let none : older o (dirty_page_of x) ≡ None = none_from (older o (dirty_page_of x)) xs is in
    let here : dirty_page_of x ≡ None = none_of (dirty_page_of x) (λ some. let clash : true ≡ false = sym (added_some o (dirty_page_of x) some) ∙ ap (λ (q : Option DirtyPage). is_some q) none in cc clash) in
    elim (cases_eq x.page p) [
      | inl same ↦ subst (λ (e : Option DirtyEntry). IsWritten e) (sym (cond-true (x.page == p) (Some (dirty_entry x)) (entry_among xs p) (eq-eqb x.page p same))) (unchanged x here)
      | inr other ↦ subst (λ (e : Option DirtyEntry). IsWritten e) (sym (cond-false (x.page == p) (Some (dirty_entry x)) (entry_among xs p) (ne_eqb x.page p other))) rest
    ]

pub none_changed_in : (t : TableView) → oldest t ≡ None → (p : ℕ) → IsWritten (entry_in t p)
none_changed_in t is p = none_oldest None t.entries is p
