-- The changes that records made, as records come; and the last of each page.
use Rattle.std.proofs.Common.{◌≡◌, ◌≢◌, ◌≤◌, ◌<◌, ◌++◌, ◌&&◌, ℕ, [], ◌∷◌, List, All, Bool, Option, Some, inl, inr, refl, sym, ◌∙◌, ap, subst, arith, true, false, ◌==◌, if◌then◌else◌, nat_le, append-nil}
use Rattle.std.specs.List.{filter}
use Rattle.std.specs.Ordering.{nat_cmp}
use Rattle.std.specs.BTreeMap.{Updates}
use Rattle.std.proofs.lemmas.Bool.{cases_eq, cases_lt, cond-false, le-leb, lt-leb, ne_eqb}
use Rattle.std.proofs.lemmas.List.Elements.{All-push, All-weaker, filter-append}
use Rattle.im_base_types.specs.Records.{Logged}
use Rattle.im_theory_log.specs.Histories.{History, changes_page}
use Rattle.im_theory_log.specs.PageCounts.{count_in}
use Rattle.im_restart_analysis.specs.declared.changes.Change.{Change}
use Rattle.im_restart_analysis.specs.Changes.{AreChangedAt, IsChange, LastMap, change_of, changes_from}
use Rattle.im_restart_analysis.proofs.CopyLsns.{inserted_at}

change_more : (r : Logged) (older : History) (x : Change) → IsChange older x → IsChange (r ∷ older) x
change_more r older x is = record { logged = is.logged; there = inr is.there; page = is.page; changes = is.changes; lsn = is.lsn; says = is.says }

-- after a record more they are changes still
changes_more : (r : Logged) (older : History) (xs : List Change) → All (IsChange older) xs → All (IsChange (r ∷ older)) xs
changes_more r older xs all = All-weaker (IsChange older) (IsChange (r ∷ older)) (change_more r older) xs all

-- a page count that is said is page 0's
said_is : (p n s : ℕ) → s ≡ (if p == 0 then n else 0) → 1 ≤ s → (p ≡ 0) × (n ≡ s)
said_is p n s is some = elim (cases_eq p 0) [
  | inl here ↦ let e : s ≡ n = subst (λ (q : ℕ). s ≡ (if q == 0 then n else 0)) here is in (here, sym e)
  | inr other ↦ absurd (omega (arith, some, is ∙ cond-false (p == 0) n 0 (ne_eqb p 0 other)))
]

-- ---- those from an LSN on

-- with one more, where it counts
abbrev joined : Bool → List Change → Change → List Change
joined counts xs x = if counts then xs ++ x ∷ [] else xs

-- a record of which nothing is kept
pub change_passed : (start : ℕ) (r : Logged) (older : History) → (nat_le start r.lsn && changes_page r.what) ≡ false → changes_from start (r ∷ older) ≡ changes_from start older
change_passed start r older not = ap (λ (b : Bool). joined b (changes_from start older) (change_of r)) not

-- a change more
pub change_taken : (start : ℕ) (r : Logged) (older : History) → (nat_le start r.lsn && changes_page r.what) ≡ true → changes_from start (r ∷ older) ≡ changes_from start older ++ change_of r ∷ []
change_taken start r older is = ap (λ (b : Bool). joined b (changes_from start older) (change_of r)) is

abbrev made : ℕ → ℕ → ℕ → Change
made p s l = record { page = p; said = s; lsn = l }

pub change_is : (r : Logged) (p s : ℕ) → p ≡ r.page → s ≡ (if r.page == 0 then count_in r.what else 0) → made p s r.lsn ≡ change_of r
change_is r p s page said = ap (λ (q : ℕ). made q s r.lsn) page ∙ ap (λ (n : ℕ). made r.page n r.lsn) said

filter_one : (test : Change → Bool) (x : Change) (is : Bool) → test x ≡ is → filter test (x ∷ []) ≡ (if is then x ∷ [] else [])
filter_one test x true is = rw is refl
filter_one test x false is = rw is refl

abbrev is_since : ℕ → Change → Bool
is_since point x = nat_le point x.lsn

-- the record is below the point, and the start may be above or below it
joined_below : (point : ℕ) (xs : List Change) (x : Change) (counts changes : Bool) → is_since point x ≡ false → filter (is_since point) (joined counts xs x) ≡ joined (false && changes) (filter (is_since point) xs) x
joined_below point xs x true changes not = filter-append (is_since point) xs (x ∷ []) ∙ ap (λ (ys : List Change). filter (is_since point) xs ++ ys) (filter_one (is_since point) x false not) ∙ append-nil (filter (is_since point) xs)
joined_below point xs x false changes not = refl

joined_above : (point : ℕ) (xs : List Change) (x : Change) (changes : Bool) → is_since point x ≡ true → filter (is_since point) (joined changes xs x) ≡ joined changes (filter (is_since point) xs) x
joined_above point xs x true is = filter-append (is_since point) xs (x ∷ []) ∙ ap (λ (ys : List Change). filter (is_since point) xs ++ ys) (filter_one (is_since point) x true is)
joined_above point xs x false is = refl

-- those from a later point on
pub changes_since : (start point : ℕ) (log : History) → start ≤ point → filter (is_since point) (changes_from start log) ≡ changes_from point log
changes_since start point [] le = refl
changes_since start point (r ∷ older) le =
    let before = changes_since start point older le in
    elim (cases_lt r.lsn point) [
      | inl below ↦
          let not : nat_le point r.lsn ≡ false = lt-leb point r.lsn below in
          joined_below point (changes_from start older) (change_of r) (nat_le start r.lsn && changes_page r.what) (changes_page r.what) not
          ∙ ap (λ (xs : List Change). joined (false && changes_page r.what) xs (change_of r)) before
          ∙ ap (λ (b : Bool). joined (b && changes_page r.what) (changes_from point older) (change_of r)) (sym not)
      | inr above ↦
          let is : nat_le point r.lsn ≡ true = le-leb point r.lsn above in
          let low : nat_le start r.lsn ≡ true = le-leb start r.lsn (omega (arith, le, above)) in
          ap (λ (b : Bool). filter (is_since point) (joined (b && changes_page r.what) (changes_from start older) (change_of r))) low
          ∙ joined_above point (changes_from start older) (change_of r) (changes_page r.what) is
          ∙ ap (λ (xs : List Change). joined (changes_page r.what) xs (change_of r)) before
          ∙ ap (λ (b : Bool). joined (b && changes_page r.what) (changes_from point older) (change_of r)) (sym is)
    ]

-- each is a change that a record of the log made
logged_by : (point : ℕ) (r : Logged) (older : History) (low changes : Bool) → changes_page r.what ≡ changes → All (IsChange older) (changes_from point older) → All (IsChange (r ∷ older)) (joined (low && changes) (changes_from point older) (change_of r))
logged_by point r older true true is all =
    All-push (IsChange (r ∷ older)) (changes_from point older) (change_of r) (changes_more r older (changes_from point older) all)
    (record { logged = r; there = inl refl; page = refl; changes = is; lsn = refl; says = λ some. said_is r.page (count_in r.what) (change_of r).said refl some })
logged_by point r older true false is all = changes_more r older (changes_from point older) all
logged_by point r older false changes is all = changes_more r older (changes_from point older) all

pub changes_logged : (point : ℕ) (log : History) → All (IsChange log) (changes_from point log)
changes_logged point [] = λ k d low. absurd (omega (arith, low))
changes_logged point (r ∷ older) = logged_by point r older (nat_le point r.lsn) (changes_page r.what) refl (changes_logged point older)

-- ---- the last one of each page

-- after a record more
pub changed_still : (r : Logged) (older : History) (point : ℕ) (count : Option ℕ) (m : LastMap) → AreChangedAt older point count m → AreChangedAt (r ∷ older) point count m
changed_still r older point count m all p l has =
    let old = all p l has in
    record { logged = old.logged; there = inr old.there; page = old.page; changes = old.changes; lsn = old.lsn; low = old.low; says = old.says }

-- below a later point
pub changed_below : (log : History) (start point : ℕ) (count : Option ℕ) (m : LastMap) → start ≤ point → AreChangedAt log start count m → AreChangedAt log point count m
changed_below log start point count m le all p l has =
    let old = all p l has in
    let before : l < start = old.low in
    record { logged = old.logged; there = old.there; page = old.page; changes = old.changes; lsn = old.lsn; low = omega (arith, before, le); says = old.says }

-- a change below the redo point is entered
pub changes_entered : (log : History) (point : ℕ) (count said : Option ℕ) (m n : LastMap) (x : Change) → IsChange log x → x.lsn < point → Updates nat_cmp m n x.page (Some x.lsn)
    → (x.page ≡ 0 → (k : ℕ) → said ≡ Some k → (k ≡ x.said) × (1 ≤ k)) → (x.page ≢ 0 → said ≡ count) → AreChangedAt log point count m → AreChangedAt log point said n
changes_entered log point count said m n x is low up own other all p l has = elim (inserted_at m n x.page x.lsn up p l has) [
  | inl here ↦ record {
    logged = is.logged;
    there = is.there;
    page = is.page ∙ sym here.0;
    changes = is.changes;
    lsn = is.lsn ∙ sym here.1;
    low = omega (arith, here.1, low);
    says = λ zero k same.
        let mine = own (sym here.0 ∙ zero) k same in
        let says = is.says (omega (arith, mine.0, mine.1)) in
        (mine.1, says.1 ∙ sym mine.0);
  }
  | inr there ↦
      let old = all p l there.1 in
      record {
        logged = old.logged;
        there = old.there;
        page = old.page;
        changes = old.changes;
        lsn = old.lsn;
        low = old.low;
        says = λ zero k same. old.says zero k (sym (other (λ at. there.0 (zero ∙ sym at))) ∙ same);
      }
]
