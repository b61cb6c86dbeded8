-- Full copies in a log: what a record more does to them, and what a front has.
use Rattle.std.proofs.Common.{◌≡◌, inl, inr, ℕ, ◌<◌, ◌≤◌, [], ◌∷◌, ◌++◌, Bool, true, false, refl, sym, ◌∙◌, ap, subst, arith, Option, None, Some}
use Rattle.std.specs.Prelude.{if◌then◌else◌, ◌==◌, nat_le}
use Rattle.std.proofs.lemmas.Bool.{cases_eq, cases_lt, cond-true, cond-false, eq-eqb, ne_eqb, le-leb, lt-leb}
use Rattle.im_theory_log.specs.Copies.{HasCopy, Reaches, copy_in, noted, or_older}
use Rattle.im_theory_log.specs.Histories.{Base, History, IsFront, Rises, end_of, page_after, page_at}
use Rattle.im_base_types.specs.Pages.{Page}
use Rattle.im_base_types.specs.Records.{Checkpoint, Commit, DeleteKey, DummyClr, End, Image, InsertKey, Logged, Smo, UndoDelete, UndoInsert, UndoSmo, Unreadable, What}
use Rattle.im_theory_log.proofs.Histories.{front_self, page_here}
use Rattle.im_theory_log.proofs.Redo.{reaches_more}

-- ---- what is noted once a record has joined

-- a record below the bound
pub noted_below : (from : ℕ) (r : Logged) (log : History) (p : ℕ) → r.lsn < from → noted from (r ∷ log) p ≡ noted from log p
noted_below from r log p under =
    cond-false (nat_le from r.lsn) (if r.page == p then or_older r.lsn (copy_in r.lsn r.what) (noted from log p) else noted from log p) (noted from log p) (lt-leb from r.lsn under)

-- a record with no copy of the page
pub noted_none : (from : ℕ) (r : Logged) (log : History) (p : ℕ) → (r.page ≡ p → copy_in r.lsn r.what ≡ None) → noted from (r ∷ log) p ≡ noted from log p
noted_none from r log p none = elim (nat_le from r.lsn) as (λ (x : Bool). (if x then (if r.page == p then or_older r.lsn (copy_in r.lsn r.what) (noted from log p) else noted from log p) else noted from log p) ≡ noted from log p) [
  | true ↦ elim (cases_eq r.page p) [
    | inl here ↦ cond-true (r.page == p) _ _ (eq-eqb r.page p here) ∙ ap (λ (o : Option Page). or_older r.lsn o (noted from log p)) (none here)
    | inr other ↦ cond-false (r.page == p) _ _ (ne_eqb r.page p other)
  ]
  | false ↦ refl
]

-- a copy of the page at or after the bound
pub noted_here : (from : ℕ) (r : Logged) (log : History) (p : ℕ) (c : Page) → from ≤ r.lsn → r.page ≡ p → copy_in r.lsn r.what ≡ Some c → noted from (r ∷ log) p ≡ Some (r.lsn, c)
noted_here from r log p c le here is =
    cond-true (nat_le from r.lsn) _ _ (le-leb from r.lsn le)
    ∙ cond-true (r.page == p) _ _ (eq-eqb r.page p here)
    ∙ ap (λ (o : Option Page). or_older r.lsn o (noted from log p)) is

-- the three cases of a record that joins
pub data Joins (from : ℕ) (r : Logged) (log : History) (p : ℕ) : Type 0 where
  leaves : noted from (r ∷ log) p ≡ noted from log p → Joins from r log p
  copies : (c : Page) → from ≤ r.lsn → r.page ≡ p → copy_in r.lsn r.what ≡ Some c → noted from (r ∷ log) p ≡ Some (r.lsn, c) → Joins from r log p

pub joins : (from : ℕ) (r : Logged) (log : History) (p : ℕ) → Joins from r log p
joins from r log p = elim (cases_lt r.lsn from) [
  | inl under ↦ leaves (noted_below from r log p under)
  | inr over ↦ elim (cases_eq r.page p) [
    | inr other ↦ leaves (noted_none from r log p (λ e. absurd (other e)))
    | inl here ↦ by over here (copy_in r.lsn r.what) refl
  ]
]
  where
    by : from ≤ r.lsn → r.page ≡ p → (o : Option Page) → copy_in r.lsn r.what ≡ o → Joins from r log p
    by over here None none = leaves (noted_none from r log p (λ e. none))
    by over here (Some c) some = copies c over here some (noted_here from r log p c over here some)

abbrev lsn_of : ℕ → Option (ℕ × Page) → ℕ
lsn_of d None = d
lsn_of d (Some x) = x.0

abbrev page_of : Page → Option (ℕ × Page) → Page
page_of d None = d
page_of d (Some x) = x.1

-- one that is noted is no earlier than the bound, and no later than the log's end
pub noted_within : (b : Base) (from : ℕ) (log : History) (p l : ℕ) (c : Page) → Rises b log → noted from log p ≡ Some (l, c) → (from ≤ l) × (l ≤ end_of b log)
noted_within b from [] p l c up is = absurd (cc is)
noted_within b from (r ∷ log) p l c up is = by (λ e. noted_within b from log p l c up.0 e) (joins from r log p)
  where
    within : r.lsn ≡ l → from ≤ r.lsn → (from ≤ l) × (l ≤ r.lsn)
    within same over = (omega (arith, same, over), omega (arith, same))

    by : (noted from log p ≡ Some (l, c) → (from ≤ l) × (l ≤ end_of b log)) → Joins from r log p → (from ≤ l) × (l ≤ end_of b (r ∷ log))
    by rec (leaves same) =
        let rest = rec (sym same ∙ is) in
        let high : l ≤ end_of b log = rest.1 in let last : end_of b log < r.lsn = up.1 in (rest.0, omega (arith, high, last))
    by rec (copies d over here some noted_is) =
        let e : Some (r.lsn, d) ≡ Some (l, c) = sym noted_is ∙ is in
        within (ap (λ (o : Option (ℕ × Page)). lsn_of 0 o) e) over

-- ---- copies in longer logs, in fronts, and from other bounds on

-- where a longer log has none from an earlier bound on, an older one has none
none_more : (k : ℕ) (r : Logged) (log : History) (p : ℕ) → noted k (r ∷ log) p ≡ None → noted k log p ≡ None
none_more k r log p none = by (joins k r log p)
  where
    by : Joins k r log p → noted k log p ≡ None
    by (leaves same) = sym same ∙ none
    by (copies d over here some is) = absurd (let e : Some (r.lsn, d) ≡ None = sym is ∙ none in cc e)

none_later : (m k : ℕ) (log : History) (p : ℕ) → k ≤ m → noted k log p ≡ None → noted m log p ≡ None
none_later m k [] p le none = refl
none_later m k (r ∷ log) p le none = by (none_later m k log p le (none_more k r log p none)) (joins m r log p)
  where
    by : noted m log p ≡ None → Joins m r log p → noted m (r ∷ log) p ≡ None
    by rest (leaves same) = same ∙ rest
    by rest (copies d over here some is) = absurd (let ok : k ≤ r.lsn = omega (arith, over, le) in let e : Some (r.lsn, d) ≡ None = sym (noted_here k r log p d ok here some) ∙ none in cc e)

none_front : (k : ℕ) (newer f : History) (p : ℕ) → noted k (newer ++ f) p ≡ None → noted k f p ≡ None
none_front k [] f p none = none
none_front k (r ∷ newer) f p none = none_front k newer f p (none_more k r (newer ++ f) p none)

-- where a log has none from a bound on, a front has none from a later one on
pub no_copy : (f log : History) (p m k : ℕ) → IsFront f log → k ≤ m → HasCopy f p m → noted k log p ≡ None → ⊥
no_copy f log p m k front le has none =
    let here : noted k f p ≡ None = none_front k front.newer f p (ap (λ (x : History). noted k x p) front.is ∙ none) in
    let clash : Some (has.lsn, has.copy) ≡ None = sym has.is ∙ none_later m k f p le here in
    cc clash

has_of : (log : History) (p m : ℕ) (o : Option (ℕ × Page)) → noted m log p ≡ o → (noted m log p ≡ None → ⊥) → HasCopy log p m
has_of log p m (Some x) is some = record { lsn = x.0; copy = x.1; is = is }
has_of log p m None is some = absurd (some is)

-- a copy of a front is one of the log
pub copy_grows : (f log : History) (p m : ℕ) → IsFront f log → HasCopy f p m → HasCopy log p m
copy_grows f log p m front has = has_of log p m (noted m log p) refl (λ none. no_copy f log p m m front (omega arith) has none)

-- a copy at or after a bound is one at or after an earlier bound
pub copy_from : (log : History) (p m k : ℕ) → k ≤ m → HasCopy log p m → HasCopy log p k
copy_from log p m k le has = has_of log p k (noted k log p) refl (λ none. no_copy log log p m k (front_self log) le has none)

-- where each copy from a bound on has had all below it, so it is once a record has joined whose own copy has
pub copied_more : (b : Base) (m : ℕ) (r : Logged) (log : History) → Rises b log → end_of b log < r.lsn
    → ((p l : ℕ) (c : Page) → noted m log p ≡ Some (l, c) → Reaches b log m p c)
    → ((c : Page) → m ≤ r.lsn → copy_in r.lsn r.what ≡ Some c → Reaches b (r ∷ log) m r.page c)
    → (p l : ℕ) (c : Page) → noted m (r ∷ log) p ≡ Some (l, c) → Reaches b (r ∷ log) m p c
copied_more b m r log up last old new p l c is = by (joins m r log p)
  where
    by : Joins m r log p → Reaches b (r ∷ log) m p c
    by (leaves same) =
        let e : noted m log p ≡ Some (l, c) = sym same ∙ is in
        let within = noted_within b m log p l c up e in
        let one : m ≤ l = within.0 in let two : l ≤ end_of b log = within.1 in
        reaches_more b r log m p c last (omega (arith, one, two, last)) (old p l c e)
    by (copies d over here some noted_is) =
        let e : Some (r.lsn, d) ≡ Some (l, c) = sym noted_is ∙ is in
        let same : d ≡ c = ap (λ (o : Option (ℕ × Page)). page_of d o) e in
        subst (λ (x : Page). Reaches b (r ∷ log) m p x) same (subst (λ (q : ℕ). Reaches b (r ∷ log) m q d) here (new d over some))

-- the full copy that a structure record holds is the page as the log then has it
pub copy_exact : (b : Base) (r : Logged) (log : History) (w : What) → r.what ≡ w → ((c : Page) → w ≡ Image c → c ≡ page_at b (r ∷ log) r.page)
    → (c : Page) → copy_in r.lsn w ≡ Some c → c ≡ page_at b (r ∷ log) r.page
copy_exact b r log w is image c holds = by w is image holds
  where
    here : (w : What) → r.what ≡ w → page_at b (r ∷ log) r.page ≡ page_after r.lsn w (page_at b log r.page)
    here w is = page_here b r log r.page refl ∙ ap (λ (x : What). page_after r.lsn x (page_at b log r.page)) is

    by : (w : What) → r.what ≡ w → ((c : Page) → w ≡ Image c → c ≡ page_at b (r ∷ log) r.page) → copy_in r.lsn w ≡ Some c → c ≡ page_at b (r ∷ log) r.page
    by (Image d) is image holds = image c (let e : d ≡ c = cc holds in ap (λ (x : Page). Image x) e)
    by (Smo old new) is image holds = sym (here (Smo old new) is ∙ cc holds)
    by (UndoSmo new) is image holds = sym (here (UndoSmo new) is ∙ cc holds)
    by (InsertKey k i) is image holds = absurd (cc holds)
    by (DeleteKey k i) is image holds = absurd (cc holds)
    by (UndoInsert k i) is image holds = absurd (cc holds)
    by (UndoDelete k i) is image holds = absurd (cc holds)
    by DummyClr is image holds = absurd (cc holds)
    by Commit is image holds = absurd (cc holds)
    by End is image holds = absurd (cc holds)
    by (Checkpoint n a d) is image holds = absurd (cc holds)
    by Unreadable is image holds = absurd (cc holds)
