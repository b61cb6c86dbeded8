-- The records of a round's changes, and what its pages make of them.
use Rattle.std.proofs.Common.{◌≡◌, inl, inr, ℕ, ◌<◌, ◌≤◌, List, [], ◌∷◌, ◌++◌, Bool, true, false, refl, sym, ◌∙◌, ap, subst, arith}
use Rattle.std.specs.Prelude.{if◌then◌else◌, ◌==◌}
use Rattle.std.proofs.lemmas.Bool.{cases_eq, eq-eqb, ne_eqb}
use Rattle.im_base_types.specs.Pages.{Page}
use Rattle.im_base_types.specs.Records.{Logged}
use Rattle.im_theory_log.specs.Histories.{Base, History, Rises, changes_page, end_of}
use Rattle.im_theory_log.specs.Copies.{onto, redo_one}
use Rattle.im_theory_log.specs.WriterSteps.{applies}
use Rattle.im_theory_log.proofs.Histories.{rises_in}
use Rattle.im_page_rounds.specs.Hand.{AllTaken, AreAmong, IsAmong}
use Rattle.im_page_rounds.specs.OnePage.{PageTakes}
use Rattle.im_page_rounds.specs.Rounds.{changing, of_page}
use Rattle.im_page_rounds.proofs.Changes.{pages_stay}
use Rattle.im_page_rounds.proofs.Pages.{other_page}
use Rattle.im_page_rounds.proofs.Rounds.{onto_has}
use Rattle.im_restart_analysis.specs.declared.changes.Change.{Change}
use Rattle.im_restart_redo.specs.Changes.{AreOwn, lsns_of, record_lsns}
use Rattle.im_restart_redo.specs.Segments.{AreOnPages, lsns_at, lsns_in, pairs_of}
use Rattle.im_restart_redo.proofs.Ordered.{AreOver, AreUp, at_here, at_other}
use Rattle.im_restart_redo.proofs.RoundsApplied.{AreRecords}

-- ---- the changes of a page are those of its records

pub pairs_are : (log : History) (xs : List Change) (cs : List Logged) → record_lsns cs ≡ lsns_of xs → AreRecords log cs → AreOwn log xs → (p : ℕ) → lsns_at p (pairs_of xs) ≡ record_lsns (of_page p cs)
pairs_are log [] [] is records own p = refl
pairs_are log [] (r ∷ cs) is records own p = absurd (let clash : r.lsn ∷ record_lsns cs ≡ [] = is in cc clash)
pairs_are log (x ∷ xs) [] is records own p = absurd (let clash : [] ≡ x.lsn ∷ lsns_of xs = is in cc clash)
pairs_are log (x ∷ xs) (r ∷ cs) is records own p =
    let both : r.lsn ∷ record_lsns cs ≡ x.lsn ∷ lsns_of xs = is in
    let one : r.lsn ≡ x.lsn = cc both in
    let rest : record_lsns cs ≡ lsns_of xs = cc both in
    let page : r.page ≡ x.page = own.0 r records.0 one in
    ap (λ (n : ℕ). if n == p then x.lsn ∷ lsns_at p (pairs_of xs) else lsns_at p (pairs_of xs)) (sym page)
    ∙ by (r.page == p) one (pairs_are log xs cs rest records.1 own.1 p)
  where
    by : (t : Bool) → r.lsn ≡ x.lsn → lsns_at p (pairs_of xs) ≡ record_lsns (of_page p cs) → (if t then x.lsn ∷ lsns_at p (pairs_of xs) else lsns_at p (pairs_of xs)) ≡ record_lsns (if t then r ∷ of_page p cs else of_page p cs)
    by true one same = ap (λ (n : ℕ). n ∷ lsns_at p (pairs_of xs)) (sym one) ∙ ap (λ (l : List ℕ). r.lsn ∷ l) same
    by false one same = same

-- ---- the LSNs of a page's records do not fall

over_onto : (b : Base) (rs : List Logged) (f : History) (l : ℕ) → Rises b (onto rs f) → l ≤ end_of b f → AreOver l (record_lsns rs)
over_onto b [] f l up low = tt
over_onto b (r ∷ rs) f l up low =
    let (newer, is) = onto_has rs (r ∷ f) in
    let here : Rises b (r ∷ f) = rises_in b (r ∷ f) (onto rs (r ∷ f)) (record { newer = newer; is = is }) up in
    let less : end_of b f < r.lsn = here.1 in
    (omega (arith, low, less), over_onto b rs (r ∷ f) l up (omega (arith, low, less)))

pub up_onto : (b : Base) (rs : List Logged) (f : History) → Rises b (onto rs f) → AreUp (record_lsns rs)
up_onto b [] f up = tt
up_onto b (r ∷ rs) f up = (over_onto b rs (r ∷ f) r.lsn up (omega arith), up_onto b rs (r ∷ f) up)

-- so do fewer of them
over_page : (p l : ℕ) (rs : List Logged) → AreOver l (record_lsns rs) → AreOver l (record_lsns (of_page p rs))
over_page p l [] over = tt
over_page p l (r ∷ rs) over = by (r.page == p) (over_page p l rs over.1)
  where
    by : (t : Bool) → AreOver l (record_lsns (of_page p rs)) → AreOver l (record_lsns (if t then r ∷ of_page p rs else of_page p rs))
    by true rest = (over.0, rest)
    by false rest = rest

pub up_page : (p : ℕ) (rs : List Logged) → AreUp (record_lsns rs) → AreUp (record_lsns (of_page p rs))
up_page p [] up = tt
up_page p (r ∷ rs) up = by (r.page == p) (over_page p r.lsn rs up.0) (up_page p rs up.1)
  where
    by : (t : Bool) → AreOver r.lsn (record_lsns (of_page p rs)) → AreUp (record_lsns (of_page p rs)) → AreUp (record_lsns (if t then r ∷ of_page p rs else of_page p rs))
    by true over rest = (over, rest)
    by false over rest = rest

over_changing : (l : ℕ) (rs : List Logged) → AreOver l (record_lsns rs) → AreOver l (record_lsns (changing rs))
over_changing l [] over = tt
over_changing l (r ∷ rs) over = by (changes_page r.what) (over_changing l rs over.1)
  where
    by : (t : Bool) → AreOver l (record_lsns (changing rs)) → AreOver l (record_lsns (if t then r ∷ changing rs else changing rs))
    by true rest = (over.0, rest)
    by false rest = rest

pub up_changing : (rs : List Logged) → AreUp (record_lsns rs) → AreUp (record_lsns (changing rs))
up_changing [] up = tt
up_changing (r ∷ rs) up = by (changes_page r.what) (over_changing r.lsn rs up.0) (up_changing rs up.1)
  where
    by : (t : Bool) → AreOver r.lsn (record_lsns (changing rs)) → AreUp (record_lsns (changing rs)) → AreUp (record_lsns (if t then r ∷ changing rs else changing rs))
    by true over rest = (over, rest)
    by false over rest = rest

-- ---- the records of changes

-- each of these records is of this page
abbrev pub AreOfPage : ℕ → List Logged → Type 0
AreOfPage p [] = Unit {0}
AreOfPage p (r ∷ rs) = (r.page ≡ p) × AreOfPage p rs

pub of_page_are : (p : ℕ) (rs : List Logged) → AreOfPage p (of_page p rs)
of_page_are p [] = tt
of_page_are p (r ∷ rs) = elim (cases_eq r.page p) [
  | inl e ↦ subst (λ (t : Bool). AreOfPage p (if t then r ∷ of_page p rs else of_page p rs)) (sym (eq-eqb r.page p e)) (e, of_page_are p rs)
  | inr ne ↦ subst (λ (t : Bool). AreOfPage p (if t then r ∷ of_page p rs else of_page p rs)) (sym (ne_eqb r.page p ne)) (of_page_are p rs)
]

pub of_page_records : (all : History) (p : ℕ) (rs : List Logged) → AreRecords all rs → AreRecords all (of_page p rs)
of_page_records all p [] records = tt
of_page_records all p (r ∷ rs) records = by (r.page == p) (of_page_records all p rs records.1)
  where
    by : (t : Bool) → AreRecords all (of_page p rs) → AreRecords all (if t then r ∷ of_page p rs else of_page p rs)
    by true rest = (records.0, rest)
    by false rest = rest

pub of_page_then : (p : ℕ) (rs more : List Logged) → of_page p (rs ++ more) ≡ of_page p rs ++ of_page p more
of_page_then p [] more = refl
of_page_then p (r ∷ rs) more = by (r.page == p) (of_page_then p rs more)
  where
    by : (t : Bool) → of_page p (rs ++ more) ≡ of_page p rs ++ of_page p more → (if t then r ∷ of_page p (rs ++ more) else of_page p (rs ++ more)) ≡ (if t then r ∷ of_page p rs else of_page p rs) ++ of_page p more
    by true rest = ap (λ (x : List Logged). r ∷ x) rest
    by false rest = rest

-- Records of a log that made these changes, page by page as the function says.
pub record ArePart (log : History) (xs : List (ℕ × ℕ)) (have : ℕ → List Logged) : Type 0 where
  pub own : List Logged
  pub lsns : record_lsns own ≡ lsns_in xs
  pub pages : (p : ℕ) → of_page p own ≡ have p
  pub records : AreRecords log own
  pub among : (ns : List ℕ) → AreOnPages ns xs → AreAmong ns own

none_have : (rs : List Logged) → [] ≡ record_lsns rs → rs ≡ []
none_have [] is = refl
none_have (r ∷ rs) is = absurd (cc is)

-- the rest of a page's records
abbrev rest_of : ℕ → List Logged → (ℕ → List Logged) → ℕ → List Logged
rest_of p more have q = if p == q then more else have q

-- so the other changes are made
abbrev IsMade : History → List (ℕ × ℕ) → (ℕ → List Logged) → Type 0
IsMade log xs have = ((p : ℕ) → lsns_at p xs ≡ record_lsns (have p)) → ((p : ℕ) → AreOfPage p (have p)) → ((p : ℕ) → AreRecords log (have p)) → ArePart log xs have

part_next : (log : History) (x : ℕ × ℕ) (xs : List (ℕ × ℕ)) (have : ℕ → List Logged) → ((left : ℕ → List Logged) → IsMade log xs left) → (rs : List Logged) → have x.0 ≡ rs → IsMade log (x ∷ xs) have
part_next log x xs have rec [] e is of records = absurd (let clash : x.1 ∷ lsns_at x.0 xs ≡ [] = sym (at_here x.0 x xs refl) ∙ is x.0 ∙ ap record_lsns e in cc clash)
part_next log x xs have rec (r ∷ more) e is of records =
    let p : ℕ = x.0 in
    let first : x.1 ∷ lsns_at p xs ≡ r.lsn ∷ record_lsns more = sym (at_here p x xs refl) ∙ is p ∙ ap record_lsns e in
    let lsn : x.1 ≡ r.lsn = cc first in
    let tail : lsns_at p xs ≡ record_lsns more = cc first in
    let here : AreOfPage p (r ∷ more) = subst (λ (rs : List Logged). AreOfPage p rs) e (of p) in
    let in_log : AreRecords log (r ∷ more) = subst (λ (rs : List Logged). AreRecords log rs) e (records p) in
    let page : r.page ≡ p = here.0 in
    let rest = rec (rest_of p more have) (λ q. elim (cases_eq p q) [
      | inl same ↦ subst (λ (t : Bool). lsns_at q xs ≡ record_lsns (if t then more else have q)) (sym (eq-eqb p q same)) (subst (λ (n : ℕ). lsns_at n xs ≡ record_lsns more) same tail)
      | inr other ↦ subst (λ (t : Bool). lsns_at q xs ≡ record_lsns (if t then more else have q)) (sym (ne_eqb p q other)) (sym (at_other q x xs other) ∙ is q)
    ]) (λ q. elim (cases_eq p q) [
      | inl same ↦ subst (λ (t : Bool). AreOfPage q (if t then more else have q)) (sym (eq-eqb p q same)) (subst (λ (n : ℕ). AreOfPage n more) same here.1)
      | inr other ↦ subst (λ (t : Bool). AreOfPage q (if t then more else have q)) (sym (ne_eqb p q other)) (of q)
    ]) (λ q. elim (cases_eq p q) [
      | inl same ↦ subst (λ (t : Bool). AreRecords log (if t then more else have q)) (sym (eq-eqb p q same)) in_log.1
      | inr other ↦ subst (λ (t : Bool). AreRecords log (if t then more else have q)) (sym (ne_eqb p q other)) (records q)
    ]) in
    record {
      own = r ∷ rest.own;
      lsns = ap (λ (n : ℕ). n ∷ record_lsns rest.own) (sym lsn) ∙ ap (λ (k : List ℕ). x.1 ∷ k) rest.lsns;
      pages = λ q.
          ap (λ (n : ℕ). if n == q then r ∷ of_page q rest.own else of_page q rest.own) page
          ∙ ap (λ (k : List Logged). if p == q then r ∷ k else k) (rest.pages q)
          ∙ elim (cases_eq p q) [
            | inl same ↦
                subst (λ (t : Bool). (if t then r ∷ (if t then more else have q) else (if t then more else have q)) ≡ have q) (sym (eq-eqb p q same)) (subst (λ (n : ℕ). r ∷ more ≡ have n) same (sym e))
            | inr other ↦ subst (λ (t : Bool). (if t then r ∷ (if t then more else have q) else (if t then more else have q)) ≡ have q) (sym (ne_eqb p q other)) refl
          ];
      records = (in_log.0, rest.records);
      among = λ ns all. (subst (λ (n : ℕ). IsAmong ns n) (sym page) all.0, rest.among ns all.1);
    }

pub part_of : (log : History) (xs : List (ℕ × ℕ)) (have : ℕ → List Logged) → IsMade log xs have
part_of log [] have is of records = record { own = []; lsns = refl; pages = λ p. sym (none_have (have p) (is p)); records = tt; among = λ ns all. tt }
part_of log (x ∷ xs) have is of records = part_next log x xs have (λ left. part_of log xs left) (have x.0) refl is of records

-- ---- records that are taken, page by page

-- records that change no page are taken
pub taken_changing : (rs : List Logged) (g : ℕ → Page) → AllTaken rs g → AllTaken (changing rs) g
taken_changing [] g all = tt
taken_changing (r ∷ rs) g all = by (taken_changing rs) (changes_page r.what) refl
  where
    by : ((h : ℕ → Page) → AllTaken rs h → AllTaken (changing rs) h) → (t : Bool) → changes_page r.what ≡ t → AllTaken (if t then r ∷ changing rs else changing rs) g
    by rest true is = (all.0, rest (λ q. redo_one r q (g q)) all.1)
    by rest false is = rest g (subst (λ (h : ℕ → Page). AllTaken rs h) (pages_stay r rs g is) all.1)

-- a page takes records of its own, one after another
abbrev pub TakesEach : ℕ → List Logged → Page → Type 0
TakesEach p [] g = Unit {0}
TakesEach p (r ∷ rs) g = (applies r p g ≡ true → PageTakes r.what g) × TakesEach p rs (redo_one r p g)

pub each_of_all : (rs : List Logged) (g : ℕ → Page) → AllTaken rs g → (p : ℕ) → TakesEach p (of_page p rs) (g p)
each_of_all [] g all p = tt
each_of_all (r ∷ rs) g all p = elim (cases_eq r.page p) [
  | inl e ↦
      subst (λ (t : Bool). TakesEach p (if t then r ∷ of_page p rs else of_page p rs) (g p)) (sym (eq-eqb r.page p e))
      (subst (λ (q : ℕ). applies r q (g q) ≡ true → PageTakes r.what (g q)) e all.0, each_of_all rs (λ q. redo_one r q (g q)) all.1 p)
  | inr ne ↦
      subst (λ (t : Bool). TakesEach p (if t then r ∷ of_page p rs else of_page p rs) (g p)) (sym (ne_eqb r.page p ne))
      (subst (λ (h : Page). TakesEach p (of_page p rs) h) (other_page r p (g p) (ne_eqb r.page p ne)) (each_of_all rs (λ q. redo_one r q (g q)) all.1 p))
]

pub all_of_each : (rs : List Logged) (g : ℕ → Page) → ((p : ℕ) → TakesEach p (of_page p rs) (g p)) → AllTaken rs g
all_of_each [] g each = tt
all_of_each (r ∷ rs) g each = (
  (subst (λ (t : Bool). TakesEach r.page (if t then r ∷ of_page r.page rs else of_page r.page rs) (g r.page)) (eq-eqb r.page r.page refl) (each r.page)).0,
  all_of_each rs (λ q. redo_one r q (g q)) (λ p. elim (cases_eq r.page p) [
    | inl e ↦ (subst (λ (t : Bool). TakesEach p (if t then r ∷ of_page p rs else of_page p rs) (g p)) (eq-eqb r.page p e) (each p)).1
    | inr ne ↦
        subst (λ (h : Page). TakesEach p (of_page p rs) h) (sym (other_page r p (g p) (ne_eqb r.page p ne)))
        (subst (λ (t : Bool). TakesEach p (if t then r ∷ of_page p rs else of_page p rs) (g p)) (ne_eqb r.page p ne) (each p))
  ]),
)
