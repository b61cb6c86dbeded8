-- Redo gives each page what the whole log made of it, from any page that has had all its records below the point.
use Rattle.std.proofs.Common.{◌≡◌, inl, inr, ℕ, ◌+◌, ◌<◌, ◌≤◌, List, [], ◌∷◌, ◌++◌, Bool, true, false, refl, sym, ◌∙◌, ap, subst, arith, append_assoc}
use Rattle.std.specs.Prelude.{if◌then◌else◌, ◌==◌, nat_le}
use Rattle.std.proofs.lemmas.Bool.{cases_eq, cases_lt, eq-eqb, ne_eqb, cond-true, cond-false, le-leb, lt-leb}
use Rattle.im_theory_log.specs.Copies.{Reaches, onto, redo_all, redo_one}
use Rattle.im_theory_log.specs.Histories.{Base, History, Rises, below, end_of, page_after, page_at, page_up_to}
use Rattle.im_base_types.specs.Pages.{Page}
use Rattle.im_base_types.specs.Records.{Logged}
use Rattle.im_theory_log.proofs.Histories.{after_lsn, below_below, below_between, below_has, below_newest, below_older, end_below, newest_after, none_below, page_here, page_lsn_le, page_lsn_up, page_other, rises_below, rises_front, whole_below}

-- ---- pages that have had all their records below a bound

-- a page as a history made it has had all
pub at_end : (b : Base) (log : History) (m p : ℕ) (g : Page) → end_of b log < m → g ≡ page_at b log p → Reaches b log m p g
at_end b log m p g last is = record { upto = m; from = omega arith; is = is ∙ ap (λ (l : History). page_at b l p) (sym (whole_below b m log last)) }

-- a lower bound is had too
pub reaches_less : (b : Base) (log : History) (m k p : ℕ) (g : Page) → k ≤ m → Reaches b log m p g → Reaches b log k p g
reaches_less b log m k p g le h = record { upto = h.upto; from = let up : m ≤ h.upto = h.from in omega (arith, le, up); is = h.is }

-- a record joins the log, none of the bound's
pub reaches_more : (b : Base) (r : Logged) (older : History) (m p : ℕ) (g : Page) → end_of b older < r.lsn → m ≤ r.lsn → Reaches b older m p g → Reaches b (r ∷ older) m p g
reaches_more b r older m p g up low h = elim (cases_lt r.lsn h.upto) [
  | inr before ↦ record { upto = h.upto; from = h.from; is = h.is ∙ ap (λ (l : History). page_at b l p) (sym (below_older h.upto r older before)) }
  | inl past ↦
      let all : below h.upto older ≡ older = whole_below b h.upto older (omega (arith, up, past)) in
      let here : below r.lsn (r ∷ older) ≡ older = below_older r.lsn r older (omega arith) ∙ whole_below b r.lsn older up in
      record { upto = r.lsn; from = low; is = h.is ∙ ap (λ (l : History). page_at b l p) (all ∙ sym here) }
]

-- the page as it was before the record
pub reaches_before : (b : Base) (r : Logged) (log : History) (p : ℕ) (g : Page) → end_of b log < r.lsn → g ≡ page_at b log p → Reaches b (r ∷ log) r.lsn p g
reaches_before b r log p g up is = reaches_more b r log r.lsn p g up (omega arith) (at_end b log r.lsn p g up is)

-- a page that has had all is the page that the log made
pub reached_end : (b : Base) (log : History) (m p : ℕ) (g : Page) → end_of b log < m → Reaches b log m p g → g ≡ page_at b log p
reached_end b log m p g last h = h.is ∙ ap (λ (l : History). page_at b l p) (whole_below b h.upto log (let up : m ≤ h.upto = h.from in omega (arith, last, up)))

-- ---- a page's own LSN says which of its records it has

exact : (b : Base) (f : History) (p : ℕ) → Rises b f → page_at b (below ((page_at b f p).lsn + 1) f) p ≡ page_at b f p
exact b [] p up = refl
exact b (r ∷ older) p up = elim (cases_eq r.page p) [
  | inl here ↦
      let is : page_at b (r ∷ older) p ≡ page_after r.lsn r.what (page_at b older p) = page_here b r older p here in
      elim (after_lsn r.lsn r.what) [
        | inl same ↦ still (exact b older p up.0) (is ∙ same (page_at b older p))
        | inr new ↦
            let lsn : (page_at b (r ∷ older) p).lsn ≡ r.lsn = ap (λ (g : Page). g.lsn) is ∙ new (page_at b older p) in
            let under : r.lsn < (page_at b (r ∷ older) p).lsn + 1 = omega (arith, lsn) in
            ap (λ (l : History). page_at b l p) (below_newest ((page_at b (r ∷ older) p).lsn + 1) r older under)
      ]
  | inr other ↦ still (exact b older p up.0) (page_other b r older p other)
]
  where
    still : page_at b (below ((page_at b older p).lsn + 1) older) p ≡ page_at b older p → page_at b (r ∷ older) p ≡ page_at b older p → page_at b (below ((page_at b (r ∷ older) p).lsn + 1) (r ∷ older)) p ≡ page_at b (r ∷ older) p
    still rest e =
        let low : (page_at b older p).lsn ≤ end_of b older = page_lsn_le b older p up.0 in
        let high : end_of b older < r.lsn = up.1 in
        let out : (page_at b older p).lsn + 1 ≤ r.lsn = omega (arith, low, high) in
        ap (λ (g : Page). page_at b (below (g.lsn + 1) (r ∷ older)) p) e
        ∙ ap (λ (l : History). page_at b l p) (below_older ((page_at b older p).lsn + 1) r older out)
        ∙ rest ∙ sym e

-- An Image of a page that has had some of its records is one that a lawful log may have.
pub reaches_exact : (b : Base) (log : History) (m p : ℕ) (g : Page) → Rises b log → Reaches b log m p g → g ≡ page_up_to b log p g.lsn
reaches_exact b log m p g up h = elim (cases_lt b.start h.upto) [
  | inl some ↦
      let f : History = below h.upto log in
      let lsn : g.lsn ≡ (page_at b f p).lsn = ap (λ (x : Page). x.lsn) h.is in
      let low : (page_at b f p).lsn ≤ end_of b f = page_lsn_le b f p (rises_below b h.upto log up) in
      let under : end_of b f < h.upto = end_below b h.upto log some in
      let small : g.lsn + 1 ≤ h.upto = omega (arith, lsn, low, under) in
      h.is
      ∙ sym (exact b f p (rises_below b h.upto log up))
      ∙ ap (λ (l : ℕ). page_at b (below (l + 1) f) p) (sym lsn)
      ∙ ap (λ (x : History). page_at b x p) (below_below (g.lsn + 1) h.upto log small)
  | inr start ↦
      let base : g ≡ b.pages p = h.is ∙ ap (λ (l : History). page_at b l p) (none_below b h.upto log up (omega (arith, start))) in
      let lsn : g.lsn ≡ (b.pages p).lsn = ap (λ (x : Page). x.lsn) base in
      let low : (b.pages p).lsn ≤ b.start = lsns log up in
      base ∙ sym (ap (λ (l : History). page_at b l p) (none_below b (g.lsn + 1) log up (omega (arith, lsn, low))))
]
  where
    lsns : (log : History) → Rises b log → (b.pages p).lsn ≤ b.start
    lsns [] up = up p
    lsns (r ∷ older) up = lsns older up.0

-- ---- one record of redo

-- a page that has had all before the record: it is applied
applied_at : (b : Base) (r : Logged) (f : History) (p : ℕ) → Rises b (r ∷ f) → redo_one r p (page_at b f p) ≡ page_at b (r ∷ f) p
applied_at b r f p up =
    let low : (page_at b f p).lsn < r.lsn =
    let old : (page_at b f p).lsn ≤ end_of b f = page_lsn_le b f p up.0 in let last : end_of b f < r.lsn = up.1 in omega (arith, old, last) in
    elim (r.page == p) as (λ (t : Bool). (if t then (if nat_le r.lsn (page_at b f p).lsn then page_at b f p else page_after r.lsn r.what (page_at b f p)) else page_at b f p) ≡ (if t then page_after r.lsn r.what (page_at b f p) else page_at b f p)) [
      | true ↦ cond-false (nat_le r.lsn (page_at b f p).lsn) (page_at b f p) (page_after r.lsn r.what (page_at b f p)) (lt-leb r.lsn (page_at b f p).lsn low)
      | false ↦ refl
    ]

-- a page that has the record already: it stays, also where the record changes no page
had : (b : Base) (r : Logged) (newer f : History) (p : ℕ) → Rises b (newer ++ r ∷ f) → redo_one r p (page_at b (newer ++ r ∷ f) p) ≡ page_at b (newer ++ r ∷ f) p
had b r newer f p up = elim (cases_eq r.page p) [
  | inl here ↦
      let g : Page = page_at b (newer ++ r ∷ f) p in
      let then_part : redo_one r p g ≡ (if nat_le r.lsn g.lsn then g else page_after r.lsn r.what g) = cond-true (r.page == p) _ _ (eq-eqb r.page p here) in
      then_part ∙ elim (after_lsn r.lsn r.what) [
        | inl same ↦ elim (nat_le r.lsn g.lsn) as (λ (t : Bool). (if t then g else page_after r.lsn r.what g) ≡ g) [ true ↦ refl | false ↦ same g ]
        | inr is ↦
            let at_r : page_at b (r ∷ f) p ≡ page_after r.lsn r.what (page_at b f p) = page_here b r f p here in
            let low : (page_at b (r ∷ f) p).lsn ≤ g.lsn = page_lsn_up b newer (r ∷ f) p up in
            let has : r.lsn ≤ g.lsn = let e : (page_at b (r ∷ f) p).lsn ≡ r.lsn = ap (λ (q : Page). q.lsn) at_r ∙ is (page_at b f p) in omega (arith, e, low) in
            cond-true (nat_le r.lsn g.lsn) g (page_after r.lsn r.what g) (le-leb r.lsn g.lsn has)
      ]
  | inr other ↦ cond-false (r.page == p) _ _ (ne_eqb r.page p other)
]

-- One record more of redo: a page that has had all before it has had it too.
pub reaches_one : (b : Base) (newer : History) (r : Logged) (f : History) (m p : ℕ) (g : Page) → Rises b (newer ++ r ∷ f) → end_of b f < m
    → Reaches b (newer ++ r ∷ f) m p g → Reaches b (newer ++ r ∷ f) (r.lsn + 1) p (redo_one r p g)
reaches_one b newer r f m p g up low h = elim (cases_lt r.lsn h.upto) [
  | inl has ↦
      let found = below_has newer b r f h.upto up has in
      let same : g ≡ page_at b (found.0 ++ r ∷ f) p = h.is ∙ ap (λ (l : History). page_at b l p) found.1 in
      record { upto = h.upto; from = omega (arith, has); is = ap (λ (q : Page). redo_one r p q) same ∙ had b r found.0 f p found.2 ∙ sym same ∙ h.is }
  | inr before ↦
      let past : end_of b f < h.upto = let le : m ≤ h.upto = h.from in omega (arith, low, le) in
      let same : g ≡ page_at b f p = h.is ∙ ap (λ (l : History). page_at b l p) (below_between newer b r f h.upto up past before) in
      let this : below (r.lsn + 1) (newer ++ r ∷ f) ≡ r ∷ f = below_this newer b r f up in
      record { upto = r.lsn + 1; from = omega arith; is = ap (λ (q : Page). redo_one r p q) same ∙ applied_at b r f p (rises_front b newer (r ∷ f) up) ∙ ap (λ (l : History). page_at b l p) (sym this) }
]
  where
    below_this : (newer : History) (b : Base) (r : Logged) (f : History) → Rises b (newer ++ r ∷ f) → below (r.lsn + 1) (newer ++ r ∷ f) ≡ r ∷ f
    below_this [] b r f up = below_newest (r.lsn + 1) r f (let k : r.lsn < r.lsn + 1 = omega arith in k)
    below_this (s ∷ newer) b r f up =
        let rest : r.lsn ≤ end_of b (newer ++ r ∷ f) = newest_after newer b r f up.0 in
        let last : end_of b (newer ++ r ∷ f) < s.lsn = up.1 in
        below_older (r.lsn + 1) s (newer ++ r ∷ f) (omega (arith, rest, last)) ∙ below_this newer b r f up.0

-- After the records from a bound on, the oldest first, each page is that of the whole log, whatever the page was that it began as,
-- if it had had all its records below the bound.
pub redo_reaches : (b : Base) (records : List Logged) (f : History) (m p : ℕ) (g : Page) → Rises b (onto records f) → end_of b f < m
    → Reaches b (onto records f) m p g → redo_all records p g ≡ page_at b (onto records f) p
redo_reaches b [] f m p g up low h = reached_end b f m p g low h
redo_reaches b (r ∷ records) f m p g up low h =
    let (newer, is) = onto_has records (r ∷ f) in
    let up_at : Rises b (newer ++ r ∷ f) = subst (λ (l : History). Rises b l) (sym is) up in
    let one : Reaches b (newer ++ r ∷ f) (r.lsn + 1) p (redo_one r p g) = reaches_one b newer r f m p g up_at low (subst (λ (l : History). Reaches b l m p g) (sym is) h) in
    redo_reaches b records (r ∷ f) (r.lsn + 1) p (redo_one r p g) up (let k : r.lsn < r.lsn + 1 = omega arith in k) (subst (λ (l : History). Reaches b l (r.lsn + 1) p (redo_one r p g)) is one)
  where
    onto_has : (records : List Logged) (f : History) → (newer : History) × (newer ++ f ≡ onto records f)
    onto_has [] f = ([], refl)
    onto_has (s ∷ records) f = let (newer, is) = onto_has records (s ∷ f) in (newer ++ s ∷ [], append_assoc newer (s ∷ []) f ∙ is)
