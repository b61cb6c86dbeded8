-- Fronts of a history, the records below a bound, and the pages that follow.
use Rattle.std.proofs.Common.{◌≡◌, ◌⊎◌, inl, inr, ℕ, ◌+◌, ◌<◌, ◌≤◌, [], ◌∷◌, ◌++◌, Bool, true, false, refl, sym, ◌∙◌, ap, subst, arith, append_assoc}
use Rattle.std.specs.Prelude.{if◌then◌else◌, ◌==◌, nat_lt}
use Rattle.std.proofs.lemmas.Bool.{cases_eq, cases_lt, eq-eqb, ne_eqb, cond-true, cond-false, lt-ltb, le-ltb}
use Rattle.im_theory_log.specs.Histories.{Base, History, IsFront, Rises, below, changes_page, end_of, page_after, page_at}
use Rattle.im_base_types.specs.Pages.{Page}
use Rattle.im_base_types.specs.Records.{Checkpoint, Commit, DeleteKey, DummyClr, End, Image, InsertKey, Logged, Smo, UndoDelete, UndoInsert, UndoSmo, Unreadable, What}

-- ---- fronts

pub front_self : (log : History) → IsFront log log
front_self log = record { newer = []; is = refl }

pub front_more : (f log : History) (r : Logged) → IsFront f log → IsFront f (r ∷ log)
front_more f log r h = record { newer = r ∷ h.newer; is = ap (λ (l : History). r ∷ l) h.is }

pub front_of_front : (f g log : History) → IsFront f g → IsFront g log → IsFront f log
front_of_front f g log x y = record { newer = y.newer ++ x.newer; is = append_assoc y.newer x.newer f ∙ ap (λ (l : History). y.newer ++ l) x.is ∙ y.is }

-- what holds of each tail holds of each front
pub at_front : (P : History → Type 0) → ((r : Logged) (older : History) → P (r ∷ older) → P older) → (f log : History) → IsFront f log → P log → P f
at_front P tail f log h is = down h.newer (subst P (sym h.is) is)
  where
    down : (newer : History) → P (newer ++ f) → P f
    down [] p = p
    down (r ∷ newer) p = down newer (tail r (newer ++ f) p)

-- ---- LSNs

pub rises_front : (b : Base) (newer f : History) → Rises b (newer ++ f) → Rises b f
rises_front b [] f up = up
rises_front b (r ∷ newer) f up = rises_front b newer f up.0

pub rises_in : (b : Base) (f log : History) → IsFront f log → Rises b log → Rises b f
rises_in b f log h up = at_front (λ (l : History). Rises b l) (λ r older up. up.0) f log h up

-- no history ends before its base
pub start_low : (b : Base) (log : History) → Rises b log → b.start ≤ end_of b log
start_low b [] up = omega arith
start_low b (r ∷ older) up = let low : b.start ≤ end_of b older = start_low b older up.0 in let last : end_of b older < r.lsn = up.1 in omega (arith, low, last)

pub end_front : (b : Base) (newer f : History) → Rises b (newer ++ f) → end_of b f ≤ end_of b (newer ++ f)
end_front b [] f up = omega arith
end_front b (r ∷ newer) f up = let rest : end_of b f ≤ end_of b (newer ++ f) = end_front b newer f up.0 in let last : end_of b (newer ++ f) < r.lsn = up.1 in omega (arith, rest, last)

-- a front ends no later
pub end_le : (b : Base) (f log : History) → Rises b log → IsFront f log → end_of b f ≤ end_of b log
end_le b f log up h = subst (λ (l : History). end_of b f ≤ end_of b l) h.is (end_front b h.newer f (subst (λ (l : History). Rises b l) (sym h.is) up))

-- the newest of a longer history comes after r, or is r
pub newest_after : (newer : History) (b : Base) (r : Logged) (f : History) → Rises b (newer ++ r ∷ f) → r.lsn ≤ end_of b (newer ++ r ∷ f)
newest_after newer b r f up = end_front b newer (r ∷ f) up

-- ---- the records below a bound

pub below_older : (l : ℕ) (r : Logged) (older : History) → l ≤ r.lsn → below l (r ∷ older) ≡ below l older
below_older l r older le = cond-false (nat_lt r.lsn l) (r ∷ older) (below l older) (le-ltb r.lsn l le)

pub below_newest : (l : ℕ) (r : Logged) (older : History) → r.lsn < l → below l (r ∷ older) ≡ r ∷ older
below_newest l r older lt = cond-true (nat_lt r.lsn l) (r ∷ older) (below l older) (lt-ltb r.lsn l lt)

-- a bound past the end takes all
pub whole_below : (b : Base) (l : ℕ) (f : History) → end_of b f < l → below l f ≡ f
whole_below b l [] low = refl
whole_below b l (r ∷ f) low = below_newest l r f low

-- a bound at the start takes none
pub none_below : (b : Base) (l : ℕ) (f : History) → Rises b f → l ≤ b.start + 1 → below l f ≡ []
none_below b l [] up le = refl
none_below b l (r ∷ f) up le =
    let low : b.start ≤ end_of b f = start_low b f up.0 in let last : end_of b f < r.lsn = up.1 in
    below_older l r f (omega (arith, low, last, le)) ∙ none_below b l f up.0 le

-- a bound between two records takes up to the older one
pub below_between : (newer : History) (b : Base) (r : Logged) (f : History) (l : ℕ) → Rises b (newer ++ r ∷ f) → end_of b f < l → l ≤ r.lsn → below l (newer ++ r ∷ f) ≡ f
below_between [] b r f l up low high = below_older l r f high ∙ whole_below b l f low
below_between (s ∷ newer) b r f l up low high =
    let rest : r.lsn ≤ end_of b (newer ++ r ∷ f) = newest_after newer b r f up.0 in
    let last : end_of b (newer ++ r ∷ f) < s.lsn = up.1 in
    below_older l s (newer ++ r ∷ f) (omega (arith, rest, last, high)) ∙ below_between newer b r f l up.0 low high

-- a bound past a record takes that record
pub below_has : (newer : History) (b : Base) (r : Logged) (f : History) (l : ℕ) → Rises b (newer ++ r ∷ f) → r.lsn < l → (some : History) × (below l (newer ++ r ∷ f) ≡ some ++ r ∷ f) × Rises b (some ++ r ∷ f)
below_has [] b r f l up low = ([], below_newest l r f low, up)
below_has (s ∷ newer) b r f l up low = elim (cases_lt s.lsn l) [
  | inl under ↦ (s ∷ newer, below_newest l s (newer ++ r ∷ f) under, up)
  | inr over ↦
      let (some, is, rises) = below_has newer b r f l up.0 low in
      (some, below_older l s (newer ++ r ∷ f) over ∙ is, rises)
]

pub below_below : (n m : ℕ) (log : History) → n ≤ m → below n (below m log) ≡ below n log
below_below n m [] le = refl
below_below n m (r ∷ older) le = elim (cases_lt r.lsn m) [
  | inl under ↦ ap (λ (l : History). below n l) (below_newest m r older under)
  | inr over ↦
      let out : n ≤ r.lsn = omega (arith, over, le) in
      ap (λ (l : History). below n l) (below_older m r older over) ∙ below_below n m older le ∙ sym (below_older n r older out)
]

pub rises_below : (b : Base) (n : ℕ) (log : History) → Rises b log → Rises b (below n log)
rises_below b n [] up = up
rises_below b n (r ∷ older) up = elim (nat_lt r.lsn n) as (λ (x : Bool). Rises b (if x then r ∷ older else below n older)) [ true ↦ up | false ↦ rises_below b n older up.0 ]

-- what is below a bound past the start ends below it
pub end_below : (b : Base) (n : ℕ) (log : History) → b.start < n → end_of b (below n log) < n
end_below b n [] some = some
end_below b n (r ∷ older) some = elim (cases_lt r.lsn n) [
  | inl under ↦ subst (λ (f : History). end_of b f < n) (sym (below_newest n r older under)) under
  | inr over ↦ subst (λ (f : History). end_of b f < n) (sym (below_older n r older over)) (end_below b n older some)
]

-- ---- pages

-- a record of the page, and one of another
pub page_here : (b : Base) (r : Logged) (older : History) (p : ℕ) → r.page ≡ p → page_at b (r ∷ older) p ≡ page_after r.lsn r.what (page_at b older p)
page_here b r older p here = cond-true (r.page == p) (page_after r.lsn r.what (page_at b older p)) (page_at b older p) (eq-eqb r.page p here)

pub page_other : (b : Base) (r : Logged) (older : History) (p : ℕ) → (r.page ≡ p → ⊥) → page_at b (r ∷ older) p ≡ page_at b older p
page_other b r older p other = cond-false (r.page == p) (page_after r.lsn r.what (page_at b older p)) (page_at b older p) (ne_eqb r.page p other)

-- a record that changes no page leaves each page
pub page_same : (b : Base) (r : Logged) (older : History) → ((p : Page) → page_after r.lsn r.what p ≡ p) → (p : ℕ) → page_at b (r ∷ older) p ≡ page_at b older p
page_same b r older same p = elim (cases_eq r.page p) [
  | inl here ↦ page_here b r older p here ∙ same (page_at b older p)
  | inr other ↦ page_other b r older p other
]

-- a record leaves its page as it was, or gives it its own LSN
pub after_lsn : (l : ℕ) (w : What) → ((g : Page) → page_after l w g ≡ g) ⊎ ((g : Page) → (page_after l w g).lsn ≡ l)
after_lsn l (InsertKey k i) = inr (λ g. refl)
after_lsn l (DeleteKey k i) = inr (λ g. refl)
after_lsn l (UndoInsert k i) = inr (λ g. refl)
after_lsn l (UndoDelete k i) = inr (λ g. refl)
after_lsn l (Smo old new) = inr (λ g. refl)
after_lsn l (UndoSmo new) = inr (λ g. refl)
after_lsn l DummyClr = inl (λ g. refl)
after_lsn l Commit = inl (λ g. refl)
after_lsn l End = inl (λ g. refl)
after_lsn l (Image c) = inl (λ g. refl)
after_lsn l (Checkpoint n a d) = inl (λ g. refl)
after_lsn l Unreadable = inl (λ g. refl)

-- a kind that changes no page
pub no_change : (l : ℕ) (w : What) (g : Page) → changes_page w ≡ false → page_after l w g ≡ g
no_change l (InsertKey k i) g is = absurd (cc is)
no_change l (DeleteKey k i) g is = absurd (cc is)
no_change l (UndoInsert k i) g is = absurd (cc is)
no_change l (UndoDelete k i) g is = absurd (cc is)
no_change l (Smo old new) g is = absurd (cc is)
no_change l (UndoSmo new) g is = absurd (cc is)
no_change l DummyClr g is = refl
no_change l Commit g is = refl
no_change l End g is = refl
no_change l (Image c) g is = refl
no_change l (Checkpoint n a d) g is = refl
no_change l Unreadable g is = refl

-- a page's LSN is none after the log's end
pub page_lsn_le : (b : Base) (log : History) (p : ℕ) → Rises b log → (page_at b log p).lsn ≤ end_of b log
page_lsn_le b [] p up = up p
page_lsn_le b (r ∷ older) p up =
    let old : (page_at b older p).lsn ≤ end_of b older = page_lsn_le b older p up.0 in
    let last : end_of b older < r.lsn = up.1 in
    elim (cases_eq r.page p) [
      | inl here ↦
          let is : (page_at b (r ∷ older) p).lsn ≡ (page_after r.lsn r.what (page_at b older p)).lsn = ap (λ (g : Page). g.lsn) (page_here b r older p here) in
          elim (after_lsn r.lsn r.what) [
            | inl same ↦ let e : (page_after r.lsn r.what (page_at b older p)).lsn ≡ (page_at b older p).lsn = ap (λ (g : Page). g.lsn) (same (page_at b older p)) in omega (arith, is, e, old, last)
            | inr new ↦ let e : (page_after r.lsn r.what (page_at b older p)).lsn ≡ r.lsn = new (page_at b older p) in omega (arith, is, e)
          ]
      | inr other ↦ let e : (page_at b (r ∷ older) p).lsn ≡ (page_at b older p).lsn = ap (λ (g : Page). g.lsn) (page_other b r older p other) in omega (arith, e, old, last)
    ]

-- a page's LSN does not fall
pub page_lsn_up : (b : Base) (newer f : History) (p : ℕ) → Rises b (newer ++ f) → (page_at b f p).lsn ≤ (page_at b (newer ++ f) p).lsn
page_lsn_up b [] f p up = omega arith
page_lsn_up b (r ∷ newer) f p up =
    let rest : (page_at b f p).lsn ≤ (page_at b (newer ++ f) p).lsn = page_lsn_up b newer f p up.0 in
    let within : (page_at b (newer ++ f) p).lsn ≤ end_of b (newer ++ f) = page_lsn_le b (newer ++ f) p up.0 in
    let last : end_of b (newer ++ f) < r.lsn = up.1 in
    elim (cases_eq r.page p) [
      | inl here ↦
          let is : (page_at b (r ∷ newer ++ f) p).lsn ≡ (page_after r.lsn r.what (page_at b (newer ++ f) p)).lsn = ap (λ (g : Page). g.lsn) (page_here b r (newer ++ f) p here) in
          elim (after_lsn r.lsn r.what) [
            | inl same ↦ let e : (page_after r.lsn r.what (page_at b (newer ++ f) p)).lsn ≡ (page_at b (newer ++ f) p).lsn = ap (λ (g : Page). g.lsn) (same (page_at b (newer ++ f) p)) in omega (arith, is, e, rest)
            | inr new ↦ let e : (page_after r.lsn r.what (page_at b (newer ++ f) p)).lsn ≡ r.lsn = new (page_at b (newer ++ f) p) in omega (arith, is, e, rest, within, last)
          ]
      | inr other ↦ let e : (page_at b (r ∷ newer ++ f) p).lsn ≡ (page_at b (newer ++ f) p).lsn = ap (λ (g : Page). g.lsn) (page_other b r (newer ++ f) p other) in omega (arith, e, rest)
    ]
