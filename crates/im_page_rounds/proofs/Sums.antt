-- Entries and counts after a round.
use Rattle.std.proofs.Common.{◌≡◌, ◌≢◌, inl, inr, ℕ, ◌+◌, ◌≤◌, List, [], ◌∷◌, Bool, true, false, Option, Some, refl, sym, ◌∙◌, ap, arith}
use Rattle.std.specs.Prelude.{if◌then◌else◌, ◌==◌, ◌||◌}
use Rattle.std.proofs.lemmas.Bool.{cases_eq, eq-eqb, ne_eqb}
use Rattle.im_base_types.specs.Pages.{Page}
use Rattle.im_base_types.specs.Records.{Logged}
use Rattle.im_theory_log.specs.Copies.{redo_one}
use Rattle.im_theory_log.specs.Writer.{DirtyEntry}
use Rattle.im_theory_log.specs.WriterSteps.{applies, at_point, is_copied}
use Rattle.im_page_table.specs.KnownCopies.{redone_as}
use Rattle.im_page_rounds.specs.Rounds.{EachOnce, applied_to, CountsAdd, EntriesFollow, redone_all, sum_over, times}

twice_known : (k c : Bool) → (k || (k || c)) ≡ (k || c)
twice_known true c = refl
twice_known false c = refl

-- only a record of the page is applied to it
applied_here : (r : Logged) (p : ℕ) (g : Page) → applies r p g ≡ true → r.page ≡ p
applied_here r p g is = elim (cases_eq r.page p) [
  | inl e ↦ e
  | inr ne ↦ (let not_it : applies r p g ≡ false = rw (ne_eqb r.page p ne) refl in let never : true ≡ false = sym is ∙ not_it in absurd (cc never))
]

applied_not : (r : Logged) (p : ℕ) (g : Page) → r.page ≢ p → applies r p g ≡ false
applied_not r p g ne = rw (ne_eqb r.page p ne) refl

both : (b : Bool) (x y z : Option DirtyEntry) → x ≡ z → y ≡ z → (if b then x else y) ≡ z
both true x y z is other = is
both false x y z is other = other

-- one step more, by whether the record is applied
entry_then : (kr kp a : Bool) (n point : ℕ) (e last : Option DirtyEntry) → (a ≡ true → kr ≡ kp)
    → last ≡ (if n == 0 then (if a then Some (at_point (kr || is_copied e) point) else e) else Some (at_point (kp || is_copied (if a then Some (at_point (kr || is_copied e) point) else e)) point))
    → last ≡ (if (if a then 1 else 0) + n == 0 then e else Some (at_point (kp || is_copied e) point))
entry_then kr kp false n point e last same is =
    let plain : n ≡ 0 + n = omega arith in
    is ∙ ap (λ (m : ℕ). if m == 0 then e else Some (at_point (kp || is_copied e) point)) plain
entry_then kr kp true n point e last same is =
    is
    ∙ both (n == 0) (Some (at_point (kr || is_copied e) point)) (Some (at_point (kp || (kr || is_copied e)) point)) (Some (at_point (kp || is_copied e) point))
    (ap (λ (k : Bool). Some (at_point (k || is_copied e) point)) (same refl))
    (ap (λ (k : Bool). Some (at_point (kp || (k || is_copied e)) point)) (same refl) ∙ ap (λ (k : Bool). Some (at_point k point)) (twice_known kp (is_copied e)))
    ∙ sym (ap (λ (b : Bool). if b then e else Some (at_point (kp || is_copied e) point)) (ne_eqb (1 + n) 0 (λ q. absurd (omega arith))))

pub entries_follow : EntriesFollow
entries_follow known [] s p = refl
entries_follow known (r ∷ rs) s p =
    entry_then (known r.page) (known p) (applies r p ((s.pages p).page)) (applied_to rs p (redo_one r p ((s.pages p).page))) s.point ((s.pages p).entry) (((redone_all known (r ∷ rs) s).pages p).entry)
    (λ is. ap known (applied_here r p ((s.pages p).page) is))
    (entries_follow known rs (redone_as (known r.page) r s) p)

sum_add : (ps : List ℕ) (f g : ℕ → ℕ) → sum_over ps (λ p. f p + g p) ≡ sum_over ps f + sum_over ps g
sum_add [] f g = refl
sum_add (p ∷ ps) f g = let rest = sum_add ps f g in omega (arith, rest)

sum_none : (ps : List ℕ) (f : ℕ → ℕ) (q : ℕ) → times q ps ≡ 0 → ((p : ℕ) → q ≢ p → f p ≡ 0) → sum_over ps f ≡ 0
sum_none [] f q none zero = refl
sum_none (p ∷ ps) f q none zero =
    let differ : q ≢ p = λ e. let one : times q (p ∷ ps) ≡ 1 + times q ps = ap (λ (b : Bool). (if b then 1 else 0) + times q ps) (eq-eqb q p e) in absurd (omega arith) in
    let here = zero p differ in
    let step : times q (p ∷ ps) ≡ 0 + times q ps = ap (λ (b : Bool). (if b then 1 else 0) + times q ps) (ne_eqb q p differ) in
    let rest_none : times q ps ≡ 0 = omega (arith, step, none) in
    let rest = sum_none ps f q rest_none zero in
    omega (arith, here, rest)

sum_one : (ps : List ℕ) (f : ℕ → ℕ) (q : ℕ) → EachOnce ps → 1 ≤ times q ps → ((p : ℕ) → q ≢ p → f p ≡ 0) → sum_over ps f ≡ f q
sum_one [] f q each some zero = absurd (omega arith)
sum_one (p ∷ ps) f q each some zero = elim (cases_eq q p) [
  | inl is ↦ (let none : times q ps ≡ 0 = ap (λ (n : ℕ). times n ps) is ∙ each.0 in let rest = sum_none ps f q none zero in let here : f q ≡ f p = ap f is in omega (arith, rest, here))
  | inr differ ↦
      (let step : times q (p ∷ ps) ≡ 0 + times q ps = ap (λ (b : Bool). (if b then 1 else 0) + times q ps) (ne_eqb q p differ) in
      let more : 1 ≤ times q ps = omega (arith, step, some) in
      let here = zero p differ in
      let rest = sum_one ps f q each.1 more zero in
      omega (arith, here, rest))
]

all_none : (ps : List ℕ) → sum_over ps (λ p. 0) ≡ 0
all_none [] = refl
all_none (p ∷ ps) = let rest = all_none ps in omega (arith, rest)

pub counts_add : CountsAdd
counts_add ps [] pages each of = all_none ps
counts_add ps (r ∷ rs) pages each of =
    sum_add ps (λ p. if applies r p (pages p) then 1 else 0) (λ p. applied_to rs p (redo_one r p (pages p)))
    ∙ ap (λ (n : ℕ). n + sum_over ps (λ p. applied_to rs p (redo_one r p (pages p)))) (sum_one ps (λ p. if applies r p (pages p) then 1 else 0) r.page each of.0 (λ p ne. ap (λ (b : Bool). if b then 1 else 0) (applied_not r p (pages p) ne)))
    ∙ ap (λ (n : ℕ). (if applies r r.page (pages r.page) then 1 else 0) + n) (counts_add ps rs (λ q. redo_one r q (pages q)) each of.1)
