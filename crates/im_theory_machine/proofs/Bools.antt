-- Tests, and tests joined by "and" and "or".
use Rattle.std.proofs.Common.{◌≡◌, ◌≢◌, ℕ, nat_eq, Bool, true, false, not, ◌&&◌, ◌||◌, refl, sym, ◌⊎◌, inl, inr, eqb-true, eq-eqb}

pub or_assoc : (a b c : Bool) → ((a || b) || c) ≡ (a || (b || c))
or_assoc true b c = refl
or_assoc false b c = refl

pub or_false : (a : Bool) → (a || false) ≡ a
or_false true = refl
or_false false = refl

pub or_true : (a b : Bool) → b ≡ true → (a || b) ≡ true
or_true true b h = refl
or_true false b h = h

pub and_true : (a b : Bool) → a ≡ true → b ≡ true → (a && b) ≡ true
and_true true b h k = k
and_true false b h k = cc

pub first_of_or : (a b : Bool) → (a || b) ≡ false → a ≡ false
first_of_or true b h = h
first_of_or false b h = refl

pub second_of_or : (a b : Bool) → (a || b) ≡ false → b ≡ false
second_of_or true b h = cc
second_of_or false b h = h

pub neither : (a b : Bool) → a ≡ false → b ≡ false → (a || b) ≡ false
neither true b h k = cc
neither false b h k = k

pub either : (a b : Bool) → (a || b) ≡ true → (a ≡ true) ⊎ (b ≡ true)
either true b h = inl refl
either false b h = inr h

pub first_of_and : (a b : Bool) → (a && b) ≡ true → a ≡ true
first_of_and true b h = refl
first_of_and false b h = h

pub second_of_and : (a b : Bool) → (a && b) ≡ true → b ≡ true
second_of_and true b h = h
second_of_and false b h = cc

pub cases_test : (b : Bool) → (b ≡ true) ⊎ (b ≡ false)
cases_test true = inl refl
cases_test false = inr refl

pub false_unless : (a : Bool) → (a ≡ true → ⊥) → a ≡ false
false_unless true h = absurd (h refl)
false_unless false h = refl

pub not_true : (a : Bool) → not a ≡ true → a ≡ false
not_true true h = cc
not_true false h = refl

pub not_false : (a : Bool) → not a ≡ false → a ≡ true
not_false true h = refl
not_false false h = cc

pub and_not_false : (a x : Bool) → x ≡ false → (a && not x) ≡ a
and_not_false true true h = cc
and_not_false true false h = refl
and_not_false false x h = refl

-- taken out again, where it was not there before
pub or_and_not : (a x : Bool) → (x ≡ true → a ≡ false) → ((a || x) && not x) ≡ a
or_and_not true true h = sym (h refl)
or_and_not true false h = refl
or_and_not false true h = refl
or_and_not false false h = refl

-- the second of three comes last
pub last_of_three : (a x k : Bool) → ((a || x) || k) ≡ ((a || k) || x)
last_of_three true x k = refl
last_of_three false true true = refl
last_of_three false true false = refl
last_of_three false false true = refl
last_of_three false false false = refl

-- the second of three says nothing more
pub covered : (a x k : Bool) → (x ≡ true → k ≡ true) → ((a || x) || k) ≡ (a || k)
covered true x k h = refl
covered false true k h = sym (h refl)
covered false false k h = refl

pub turned_or : (a b : Bool) → (a || b) ≡ (b || a)
turned_or true true = refl
turned_or true false = refl
turned_or false true = refl
turned_or false false = refl

-- one element less: b says that it is dropped, c that it passes, x that what is dropped passes
pub dropped_and_not : (c x a : Bool) → c ≡ x → (a && not x) ≡ ((c || a) && not x)
dropped_and_not true true true h = refl
dropped_and_not true true false h = refl
dropped_and_not true false a h = cc
dropped_and_not false true a h = cc
dropped_and_not false false a h = refl

pub kept_and_not : (c x a : Bool) → (x ≡ true → c ≡ false) → (c || (a && not x)) ≡ ((c || a) && not x)
kept_and_not true true a h = absurd (let e : true ≡ false = h refl in cc)
kept_and_not true false a h = refl
kept_and_not false x a h = refl

-- two numbers are equal or not
pub cases_number : (s t : ℕ) → (s ≡ t) ⊎ (s ≢ t)
cases_number s t = go (nat_eq s t) refl
  where
    go : (b : Bool) → nat_eq s t ≡ b → (s ≡ t) ⊎ (s ≢ t)
    go true e = inl (eqb-true s t e)
    go false e = inr (λ q. let f = eq-eqb s t q in absurd cc)
