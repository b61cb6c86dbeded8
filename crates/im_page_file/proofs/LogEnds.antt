-- Where records of a log would end, from call to call.
use Rattle.std.proofs.Common.{◌≡◌, ℕ, zero, suc, ◌+◌, ◌≤◌, Bool, true, false, refl, subst, sym, ◌∙◌, arith}
use Rattle.std.specs.Prelude.{◌^◌, if◌then◌else◌, nat_le, Result, Ok, Err, OnOk}
use Rattle.im_log_gate.specs.Gate.{generation_at}
use Rattle.im_log.specs.declared.log_file.LogFile.{LogFile}
use Rattle.im_log.specs.LogFile.{end_with, next_lsn}
use Rattle.im_page_file.specs.LogEnds.{EndsNoSooner}

end_low : (log : LogFile) (size : ℕ) → next_lsn log + size ≤ end_with log size
end_low log size = elim (nat_le (log.used + size) 16384) as (λ (x : Bool). next_lsn log + size ≤ (if x then next_lsn log + size else next_lsn log + 5 + size)) [
  | true ↦ omega arith
  | false ↦ omega arith
]

end_high : (log : LogFile) (size : ℕ) → end_with log size ≤ next_lsn log + 5 + size
end_high log size = elim (nat_le (log.used + size) 16384) as (λ (x : Bool). (if x then next_lsn log + size else next_lsn log + 5 + size) ≤ next_lsn log + 5 + size) [
  | true ↦ omega arith
  | false ↦ omega arith
]

-- no call
pub ends_same : (log : LogFile) → EndsNoSooner log log
ends_same log = record { each = λ size. omega arith; generation = refl }

-- the same log
pub ends_as : (old new : LogFile) → new ≡ old → EndsNoSooner old new
ends_as old new is = subst (λ (log : LogFile). EndsNoSooner old log) (sym is) (ends_same old)

-- a call after another
pub ends_then : (old mid new : LogFile) → EndsNoSooner old mid → EndsNoSooner mid new → EndsNoSooner old new
ends_then old mid new one two = record {
  each = λ size. (let a : end_with old size ≤ end_with mid size = one.each size in let b : end_with mid size ≤ end_with new size = two.each size in omega (arith, a, b));
  generation = two.generation ∙ one.generation;
}

-- after an Image
pub ends_imaged : (old new : LogFile) → next_lsn new ≡ end_with old 4129 → generation_at new.gate ≡ generation_at old.gate → EndsNoSooner old new
ends_imaged old new is same = record {
  each = λ size.
      let a : end_with old size ≤ next_lsn old + 5 + size = end_high old size in
      let b : next_lsn old + 4129 ≤ end_with old 4129 = end_low old 4129 in
      let c : next_lsn new + size ≤ end_with new size = end_low new size in
      omega (arith, a, b, c, is);
  generation = same;
}

-- after a force
pub ends_forced : (old new : LogFile) → (1 ≤ old.used → next_lsn new ≡ next_lsn old + 5) → (old.used ≡ 0 → new ≡ old) → generation_at new.gate ≡ generation_at old.gate → EndsNoSooner old new
ends_forced old new some none same = by old.used some none
  where
    by : (used : ℕ) → (1 ≤ used → next_lsn new ≡ next_lsn old + 5) → (used ≡ 0 → new ≡ old) → EndsNoSooner old new
    by zero some none = ends_as old new (none refl)
    by (suc n) some none = record {
      each = λ size.
          let a : end_with old size ≤ next_lsn old + 5 + size = end_high old size in
          let b : next_lsn new ≡ next_lsn old + 5 = some (omega arith) in
          let c : next_lsn new + size ≤ end_with new size = end_low new size in
          omega (arith, a, b, c);
      generation = same;
    }

-- what two calls say of the log, of which the second may be refused
pub ends_on : {A E : Type 0} (r : Result A E) (old mid new : LogFile) → EndsNoSooner old mid → OnOk r (EndsNoSooner mid new) → OnOk r (EndsNoSooner old new)
ends_on (Ok a) old mid new one two = ends_then old mid new one two
ends_on (Err e) old mid new one two = tt

-- a record that fits now would have fitted before
pub fitted : (old new : LogFile) (size : ℕ) → EndsNoSooner old new → end_with new size ≤ 2 ^ 62 → end_with old size ≤ 2 ^ 62
fitted old new size one fits = let a : end_with old size ≤ end_with new size = one.each size in omega (arith, a, fits)

pub fitted_on : {A E : Type 0} (r : Result A E) (old new : LogFile) (size : ℕ) → EndsNoSooner old new → OnOk r (end_with new size ≤ 2 ^ 62) → OnOk r (end_with old size ≤ 2 ^ 62)
fitted_on (Ok a) old new size one fits = fitted old new size one fits
fitted_on (Err e) old new size one fits = tt

-- what did not fail works
pub still_working : (failed : Bool) → (failed ≡ true → ⊥) → failed ≡ false
still_working true never = absurd (never refl)
still_working false never = refl
