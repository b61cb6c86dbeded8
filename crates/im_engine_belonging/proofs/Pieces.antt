-- A walk over pieces of a file makes the steps that it makes over the whole file.
use Rattle.std.proofs.Common.{◌≡◌, ◌⊎◌, inl, inr, ℕ, zero, suc, ◌+◌, ◌-◌, ◌<◌, ◌≤◌, ◌==◌, ◌||◌, if◌then◌else◌, true, false, not, List, [], ◌∷◌, ◌++◌, length, slice_index, take, drop, refl, sym, ◌∙◌, ap, subst, arith, length-take}
use Rattle.std.specs.Prelude.{nat_lt}
use Rattle.std.specs.Int.{w32, from_be_bytes}
use Rattle.std.proofs.lemmas.Bool.{cases_Bool, cases_lt, cond-true, cond-false, lt-ltb, le-ltb}
use Rattle.std.proofs.lemmas.List.{drop-take, take-take, drop-drop, drop_all, get_or-take}
use Rattle.im_files_belonging.specs.declared.left_log.LeftLog.{LeftLog}
use Rattle.im_files_belonging.specs.LeftLog.{found_step, gate_step, leaves_batch, over, record_step, says_nothing, step_of, sum, walk_piece}
use Rattle.im_log_gate.specs.Batches.{batch_length}
use Rattle.im_log_gate.proofs.BatchLemmas.{same_length}
use Rattle.im_log_record.specs.Kind.{kind_at}
use Rattle.im_engine_belonging.specs.Walks.{walked}

-- ---- steps by what they look at

-- the number in the first four bytes
abbrev pub number : List ℕ → ℕ
number bytes = from_be_bytes w32 (take 4 bytes)

-- over a record of this size, kind and page
abbrev pub passed : LeftLog → (place kind page : ℕ) → LeftLog
passed l place kind page = if says_nothing l.is_current (kind_at kind) then record l { place = place } else found_step l place page

abbrev pub gate_by : LeftLog → (gate size : ℕ) → LeftLog
gate_by l gate size = if not (gate == 1) || (size == 0) || nat_lt 16384 size then over l else record l { place = sum l.place 5; end = sum (sum l.place 5) size }

abbrev pub record_by : LeftLog → (size kind page : ℕ) → LeftLog
record_by l size kind page = if leaves_batch l size then over l else passed l (sum l.place size) kind page

module _ (l : LeftLog) (bytes : List ℕ) where
  abbrev gated : LeftLog
  gated = if nat_lt (length bytes) 5 then l else gate_step l bytes

  abbrev headed : LeftLog
  headed = if nat_lt (length bytes) 33 then l else record_step l bytes

  abbrev going_on : LeftLog
  going_on = if l.place == l.end then gated else headed

  pub at_over : l.is_over ≡ true → step_of l bytes ≡ l
  at_over is = cond-true l.is_over l going_on is

  module _ (going : l.is_over ≡ false) where
    step_on : step_of l bytes ≡ going_on
    step_on = cond-false l.is_over l going_on going

    module _ (here : (l.place == l.end) ≡ true) where
      pub gate_short : length bytes < 5 → step_of l bytes ≡ l
      gate_short short = step_on ∙ cond-true (l.place == l.end) gated headed here ∙ cond-true (nat_lt (length bytes) 5) l (gate_step l bytes) (lt-ltb (length bytes) 5 short)

      pub at_gate : 5 ≤ length bytes → step_of l bytes ≡ gate_by l (slice_index bytes 0) (batch_length (drop 1 bytes))
      at_gate long = step_on ∙ cond-true (l.place == l.end) gated headed here ∙ cond-false (nat_lt (length bytes) 5) l (gate_step l bytes) (le-ltb (length bytes) 5 long)

    module _ (within : (l.place == l.end) ≡ false) where
      pub head_short : length bytes < 33 → step_of l bytes ≡ l
      head_short short = step_on ∙ cond-false (l.place == l.end) gated headed within ∙ cond-true (nat_lt (length bytes) 33) l (record_step l bytes) (lt-ltb (length bytes) 33 short)

      pub at_head : 33 ≤ length bytes → step_of l bytes ≡ record_by l (number bytes) (slice_index bytes 4) (number (drop 29 bytes))
      at_head long = step_on ∙ cond-false (l.place == l.end) gated headed within ∙ cond-false (nat_lt (length bytes) 33) l (record_step l bytes) (le-ltb (length bytes) 33 long)

-- ---- a piece

-- what lies within a front of the bytes is as it lies in them
pub take_in : (j : ℕ) (bytes : List ℕ) (at n : ℕ) → at + n ≤ j → take n (drop at (take j bytes)) ≡ take n (drop at bytes)
take_in j bytes at n fits = sym (drop-take at n (take j bytes)) ∙ ap (drop at) (take-take (at + n) j bytes fits) ∙ drop-take at n bytes

pub take_none : (bytes : List ℕ) → take 0 bytes ≡ []
take_none [] = refl
take_none (byte ∷ bytes) = refl

pub drop_taken : (d k : ℕ) (bytes : List ℕ) → drop d (take k bytes) ≡ take (k - d) (drop d bytes)
drop_taken d k bytes = elim (cases_lt k d) [
  | inl past ↦ (
      let none : k - d ≡ 0 = omega (arith, past) in
      drop_all d (take k bytes) (omega (arith, past, length-take k bytes)) ∙ sym (ap (λ (n : ℕ). take n (drop d bytes)) none ∙ take_none (drop d bytes)))
  | inr low ↦ (
      let parts : k ≡ d + (k - d) = omega (arith, low) in
      ap (λ (n : ℕ). drop d (take n bytes)) parts ∙ drop-take d (k - d) bytes)
]

module _ (l : LeftLog) (j : ℕ) (bytes : List ℕ) where
  abbrev pub Either : Type 0
  Either = (step_of l (take j bytes) ≡ l) ⊎ (step_of l (take j bytes) ≡ step_of l bytes)

  -- A front of the bytes leads a step on as they do, or not at all.
  pub short : Either
  short = elim (cases_Bool l.is_over) [
    | inl is ↦ inl (at_over l (take j bytes) is)
    | inr going ↦ elim (cases_Bool (l.place == l.end)) [
      | inl here ↦ elim (cases_lt (length (take j bytes)) 5) [
        | inl few ↦ inl (gate_short l (take j bytes) going here few)
        | inr long ↦ (
            let few : 5 ≤ j = omega (arith, long, length-take j bytes) in
            inr (at_gate l (take j bytes) going here long
            ∙ ap (λ (g : ℕ). gate_by l g (batch_length (drop 1 (take j bytes)))) (get_or-take j bytes 0 0 (omega (arith, few)))
            ∙ same_size few
            ∙ sym (at_gate l bytes going here (omega (arith, long, length-take j bytes)))))
      ]
      | inr within ↦ elim (cases_lt (length (take j bytes)) 33) [
        | inl few ↦ inl (head_short l (take j bytes) going within few)
        | inr long ↦ (
            let few : 33 ≤ j = omega (arith, long, length-take j bytes) in
            inr (at_head l (take j bytes) going within long
            ∙ same_head few
            ∙ sym (at_head l bytes going within (omega (arith, long, length-take j bytes)))))
      ]
    ]
  ]
    where
      number_in : (at : ℕ) → at + 4 ≤ j → number (drop at (take j bytes)) ≡ number (drop at bytes)
      number_in at fits = ap (λ (four : List ℕ). from_be_bytes w32 four) (take_in j bytes at 4 fits)

      same_size : 5 ≤ j → gate_by l (slice_index bytes 0) (batch_length (drop 1 (take j bytes))) ≡ gate_by l (slice_index bytes 0) (batch_length (drop 1 bytes))
      same_size few = ap (λ (n : ℕ). gate_by l (slice_index bytes 0) n) (same_length (drop 1 (take j bytes)) (drop 1 bytes) (take_in j bytes 1 4 (omega (arith, few))))

      same_head : 33 ≤ j → record_by l (number (take j bytes)) (slice_index (take j bytes) 4) (number (drop 29 (take j bytes))) ≡ record_by l (number bytes) (slice_index bytes 4) (number (drop 29 bytes))
      same_head few =
          ap (λ (n : ℕ). record_by l n (slice_index (take j bytes) 4) (number (drop 29 (take j bytes)))) (ap (λ (four : List ℕ). from_be_bytes w32 four) (take-take 4 j bytes (omega (arith, few))))
          ∙ ap (λ (k : ℕ). record_by l (number bytes) k (number (drop 29 (take j bytes)))) (get_or-take j bytes 4 0 (omega (arith, few)))
          ∙ ap (λ (p : ℕ). record_by l (number bytes) (slice_index bytes 4) p) (number_in 29 (omega (arith, few)))

-- ---- what each step keeps

module _ (file : List ℕ) (P : LeftLog → Type 0) (goes : (l : LeftLog) → P l → P (step_of l (drop l.place file))) (up : (l : LeftLog) → P l → l.place ≤ (step_of l (drop l.place file)).place) where
  record On (start : ℕ) (l : LeftLog) : Type 0 where
    holds : P l
    from : start ≤ l.place

  on_step : (start : ℕ) (l : LeftLog) → On start l → On start (step_of l (drop l.place file))
  on_step start l on = record { holds = goes l on.holds; from = (let low = on.from in let higher = up l on.holds in omega (arith, low, higher)) }

  in_piece : (start k : ℕ) (l : LeftLog) → On start l → On start (step_of l (drop (l.place - start) (take k (drop start file))))
  in_piece start k l on =
      let low = on.from in
      let at : start + (l.place - start) ≡ l.place = omega (arith, low) in
      let cut : drop (l.place - start) (take k (drop start file)) ≡ take (k - (l.place - start)) (drop l.place file) =
      drop_taken (l.place - start) k (drop start file)
      ∙ ap (λ (rest : List ℕ). take (k - (l.place - start)) rest) (drop-drop (l.place - start) start file ∙ ap (λ (n : ℕ). drop n file) at)
      in
      subst (λ (bytes : List ℕ). On start (step_of l bytes)) (sym cut) (by (short l (k - (l.place - start)) (drop l.place file)))
    where
      by : (step_of l (take (k - (l.place - start)) (drop l.place file)) ≡ l) ⊎ (step_of l (take (k - (l.place - start)) (drop l.place file)) ≡ step_of l (drop l.place file))
          → On start (step_of l (take (k - (l.place - start)) (drop l.place file)))
      by (inl same) = subst (On start) (sym same) on
      by (inr same) = subst (On start) (sym same) (on_step start l on)

  walk_on : (n start k : ℕ) (l : LeftLog) → On start l → On start (walk_piece n start (take k (drop start file)) l)
  walk_on zero start k l on = on
  walk_on (suc n) start k l on = in_piece start k (walk_piece n start (take k (drop start file)) l) (walk_on n start k l on)

  pub walked_on : (sizes : List ℕ) (l : LeftLog) → P l → P (walked sizes file l)
  walked_on [] l p = p
  walked_on (n ∷ sizes) l p =
      walked_on sizes (walk_piece (length (take n (drop l.place file))) l.place (take n (drop l.place file)) l)
      (walk_on (length (take n (drop l.place file))) l.place n l (record { holds = p; from = omega arith })).holds

-- ---- a file whose end was cut off

none_taken : (n : ℕ) (none : List ℕ) → none ≡ [] → take n none ≡ []
none_taken zero none is = ap (take 0) is
none_taken (suc n) none is = ap (take (suc n)) is

-- a piece of a front is one of the whole
piece_of : (n p : ℕ) (file cut : List ℕ) → take (length (take n (drop p file))) (drop p (file ++ cut)) ≡ take n (drop p file)
piece_of zero zero [] cut = take_none cut
piece_of (suc n) zero [] cut = take_none cut
piece_of zero zero (byte ∷ file) cut = refl
piece_of (suc n) zero (byte ∷ file) cut = ap (λ (l : List ℕ). byte ∷ l) (piece_of n zero file cut)
piece_of n (suc p) [] cut = rw (none_taken n [] refl) (take_none (drop (suc p) cut))
piece_of n (suc p) (byte ∷ file) cut = piece_of n p file cut

-- A walk over a front is one over the whole.
pub walked_cut : (file cut sizes : List ℕ) (l : LeftLog) → (longer : List ℕ) × (walked sizes file l ≡ walked longer (file ++ cut) l)
walked_cut file cut [] l = ([], refl)
walked_cut file cut (n ∷ sizes) l =
    let piece = take n (drop l.place file) in
    let rest = walked_cut file cut sizes (walk_piece (length piece) l.place piece l) in
    (length piece ∷ rest.0, rest.1 ∙ ap (λ (bytes : List ℕ). walked rest.0 (file ++ cut) (walk_piece (length bytes) l.place bytes l)) (sym (piece_of n l.place file cut)))
