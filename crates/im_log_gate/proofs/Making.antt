-- The first gate of a log file, and a new log of the second format.
use Rattle.std.proofs.Common.{◌≡◌, ◌≢◌, inl, inr, ℕ, ◌<◌, List, [], ◌++◌, length, take, slice_index, Option, Some, None, refl, sym, ◌∙◌, ap, subst, arith, drop_at, length-take-le}
use Rattle.im_log_gate.proofs.BatchLemmas.{from_drop}
use Rattle.im_log_gate.proofs.Switching.{made, says, empty}
use Rattle.im_log_gate.proofs.Places.{reaches_by}
use Rattle.im_log_header.specs.declared.header.Header.{Header}
use Rattle.im_log_header.specs.Header.{IsBeingMade, IsEmptyLog}
use Rattle.im_log_header.specs.Start.{IsHeader}
use Rattle.im_log_gate.specs.Batches.{in_front, batches_from, batches, Reaches}
use Rattle.im_log_gate.specs.Header.{first_gate, IsUnmade, IsMade, IsBlank, IsNewLog, Says}

in_front-nil : (bs : Option (List (List ℕ))) → bs ≡ in_front [] bs
in_front-nil None = refl
in_front-nil (Some bs) = refl

-- the first gate of a file that has one
pub first_reaches : (first : ℕ) (file : List ℕ) → first < length file → Reaches first file first
first_reaches first file within =
    reaches_by first file first [] within (omega arith) (λ rest. from_drop first (take first file ++ rest) ∙ ap (batches_from 0) (drop_at (take first file) rest first (length-take-le first file (omega (arith, within)))) ∙ in_front-nil (batches_from 0 rest))

-- the header of a new log
abbrev new_header : Header
new_header = record { generation = 1; base = 0; next = 1 }

ranged : IsHeader new_header
ranged = record { some = omega arith; last = omega arith; low = omega arith; numbered = omega arith }

module _ (file : List ℕ) (is : IsEmptyLog 1 0 1 file) where
  new_says : Says 47 1 0 1 file
  new_says = says new_header file ranged (omega arith) (omega arith) is

  new_made : IsMade file
  new_made = made new_header file ranged (omega arith) (omega arith) is

  new_empty : batches (first_gate file) file ≡ Some []
  new_empty = empty new_header file ranged (omega arith) (omega arith) is

  new_reaches : Reaches (first_gate file) file (first_gate file)
  new_reaches = let m = new_made in first_reaches (first_gate file) file m.within

  new_closed : slice_index file (first_gate file) ≢ 1
  new_closed one =
      let s = new_says in
      let at : slice_index file 47 ≡ 0 = ap (λ (l : List ℕ). slice_index l 47) is.1 in
      let clash : slice_index file 47 ≡ 1 = sym (ap (λ (n : ℕ). slice_index file n) s.gate) ∙ one in
      omega (arith, at, clash)

  pub new_log : IsNewLog file
  new_log = record { made = new_made; empty = new_empty; says = new_says; reaches = new_reaches; closed = new_closed }

  pub new_blank : IsBlank file
  new_blank = inr (new_made, new_empty, new_says)

-- while it is made of a file that was none
pub being_made : (file c : List ℕ) → IsUnmade file → IsBeingMade file 1 0 1 c → IsBlank c
being_made file c none (inl same) = inl (subst IsUnmade (sym same) none)
being_made file c none (inr (inl still)) = inl still
being_made file c none (inr (inr is)) = new_blank c is
