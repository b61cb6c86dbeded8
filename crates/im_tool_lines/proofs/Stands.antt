-- What files stand for.
use Rattle.std.proofs.Common.{◌≡◌, inl, inr, ℕ, zero, suc, ◌<◌, List, [], ◌∷◌, ◌++◌, length, take, Some, refl, sym, ◌∙◌, ap, subst, arith, append_assoc, length-append, append-nil}
use Rattle.im_base_types.specs.declared.file_id.FileId.TheVariants.{Log, Pages}
use Rattle.im_base_disk.specs.Disk.{Files}
use Rattle.im_log_gate.specs.Batches.{batches, batches_from, IsBeforeOrWith}
use Rattle.im_log_gate.specs.Header.{first_gate, IsUnmade, IsMade, IsBlank}
use Rattle.im_log_gate.proofs.Starts.{front_made, front_starts, gate_behind}
use Rattle.im_tool_lines.specs.Lives.{StandsFor, IsFront, BatchesSurvive}

pub clash : (file : List ℕ) → IsMade file → IsUnmade file → ⊥
clash file made (inl short) = let long = made.within in omega (arith, short, long, gate_behind file)
clash file made (inr not_made) = not_made made.made

-- files stand for one list of batches
pub stands_once : (c : Files) (some other : List (List ℕ)) → StandsFor c some → StandsFor c other → some ≡ other
stands_once c some other (inl a) (inl b) = let e : Some some ≡ Some other = sym a.1 ∙ b.1 in cc
stands_once c some other (inl a) (inr b) = absurd (clash (c Log) a.0 b.0)
stands_once c some other (inr a) (inl b) = absurd (clash (c Log) b.0 a.0)
stands_once c some other (inr a) (inr b) = a.2 ∙ sym b.2

pub stands_same : (c e : Files) → c Log ≡ e Log → c Pages ≡ e Pages → (found : List (List ℕ)) → StandsFor e found → StandsFor c found
stands_same c e log pages found (inl a) = inl (subst (λ (l : List ℕ). IsMade l) (sym log) a.0, ap (λ (l : List ℕ). batches (first_gate l) l) log ∙ a.1)
stands_same c e log pages found (inr a) = inr (subst (λ (l : List ℕ). IsUnmade l) (sym log) a.0, ap (λ (l : List ℕ). length l) pages ∙ a.1, a.2)

-- a file with batches reaches past its first gate
pub long : (place : ℕ) (file : List ℕ) (found : List (List ℕ)) → batches_from place file ≡ Some found → place < length file
long place [] found e = absurd (cc)
long zero (byte ∷ file) found e = omega arith
long (suc place) (byte ∷ file) found e = let rest = long place file found e in omega arith

front_self : (xs : List (List ℕ)) → IsFront xs xs
front_self xs = record { rest = []; is = sym (append-nil xs) }

front_push : (xs : List (List ℕ)) (x : List ℕ) → IsFront xs (xs ++ x ∷ [])
front_push xs x = record { rest = x ∷ []; is = refl }

-- nothing was asked yet
pub survives_none : (before : List (List ℕ)) (asked : List (List ℕ)) → BatchesSurvive before asked [] before
survives_none before asked = record { kept = []; is = sym (append-nil before); of_asked = record { rest = asked; is = refl }; with_acked = front_self []; one_more = omega arith }

-- more is asked
pub survives_more : (before asked acked after more : List (List ℕ)) → BatchesSurvive before asked acked after → BatchesSurvive before (asked ++ more) acked after
survives_more before asked acked after more s = record {
  kept = s.kept;
  is = s.is;
  of_asked = record { rest = s.of_asked.rest ++ more; is = ap (λ (l : List (List ℕ)). l ++ more) s.of_asked.is ∙ append_assoc s.kept s.of_asked.rest more };
  with_acked = s.with_acked;
  one_more = s.one_more;
}

-- all that was asked is there and acknowledged
pub survives_all : (before asked : List (List ℕ)) → BatchesSurvive before asked asked (before ++ asked)
survives_all before asked = record { kept = asked; is = refl; of_asked = front_self asked; with_acked = front_self asked; one_more = omega arith }

pub survives_without : (before asked : List (List ℕ)) (last : List ℕ) → BatchesSurvive before (asked ++ last ∷ []) asked (before ++ asked)
survives_without before asked last = record { kept = asked; is = refl; of_asked = front_push asked last; with_acked = front_self asked; one_more = omega arith }

pub survives_with : (before asked : List (List ℕ)) (last : List ℕ) → BatchesSurvive before (asked ++ last ∷ []) asked (before ++ (asked ++ last ∷ []))
survives_with before asked last = record {
  kept = asked ++ last ∷ [];
  is = refl;
  of_asked = front_self (asked ++ last ∷ []);
  with_acked = front_push asked last;
  one_more = omega (arith, length-append asked (last ∷ []));
}

-- a file that keeps what stands in front of its first gate, and has batches after it
pub stands_front : (c : Files) (file : List ℕ) (found : List (List ℕ)) → IsMade file → take (first_gate file) (c Log) ≡ take (first_gate file) file → batches (first_gate file) (c Log) ≡ Some found → StandsFor c found
stands_front c file found made same e = inl (front_made file (c Log) same (long (first_gate file) (c Log) found e) made, ap (λ (n : ℕ). batches n (c Log)) (front_starts file (c Log) same).gate ∙ e)

-- a stop while a batch is put
pub stopped_put : (c : Files) (file : List ℕ) (before asked : List (List ℕ)) (records : List ℕ) → IsMade file → take (first_gate file) (c Log) ≡ take (first_gate file) file → IsBeforeOrWith (first_gate file) records (Some (before ++ asked)) (c Log)
    → (after : List (List ℕ)) × StandsFor c after × BatchesSurvive before (asked ++ records ∷ []) asked after
stopped_put c file before asked records made same (inl e) =
    (before ++ asked, stands_front c file (before ++ asked) made same e, survives_without before asked records)
stopped_put c file before asked records made same (inr e) = (
  before ++ (asked ++ records ∷ []),
  stands_front c file (before ++ (asked ++ records ∷ [])) made same (e ∙ ap Some (append_assoc before asked (records ∷ []))),
  survives_with before asked records,
)

-- a blank log has no batches
pub stands_blank : (c : Files) → IsBlank (c Log) → length (c Pages) ≡ 0 → StandsFor c []
stands_blank c (inl unmade) empty = inr (unmade, empty, refl)
stands_blank c (inr made) empty = inl (made.0, made.1)
