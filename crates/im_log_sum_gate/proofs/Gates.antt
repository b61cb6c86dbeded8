-- What a gate knows after each call, of the bytes of its file.
use Rattle.std.proofs.Common.{◌≡◌, ◌≢◌, ◌⊎◌, inl, inr, ℕ, ◌+◌, ◌-◌, ◌<◌, ◌≤◌, max, List, [], ◌∷◌, ◌++◌, length, take, drop, get_or, replicate, slice_index, Option, Some, None, refl, sym, ◌∙◌, ap, subst, arith, append-nil, length-append, length-drop, take-append-drop}
use Rattle.std.proofs.lemmas.Bool.{cases_lt, cases_eq}
use Rattle.std.proofs.lemmas.List.{drop-drop, drop-take, drop_all, drop_at, get_or-append_right, get_or-replicate, get_or_append_left, get_or_past, length-replicate, length-take-le}
use Rattle.im_base_types.specs.declared.file_id.FileId.{FileId}
use Rattle.im_base_disk.specs.declared.disk.Disk.{Ghosts}
use Rattle.im_base_disk.specs.Disk.{Files, Only, whole}
use Rattle.im_base_disk.specs.Runs.{LeavesIn}
use Rattle.im_base_disk.specs.Sums.{shown, shows, sum_fits}
use Rattle.im_base_disk.proofs.Runs.{in_started}
use Rattle.im_log_one_sync.specs.Batches.{batches_from}
use Rattle.im_log_one_sync.proofs.Laws.{passes_at}
use Rattle.im_log_one_sync.proofs.Reading.{ends, from_drop, zero_shows}
use Rattle.im_log_third_header.specs.declared.header.ThirdHeader.{ThirdHeader}
use Rattle.im_log_third_header.specs.Header.{HasHeader, IsEmptyThird, MayStart}
use Rattle.im_log_third_header.proofs.Saying.{empty_has_header}
use Rattle.im_log_sum_gate.specs.Batches.{batches, fits, shows_at, size_of, Ends, HasFront, IsClearTo, Lays, MayPut, Reaches}
use Rattle.im_log_sum_gate.specs.declared.gate.SumGate.{SumGate}
use Rattle.im_log_sum_gate.specs.Gate.{header_of, lsn_of, IsSealed}
use Rattle.im_log_sum_gate.specs.Laws.{HasPut}
use Rattle.im_log_sum_gate.specs.Sealed.{sealed, sealed_all, MayAll, MaySeal}
use Rattle.im_log_sum_gate.proofs.Laws.{are_there, first_from, loose_none, none_of_zero}
use Rattle.im_log_sum_gate.proofs.Strict.{none_at}
use Rattle.im_log_sum_gate.proofs.Seals.{sealed_are_laid}
use Rattle.im_log_sum_gate.proofs.Walks.{all_passed, first_gate, next_gate}

-- ---- the batches in front of a gate, and all of them where the log ends

in_front : (h : ThirdHeader) (place : ℕ) (before : List (List ℕ)) (file : List ℕ) → Reaches h place before file → batches h (take place file ++ 0 ∷ []) ≡ before
in_front h place before file reaches =
    reaches.last.front (0 ∷ []) (omega arith)
    ∙ ap (λ (l : List (List ℕ)). before ++ l) (ends (fits h.salt) (h.start.base + place) (0 ∷ []) (zero_shows (fits h.salt) (h.start.base + place) (0 ∷ []) refl))
    ∙ append-nil before

pub reaches_itself : (h : ThirdHeader) (place : ℕ) (before : List (List ℕ)) (file : List ℕ) → Reaches h place before file → Reaches h place (batches h (take place file ++ 0 ∷ [])) file
reaches_itself h place before file reaches = subst (λ (l : List (List ℕ)). Reaches h place l file) (sym (in_front h place before file reaches)) reaches

pub ends_itself : (h : ThirdHeader) (place : ℕ) (before : List (List ℕ)) (file : List ℕ) → Ends h place before file → Ends h place (batches h file) file
ends_itself h place before file there = subst (λ (l : List (List ℕ)). Ends h place l file) (sym (all_passed h place before file there)) there

-- ---- a log that was just made

module _ (h : ThirdHeader) (file : List ℕ) (may : MayStart h) (is : IsEmptyThird h file) where
  closed : slice_index file 47 ≡ 0
  closed = (empty_has_header h file may is).1

  begins : Ends h 47 [] file
  begins = record { reaches = first_gate h file (empty_has_header h file may is).0; none = none_of_zero h 47 file closed }

  pub new_ends : Ends h 47 (batches h file) file
  new_ends = ends_itself h 47 [] file begins

  pub new_empty : batches h file ≡ []
  new_empty = all_passed h 47 [] file begins

  pub new_shut : slice_index file 47 ≢ 1
  new_shut one = let zero_there = closed in omega (arith, zero_there, one)

  pub new_clear : IsClearTo h 48 47 file
  new_clear p from upto = let at : 47 ≡ p = omega (arith, from, upto) in subst (λ (n : ℕ). shows (sum_fits h.salt) h.start.base n file ≡ None) at (loose_none h 47 file closed)

-- ---- one that is opened, and read

pub opened_reaches : (h : ThirdHeader) (file : List ℕ) → HasHeader h file → Reaches h 47 (batches h (take 47 file ++ 0 ∷ [])) file
opened_reaches h file has = reaches_itself h 47 [] file (first_gate h file has)

pub opened_unread : (h : ThirdHeader) (file : List ℕ) → batches_from (fits h.salt) 0 (h.start.base + 47) (drop 47 file) ≡ batches h file
opened_unread h file = sym (from_drop (fits h.salt) 47 h.start.base file)

pub none_unread : (h : ThirdHeader) (place : ℕ) (file : List ℕ) → shows_at h place file ≡ None → batches_from (fits h.salt) 0 (h.start.base + place) (drop place file) ≡ []
none_unread h place file none = ends (fits h.salt) (h.start.base + place) (drop place file) none

pub some_unread : (h : ThirdHeader) (place size : ℕ) (file r : List ℕ) → length r ≡ size → shows_at h place file ≡ Some r
    → batches_from (fits h.salt) 0 (h.start.base + place) (drop place file) ≡ r ∷ batches_from (fits h.salt) 0 (h.start.base + (place + (size + 13))) (drop (place + (size + 13)) file)
some_unread h place size file r long is =
    passes_at (fits h.salt) h.start.base place file r is
    ∙ ap (λ (n : ℕ). r ∷ batches_from (fits h.salt) 0 (h.start.base + n) (drop n file)) (let same : place + (13 + length r) ≡ place + (size + 13) = omega (arith, long) in same)

pub next_reaches : (h : ThirdHeader) (place size : ℕ) (before : List (List ℕ)) (file r : List ℕ) → length r ≡ size → Reaches h place before file → shows_at h place file ≡ Some r
    → Reaches h (place + (size + 13)) (batches h (take (place + (size + 13)) file ++ 0 ∷ [])) file
next_reaches h place size before file r long reaches is =
    reaches_itself h (place + (size + 13)) (before ++ r ∷ []) file
    (subst (λ (n : ℕ). Reaches h n (before ++ r ∷ []) file) (let same : place + (13 + length r) ≡ place + (size + 13) = omega (arith, long) in same) (next_gate h place before file r reaches is))

pub ends_here : (h : ThirdHeader) (place : ℕ) (before : List (List ℕ)) (file : List ℕ) → Reaches h place before file → shows_at h place file ≡ None → Ends h place (batches h file) file
ends_here h place before file reaches none = ends_itself h place before file (record { reaches = reaches; none = none })

-- ---- a put

starts_open : (salt : List ℕ) (lsn : ℕ) (bs : List (List ℕ)) (more : List ℕ) → 1 ≤ length bs → slice_index (sealed_all salt lsn bs ++ more) 0 ≡ 1
starts_open salt lsn [] more some = absurd (omega (arith, some))
starts_open salt lsn (r ∷ bs) more some = refl

pub sealed_split : (salt : List ℕ) (lsn used : ℕ) (bs : List (List ℕ)) (bytes : List ℕ) → take (used + 1) bytes ≡ sealed_all salt lsn bs → sealed_all salt lsn bs ++ drop (used + 1) bytes ≡ bytes
sealed_split salt lsn used bs bytes is = ap (λ (l : List ℕ). l ++ drop (used + 1) bytes) (sym is) ∙ take-append-drop (used + 1) bytes

pub sealed_opens : (salt : List ℕ) (lsn used : ℕ) (bs : List (List ℕ)) (bytes : List ℕ) → 1 ≤ length bs → take (used + 1) bytes ≡ sealed_all salt lsn bs → slice_index bytes 0 ≡ 1
sealed_opens salt lsn used bs bytes some is = ap (λ (l : List ℕ). slice_index l 0) (sym (sealed_split salt lsn used bs bytes is)) ∙ starts_open salt lsn bs (drop (used + 1) bytes) some

module _ (h : ThirdHeader) (place used : ℕ) (before bs : List (List ℕ)) (bytes old : List ℕ) (there : Ends h place before old) (some : 1 ≤ length bs) (may : MayAll h.salt (h.start.base + place) bs) (sized : used ≡ size_of bs)
    (is : take (used + 1) bytes ≡ sealed_all h.salt (h.start.base + place) bs) where
  split : sealed_all h.salt (h.start.base + place) bs ++ drop (used + 1) bytes ≡ bytes
  split = sealed_split h.salt (h.start.base + place) used bs bytes is

  pub may_put : MayPut h place before bs bytes old
  may_put =
      let within = there.reaches.last.within in record {
        reaches = there.reaches;
        some = some;
        opens = sealed_opens h.salt (h.start.base + place) used bs bytes some is;
        lays = subst (λ (l : List ℕ). Lays h (place + length l) place bs (whole place l old)) split (sealed_are_laid h place bs (drop (used + 1) bytes) old (omega (arith, within)) may);
      }

  module _ (new : List ℕ) (put : new ≡ whole place bytes old) where
    has_put : HasPut h place before bs bytes old new
    has_put = are_there h place before bs bytes old new may_put put

    pub put_logged : batches h new ≡ before ++ bs
    put_logged = has_put.there

    pub put_ends : Ends h (place + used) (batches h new) new
    put_ends = subst (λ (n : ℕ). Ends h (place + n) (batches h new) new) (sym sized) (ends_itself h (place + size_of bs) (before ++ bs) new has_put.ends)

    put_zero : slice_index new (place + used) ≡ 0
    put_zero = ap (λ (n : ℕ). slice_index new (place + n)) sized ∙ has_put.closed

    pub put_shut : slice_index new (place + used) ≢ 1
    put_shut one = let zero_there = put_zero in omega (arith, zero_there, one)

    -- what is clear then: the zeros that were written, and what was so before
    module _ (known : ℕ) (clear : IsClearTo h known place old) (zeros : (i : ℕ) → used + 1 ≤ i → slice_index bytes i ≡ 0) where
      long : length (take place old) ≡ place
      long = let within = there.reaches.last.within in length-take-le place old (omega (arith, within))

      front_long : length (take place old ++ bytes) ≡ place + length bytes
      front_long = omega (arith, length-append (take place old) bytes, long)

      split_new : new ≡ (take place old ++ bytes) ++ drop (place + length bytes) old
      split_new = put

      byte_there : (p : ℕ) → place ≤ p → p < place + length bytes → slice_index new p ≡ slice_index bytes (p - place)
      byte_there p from upto =
          ap (λ (l : List ℕ). get_or l p 0) split_new
          ∙ get_or_append_left (take place old ++ bytes) (drop (place + length bytes) old) 0 p (omega (arith, front_long, upto))
          ∙ get_or-append_right (take place old) bytes place p 0 long from

      behind_there : (p : ℕ) → place + length bytes ≤ p → drop p new ≡ drop p old
      behind_there p past =
          ap (λ (n : ℕ). drop n new) (let same : p ≡ place + length bytes + (p - (place + length bytes)) = omega (arith, past) in same)
          ∙ sym (drop-drop (p - (place + length bytes)) (place + length bytes) new)
          ∙ ap (drop (p - (place + length bytes))) (ap (drop (place + length bytes)) split_new ∙ drop_at (take place old ++ bytes) (drop (place + length bytes) old) (place + length bytes) front_long)
          ∙ drop-drop (p - (place + length bytes)) (place + length bytes) old
          ∙ ap (λ (n : ℕ). drop n old) (let same : place + length bytes + (p - (place + length bytes)) ≡ p = omega (arith, past) in same)

      zero_at : (p : ℕ) → place + used ≤ p → p < place + length bytes → slice_index new p ≡ 0
      zero_at p from upto = elim (cases_eq p (place + used)) [
        | inl here ↦ ap (λ (n : ℕ). slice_index new n) here ∙ put_zero
        | inr other ↦ byte_there p (omega (arith, from)) upto ∙ zeros (p - place) (omega (arith, from, other))
      ]

      pub put_clear : IsClearTo h (max known (place + length bytes)) (place + used) new
      put_clear p from upto = elim (cases_lt p (place + length bytes)) [
        | inl within ↦ loose_none h p new (zero_at p from within)
        | inr past ↦ ap (shown (sum_fits h.salt) (h.start.base + p)) (behind_there p past) ∙ clear p (omega (arith, from)) (omega (arith, upto, past))
      ]

-- Where the file ends at the place up to which it is clear, it is clear for ever.
pub widened : (h : ThirdHeader) (clear known place : ℕ) (file : List ℕ) → IsClearTo h clear place file → (known ≡ clear) ⊎ (length file ≤ clear) → IsClearTo h known place file
widened h clear known place file is (inl same) p from upto = is p from (omega (arith, same, upto))
widened h clear known place file is (inr short) p from upto = elim (cases_lt p clear) [
  | inl within ↦ is p from within
  | inr past ↦ ap (shown (sum_fits h.salt) (h.start.base + p)) (drop_all p file (omega (arith, past, short)))
]

-- zeros at the end of a room
pub zeros_from : (room behind : List ℕ) (from n i : ℕ) → from ≤ length room → behind ≡ replicate n 0 → from ≤ i
    → slice_index (take from room ++ (behind ++ drop (length room - from) (drop from room))) i ≡ 0
zeros_from room behind from n i within is past =
    let long : length (take from room) ≡ from = length-take-le from room within in
    let none : drop (length room - from) (drop from room) ≡ [] = drop_all (length room - from) (drop from room) (omega (arith, length-drop from room)) in
    ap (λ (l : List ℕ). get_or (take from room ++ (behind ++ l)) i 0) none
    ∙ ap (λ (l : List ℕ). get_or (take from room ++ l) i 0) (append-nil behind ∙ is)
    ∙ get_or-append_right (take from room) (replicate n 0) from i 0 long past
    ∙ elim (cases_lt (i - from) n) [
      | inl there ↦ get_or-replicate n (i - from) 0 0 there
      | inr out ↦ get_or_past (replicate n 0) (i - from) 0 (omega (arith, out, length-replicate {A = ℕ} n 0))
    ]

-- a put that does nothing
pub unmoved : {D : Type 0} (d : Ghosts D) (file : FileId) (old : D) (h : ThirdHeader) (bs : List (List ℕ)) → ((c : Files) → d.left_since old (d.moment old) c → d.may_leave old c) → Only file (d.seen old) (d.may_leave old)
    → (d.tells → HasHeader h (d.seen old file)) → LeavesIn d file old old (HasFront h (batches h (d.seen old file)) bs)
unmoved d file old h bs only_now synced has =
    in_started d file old (HasFront h (batches h (d.seen old file)) bs) only_now synced (λ told. record { header = has told; count = 0; is = sym (append-nil (batches h (d.seen old file))) })

-- a gate that is not 1
pub none_closed : (h : ThirdHeader) (place : ℕ) (file : List ℕ) → slice_index file place ≢ 1 → shows_at h place file ≡ None
none_closed h place file other = none_at h.salt (h.start.base + place) (drop place file) (λ one. other (sym (first_from place file) ∙ one))

pub records_long : (size : ℕ) (buffer before : List ℕ) → length buffer ≡ length before → 16389 ≤ length before → size ≤ 16376 → length (take size (drop 5 buffer)) ≡ size
records_long size buffer before same room most = length-take-le size (drop 5 buffer) (omega (arith, same, room, most, length-drop 5 buffer))

pub none_found : (o : Option ℕ) → ((n : ℕ) → o ≡ Some n → ⊥) → o ≡ None
none_found None never = refl
none_found (Some n) never = absurd (never n refl)

-- ---- one batch in a room

module _ (salt : List ℕ) (lsn size : ℕ) (old new : List ℕ) (within : size + 14 ≤ length old) (is : take (size + 5 + 9) new ≡ take 0 old ++ sealed salt lsn (drop (0 + 5) (take (size + 5) old)) ++ 0 ∷ []) where
  pub one_records : drop (0 + 5) (take (size + 5) old) ≡ take size (drop 5 old)
  one_records = ap (λ (n : ℕ). drop 5 (take n old)) (let same : size + 5 ≡ 5 + size = omega arith in same) ∙ drop-take 5 size old

  pub one_sealed : take (size + 13 + 1) new ≡ sealed_all salt lsn (take size (drop 5 old) ∷ [])
  one_sealed =
      ap (λ (n : ℕ). take n new) (let same : size + 13 + 1 ≡ size + 5 + 9 = omega arith in same)
      ∙ is
      ∙ ap (λ (l : List ℕ). sealed salt lsn l ++ 0 ∷ []) one_records

  pub one_size : size + 13 ≡ size_of (take size (drop 5 old) ∷ [])
  one_size = let long = length-take-le size (drop 5 old) (omega (arith, within, length-drop 5 old)) in omega (arith, long)

  pub one_may : MaySeal salt lsn (drop (0 + 5) (take (size + 5) old)) → MayAll salt lsn (take size (drop 5 old) ∷ [])
  one_may may = (subst (λ (l : List ℕ). MaySeal salt lsn l) one_records may, tt)

pub one_is_sealed : (gate : SumGate) (size : ℕ) (old new : List ℕ) → size + 14 ≤ length old → take (size + 5 + 9) new ≡ take 0 old ++ sealed (header_of gate).salt (lsn_of gate) (drop (0 + 5) (take (size + 5) old)) ++ 0 ∷ []
    → MaySeal (header_of gate).salt (lsn_of gate) (drop (0 + 5) (take (size + 5) old)) → IsSealed gate (size + 13) (take size (drop 5 old) ∷ []) new
one_is_sealed gate size old new within is may = record {
  some = omega arith;
  may = one_may (header_of gate).salt (lsn_of gate) size old new within is may;
  size = one_size (header_of gate).salt (lsn_of gate) size old new within is;
  is = one_sealed (header_of gate).salt (lsn_of gate) size old new within is;
}
