-- Batches after gates, as they stand in a file.
use Rattle.std.proofs.Common.{◌≡◌, ◌≢◌, ℕ, zero, suc, ◌+◌, ◌^◌, ◌≤◌, Bool, true, false, List, [], ◌∷◌, ◌++◌, length, map, take, drop, Option, Some, None, refl, sym, ◌∙◌, ap, subst, arith, append-nil, append_assoc, length-append, length-drop, take-append-drop, length-take-le, drop_at, drop-drop}
use Rattle.std.proofs.lemmas.List.Elements.{All-cons, All-nil}
use Rattle.std.specs.Prelude.{All}
use Rattle.std.specs.Int.{w32, to_be_bytes}
use Rattle.std.specs.List.{AllByRecursion}
use Rattle.im_base_types.specs.Records.{Logged}
use Rattle.im_log_gate.specs.Batches.{batch, batch_length, batches, batches_from, gated, in_front, is_whole, size_of, Fits}
use Rattle.im_log_gate.specs.Header.{first_gate}
use Rattle.im_log_gate.proofs.BatchLemmas.{Sizes, batch_long, from_drop, opened, refused, shut, sizes}
use Rattle.im_log_gate.proofs.Several.{all_count}
use Rattle.im_log_record.specs.Entry.{Entry}
use Rattle.im_log_record.specs.Reading.{IsBytes}
use Rattle.im_log_record.specs.Spelling.{size_of as size_said, word32}
use Rattle.im_log_record.proofs.Words.{IsBytes-drop, IsBytes-take, word32_back}
use Rattle.im_log.specs.Spelled.{log_of}
use Rattle.im_log.specs.SpelledFiles.{spelt, IsBatch, HasLogAt}
use Rattle.im_log.proofs.Spells.{log_is, log_records, log_room, not_refused}
use Rattle.im_log.proofs.SpelledRecords.{batches_read, said_all}

-- ---- read as they stand

fit_all : (said : List (List Entry)) → AllByRecursion IsBatch said → All Fits (map spelt said)
fit_all [] fits = All-nil Fits
fit_all (es ∷ rest) fits = All-cons Fits (spelt es) (map spelt rest) fits.0.fits (fit_all rest fits.1)

pub read : ((said : Entry) → 33 ≤ size_said said) → (base : ℕ) (file : List ℕ) (log : List Logged) → HasLogAt base file log → log_of base file ≡ Some log
read least base file log is =
    let bs = map spelt is.said in
    let behind = gated bs ++ is.gate ∷ is.rest in
    let cut : drop (first_gate file) file ≡ behind = ap (drop (first_gate file)) (is.bytes ∙ append_assoc is.header (gated bs) (is.gate ∷ is.rest)) ∙ drop_at is.header behind (first_gate file) is.start in
    let here : batches (first_gate file) file ≡ Some bs =
    from_drop (first_gate file) file
    ∙ ap (batches_from 0) cut
    ∙ all_count bs (fit_all is.said is.batches) (is.gate ∷ is.rest)
    ∙ ap (in_front bs) (shut is.gate is.rest is.closed)
    ∙ ap Some (append-nil bs) in
    log_is base file bs log here is.within (batches_read least is.said (base + first_gate file) [] is.batches ∙ ap Some (sym is.records))

-- ---- they stand as they are read

-- the bytes are these batches, a closed gate, and more
pub record Stand (bytes : List ℕ) (bs : List (List ℕ)) : Type 0 where
  pub fit : AllByRecursion Fits bs
  pub small : AllByRecursion IsBytes bs
  pub gate : ℕ
  pub closed : gate ≢ 1
  pub rest : List ℕ
  pub is : bytes ≡ gated bs ++ gate ∷ rest

-- what is in front of others
record InFront (first : List ℕ) (rest : Option (List (List ℕ))) (bs : List (List ℕ)) : Type 0 where
  later : List (List ℕ)
  there : rest ≡ Some later
  is : bs ≡ first ∷ later

taken_off : (first : List ℕ) (rest : Option (List (List ℕ))) (bs : List (List ℕ)) → in_front (first ∷ []) rest ≡ Some bs → InFront first rest bs
taken_off first None bs is = let never : None ≡ Some bs = is in cc
taken_off first (Some later) bs is = record { later = later; there = refl; is = let e : first ∷ later ≡ bs = cc in sym e }

-- the four bytes of length
length_back : (behind : List ℕ) → IsBytes behind → 4 ≤ length behind → to_be_bytes w32 (batch_length behind) ≡ take 4 behind
unfolding batch_length word32
length_back behind small long = (word32_back (take 4 behind) (length-take-le 4 behind long) (IsBytes-take 4 behind small)).0

-- a whole batch after its gate
parts_of : (behind : List ℕ) → IsBytes behind → (s : Sizes behind) → behind ≡ to_be_bytes w32 (length (batch behind)) ++ batch behind ++ drop (4 + batch_length behind) behind
parts_of behind small s =
    let n = batch_length behind in
    let four : to_be_bytes w32 (length (batch behind)) ≡ take 4 behind = ap (to_be_bytes w32) (batch_long behind s) ∙ length_back behind small (omega (arith, s.room)) in
    let later : batch behind ++ drop (4 + n) behind ≡ drop 4 behind =
    ap (λ (l : List ℕ). batch behind ++ l) (sym (drop-drop n 4 behind)) ∙ take-append-drop n (drop 4 behind) in
    sym (append_assoc (to_be_bytes w32 (length (batch behind))) (batch behind) (drop (4 + n) behind) ∙ ap (λ (l : List ℕ). l ++ (batch behind ++ drop (4 + n) behind)) four ∙ ap (λ (l : List ℕ). take 4 behind ++ l) later ∙ take-append-drop 4 behind)

module _ (m : ℕ) (onward : (bytes : List ℕ) (bs : List (List ℕ)) → length bytes ≤ m → IsBytes bytes → batches_from 0 bytes ≡ Some bs → Stand bytes bs) (behind : List ℕ) (small : IsBytes behind) (few : length behind ≤ m) where
  stand_open : (whole : Bool) → is_whole behind ≡ whole → (bs : List (List ℕ)) → batches_from 0 (1 ∷ behind) ≡ Some bs → Stand (1 ∷ behind) bs
  stand_open false broken bs is = let never : None ≡ Some bs = sym (refused 1 behind refl broken) ∙ is in cc
  stand_open true whole bs is =
      let s = sizes behind whole in
      let n = batch_length behind in
      let off = taken_off (batch behind) (batches_from (4 + n) behind) bs (sym (opened 1 behind refl whole) ∙ is) in
      let later = drop (4 + n) behind in
      let on = onward later off.later (omega (arith, length-drop (4 + n) behind, few)) (IsBytes-drop (4 + n) behind small) (sym (from_drop (4 + n) behind) ∙ off.there) in
      let here = parts_of behind small s in
      let four = to_be_bytes w32 (length (batch behind)) in
      subst (Stand (1 ∷ behind)) (sym off.is) (record {
        fit = (record { some = omega (arith, batch_long behind s, s.some); most = omega (arith, batch_long behind s, s.most) }, on.fit);
        small = (IsBytes-take n (drop 4 behind) (IsBytes-drop 4 behind small), on.small);
        gate = on.gate;
        closed = on.closed;
        rest = on.rest;
        is = ap (λ (l : List ℕ). 1 ∷ l) (
            here
            ∙ ap (λ (l : List ℕ). four ++ batch behind ++ l) on.is
            ∙ sym (append_assoc (four ++ batch behind) (gated off.later) (on.gate ∷ on.rest))
            );
      })

stand_shut : (gate : ℕ) (behind : List ℕ) (bs : List (List ℕ)) → gate ≢ 1 → batches_from 0 (gate ∷ behind) ≡ Some bs → Stand (gate ∷ behind) bs
stand_shut gate behind bs not is =
    let e : Some [] ≡ Some bs = sym (shut gate behind not) ∙ is in
    let none : [] ≡ bs = cc e in
    subst (Stand (gate ∷ behind)) none (record { fit = tt; small = tt; gate = gate; closed = not; rest = behind; is = refl })

pub stand : (n : ℕ) (bytes : List ℕ) (bs : List (List ℕ)) → length bytes ≤ n → IsBytes bytes → batches_from 0 bytes ≡ Some bs → Stand bytes bs
stand n [] bs le small is = let never : None ≡ Some bs = is in cc
stand zero (gate ∷ behind) bs le small is = absurd (omega (arith, le))
stand (suc n) (suc zero ∷ behind) bs le small is = stand_open n (stand n) behind (λ i. small (suc i)) (omega (arith, le)) (is_whole behind) refl bs is
stand (suc n) (zero ∷ behind) bs le small is = stand_shut 0 behind bs (λ same. let clash : 0 ≡ 1 = same in omega (arith, clash)) is
stand (suc n) (suc (suc gate) ∷ behind) bs le small is = stand_shut (suc (suc gate)) behind bs (λ same. let clash : suc (suc gate) ≡ 1 = same in omega (arith, clash)) is

some_batches : (o : Option (List (List ℕ))) (base : ℕ) (file : List ℕ) (log : List Logged) → batches (first_gate file) file ≡ o → log_of base file ≡ Some log → (bs : List (List ℕ)) × (batches (first_gate file) file ≡ Some bs)
some_batches (Some bs) base file log here is = (bs, here)
some_batches None base file log here is = absurd (not_refused base file log is here)

pub spelled : (base : ℕ) (file : List ℕ) (log : List Logged) → IsBytes file → log_of base file ≡ Some log → HasLogAt base file log
spelled base file log small is =
    let first = first_gate file in
    let bs = some_batches (batches first file) base file log refl is in
    let behind = drop first file in
    let on = stand (length behind) behind bs.0 (omega arith) (IsBytes-drop first file small) (sym (from_drop first file) ∙ bs.1) in
    let said = said_all bs.0 (base + first) [] log on.small on.fit (log_records base file bs.0 log bs.1 is) in
    let long : first ≤ length file = omega (arith, length-drop first file, ap length on.is, length-append (gated bs.0) (on.gate ∷ on.rest)) in
    record {
      said = said.said;
      batches = said.batches;
      header = take first file;
      start = length-take-le first file long;
      gate = on.gate;
      closed = on.closed;
      rest = on.rest;
      bytes = sym (take-append-drop first file)
          ∙ ap (λ (l : List ℕ). take first file ++ l) on.is
          ∙ sym (append_assoc (take first file) (gated bs.0) (on.gate ∷ on.rest))
          ∙ ap (λ (l : List (List ℕ)). take first file ++ gated l ++ on.gate ∷ on.rest) said.bytes_are;
      within = subst (λ (l : List (List ℕ)). base + (first + size_of l) ≤ 2 ^ 62) said.bytes_are (log_room base file bs.0 log bs.1 is);
      records = said.log_is;
    }
