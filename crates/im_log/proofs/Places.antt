-- Where the records of a log stand in its file and in its buffer.
use Rattle.std.proofs.Common.{◌≡◌, ◌⊎◌, inl, inr, ⊎_elim, ℕ, zero, suc, ◌+◌, ◌-◌, ◌<◌, ◌≤◌, true, false, Bool, List, [], ◌∷◌, ◌++◌, length, take, drop, Option, Some, None, refl, sym, ◌∙◌, ap, subst, arith, length-drop, take-append-drop, append_assoc, append-nil}
use Rattle.std.proofs.lemmas.Bool.{cases_eq}
use Rattle.std.proofs.lemmas.List.{length-take-le, take-append-le, take-take, drop-append-le, drop-drop, drop-take}
use Rattle.byteorder.specs.Endian.{big_number}
use Rattle.byteorder.specs.Numbers.{big_from-take}
use Rattle.im_base_types.specs.declared.file_id.FileId.TheVariants.{Log}
use Rattle.im_base_types.specs.Records.{Logged}
use Rattle.im_theory_log.specs.Histories.{IsRecordOf}
use Rattle.im_base_disk.specs.declared.disk.Disk.{Ghosts}
use Rattle.im_log_gate.specs.Batches.{gated, batches_from, batch, batch_length, is_whole, size_of}
use Rattle.im_log_gate.proofs.Several.{all_count, gated_long}
use Rattle.im_log_gate.specs.Gate.{place_of}
use Rattle.im_log_gate.specs.Header.{first_gate}
use Rattle.im_log_gate.proofs.BatchLemmas.{Sizes, sizes, from_drop, opened, refused, shut, batch_long}
use Rattle.im_log_record.specs.Entry.{Entry}
use Rattle.im_log_record.specs.Reading.{entry_of}
use Rattle.im_log.specs.declared.log_file.LogFile.{LogFile}
use Rattle.im_log.specs.Spelled.{logged_at, record_size, first_record, records_from, batches_records}
use Rattle.im_log.specs.LogFile.{buffered, first_waiting_lsn, batch_lsn, next_lsn, IsOpen, IsLog, Sealed}
use Rattle.im_log.specs.Reading.{FitsFront, IsFrontOf, SpellsRecord}
use Rattle.im_log.proofs.Spells.{First, first, first_more, size_more, step, none, log_records}
use Rattle.im_log.proofs.Passes.{batch_taken}
use Rattle.im_log.proofs.Openings.{in_front_some}
use Rattle.im_log.proofs.Runs.{placed, waiting, sealed_size}

-- a record of some bytes, the first of which is at this LSN
pub record InBytes (lsn : ℕ) (bytes : List ℕ) (r : Logged) : Type 0 where
  pub at : ℕ
  pub entry : Entry
  pub first : First (drop at bytes) entry
  pub lsn_is : r.lsn ≡ lsn + at
  pub is : logged_at (lsn + at) entry ≡ r

shift : (lsn byte : ℕ) (bytes : List ℕ) (r : Logged) → InBytes (suc lsn) bytes r → InBytes lsn (byte ∷ bytes) r
shift lsn byte bytes r i =
    let p : lsn + suc i.at ≡ suc lsn + i.at = omega arith in
    record { at = suc i.at; entry = i.entry; first = i.first; lsn_is = omega (arith, i.lsn_is); is = ap (λ (k : ℕ). logged_at k i.entry) p ∙ i.is }

at_front : (lsn : ℕ) (bytes : List ℕ) (entry : Entry) (r : Logged) → First bytes entry → logged_at lsn entry ≡ r → InBytes lsn bytes r
at_front lsn bytes entry r f same =
    let p : lsn + 0 ≡ lsn = omega arith in
    let l : lsn ≡ r.lsn = ap (λ (x : Logged). x.lsn) same in
    record { at = 0; entry = entry; first = f; lsn_is = omega (arith, l); is = ap (λ (k : ℕ). logged_at k entry) p ∙ same }

found_by : (o : Option Entry) (lsn byte : ℕ) (bytes : List ℕ) (older log : List Logged) (r : Logged) → first_record (byte ∷ bytes) ≡ o → records_from 0 lsn (byte ∷ bytes) older ≡ Some log
    → ((now : List Logged) → records_from (record_size (byte ∷ bytes) - 1) (suc lsn) bytes now ≡ Some log → IsRecordOf r now ⊎ InBytes (suc lsn) bytes r) → IsRecordOf r older ⊎ InBytes lsn (byte ∷ bytes) r
found_by None lsn byte bytes older log r here is onward = let never : None ≡ Some log = sym (none lsn byte bytes older here) ∙ is in cc
found_by (Some entry) lsn byte bytes older log r here is onward =
    ⊎_elim
    (λ (was : IsRecordOf r (logged_at lsn entry ∷ older)). ⊎_elim (λ (same : logged_at lsn entry ≡ r). inr (at_front lsn (byte ∷ bytes) entry r (first (byte ∷ bytes) entry here) same)) (λ (old : IsRecordOf r older). inl old) was)
    (λ (i : InBytes (suc lsn) bytes r). inr (shift lsn byte bytes r i))
    (onward (logged_at lsn entry ∷ older) (sym (step lsn byte bytes older entry here) ∙ is))

-- each record that bytes bring to a log stands in them
pub found : (skip lsn : ℕ) (bytes : List ℕ) (older log : List Logged) (r : Logged) → records_from skip lsn bytes older ≡ Some log → IsRecordOf r log → IsRecordOf r older ⊎ InBytes lsn bytes r
found zero lsn [] older log r is has = let e : log ≡ older = cc in inl (subst (λ (l : List Logged). IsRecordOf r l) e has)
found (suc skip) lsn [] older log r is has = let never : None ≡ Some log = is in cc
found (suc skip) lsn (byte ∷ bytes) older log r is has =
    ⊎_elim (λ (old : IsRecordOf r older). inl old) (λ (i : InBytes (suc lsn) bytes r). inr (shift lsn byte bytes r i)) (found skip (suc lsn) bytes older log r is has)
found zero lsn (byte ∷ bytes) older log r is has =
    found_by (first_record (byte ∷ bytes)) lsn byte bytes older log r refl is (λ now here. found (record_size (byte ∷ bytes) - 1) (suc lsn) bytes now log r here has)

-- a gate in front of a whole batch and others
pub record Split (place : ℕ) (file b : List ℕ) (bs : List (List ℕ)) : Type 0 where
  pub behind : List ℕ
  pub there : drop (place + 1) file ≡ behind
  pub sizes : Sizes behind
  pub is : b ≡ batch behind
  pub onward : batches_from (place + (5 + length b)) file ≡ Some bs

split_whole : (w : Bool) (place gate : ℕ) (file behind b : List ℕ) (bs : List (List ℕ)) → is_whole behind ≡ w → gate ≡ 1 → drop place file ≡ gate ∷ behind → batches_from 0 (gate ∷ behind) ≡ Some (b ∷ bs) → Split place file b bs
split_whole false place gate file behind b bs broken one there is = let never : None ≡ Some (b ∷ bs) = sym (refused gate behind one broken) ∙ is in cc
split_whole true place gate file behind b bs whole one there is =
    let parts = in_front_some (batch behind) (batches_from (4 + batch_length behind) behind) (b ∷ bs) (sym (opened gate behind one whole) ∙ is) in
    let s = sizes behind whole in
    let same : b ≡ batch behind = cc in
    let rest : parts.0 ≡ bs = cc in
    let one_on : drop (place + 1) file ≡ behind = sym (drop-drop 1 place file) ∙ ap (λ (l : List ℕ). drop 1 l) there in
    let long : length b ≡ batch_length behind = ap length same ∙ batch_long behind s in
    let at : place + (5 + length b) ≡ place + 1 + (4 + batch_length behind) = omega (arith, long) in
    record {
      behind = behind;
      there = one_on;
      sizes = s;
      is = same;
      onward =
          ap (λ (k : ℕ). batches_from k file) at
          ∙ from_drop (place + 1 + (4 + batch_length behind)) file
          ∙ ap (batches_from 0) (sym (drop-drop (4 + batch_length behind) (place + 1) file) ∙ ap (λ (l : List ℕ). drop (4 + batch_length behind) l) one_on)
          ∙ sym (from_drop (4 + batch_length behind) behind)
          ∙ parts.1 ∙ ap Some rest;
    }

split_by : (dropped : List ℕ) (place : ℕ) (file b : List ℕ) (bs : List (List ℕ)) → drop place file ≡ dropped → batches_from 0 dropped ≡ Some (b ∷ bs) → Split place file b bs
split_by [] place file b bs there is = let never : None ≡ Some (b ∷ bs) = is in cc
split_by (gate ∷ behind) place file b bs there is = elim (cases_eq gate 1) [
  | inl one ↦ split_whole (is_whole behind) place gate file behind b bs refl one there is
  | inr other ↦ let never : Some [] ≡ Some (b ∷ bs) = sym (shut gate behind other) ∙ is in cc
]

pub split : (place : ℕ) (file b : List ℕ) (bs : List (List ℕ)) → batches_from place file ≡ Some (b ∷ bs) → Split place file b bs
split place file b bs is = split_by (drop place file) place file b bs refl (sym (from_drop place file) ∙ is)

-- a record of a file, in front of this place
pub record InFile (base : ℕ) (file : List ℕ) (end : ℕ) (r : Logged) : Type 0 where
  pub at : ℕ
  pub entry : Entry
  pub first : First (drop at file) entry
  pub short : record_size (drop at file) ≤ 16384
  pub lsn_is : r.lsn ≡ base + at
  pub is : logged_at r.lsn entry ≡ r
  pub behind : 5 ≤ at
  pub before : at < end
  pub whole : at + record_size (drop at file) ≤ end

-- one of a batch is one of its file
of_batch : (base place : ℕ) (file b : List ℕ) (bs : List (List ℕ)) (end : ℕ) (r : Logged) → Split place file b bs → place + (5 + length b) ≤ end → InBytes (base + place + 5) b r → InFile base file end r
of_batch base place file b bs end r s le i =
    let n : ℕ = batch_length s.behind in
    let long : length b ≡ n = ap length s.is ∙ batch_long s.behind s.sizes in
    let within : record_size (drop i.at b) ≤ length b - i.at = omega (arith, i.first.most, length-drop i.at b) in
    let inside : i.at < length b = omega (arith, within, i.first.least) in
    let more : List ℕ = drop n (drop 4 s.behind) in
    let whole : drop (place + 5) file ≡ b ++ more =
    ap (λ (k : ℕ). drop k file) (let e : place + 5 ≡ place + 1 + 4 = omega arith in e) ∙ sym (drop-drop 4 (place + 1) file) ∙ ap (λ (l : List ℕ). drop 4 l) s.there
    ∙ sym (take-append-drop n (drop 4 s.behind)) ∙ ap (λ (l : List ℕ). l ++ more) (sym s.is) in
    let there : drop (place + 5 + i.at) file ≡ drop i.at b ++ more =
    sym (drop-drop i.at (place + 5) file) ∙ ap (λ (l : List ℕ). drop i.at l) whole ∙ drop-append-le i.at b more (omega (arith, inside)) in
    let size : record_size (drop i.at b ++ more) ≡ record_size (drop i.at b) = size_more (drop i.at b) more (omega (arith, i.first.least, i.first.most)) in
    let size_there : record_size (drop (place + 5 + i.at) file) ≡ record_size (drop i.at b) = ap record_size there ∙ size in
    record {
      at = place + 5 + i.at;
      entry = i.entry;
      first = subst (λ (l : List ℕ). First l i.entry) (sym there) (first_more (drop i.at b) more i.entry i.first);
      short = omega (arith, size_there, within, long, s.sizes.most);
      lsn_is = omega (arith, i.lsn_is);
      is = ap (λ (k : ℕ). logged_at k i.entry) i.lsn_is ∙ i.is;
      behind = omega arith;
      before = omega (arith, inside, le);
      whole = omega (arith, inside, le, size_there, within);
    }

-- each record that batches bring to a log stands in the file
pub found_in : (base place : ℕ) (file : List ℕ) (bs : List (List ℕ)) (end : ℕ) (older log : List Logged) (r : Logged) → batches_from place file ≡ Some bs → place + size_of bs ≤ end → batches_records (base + place) bs older ≡ Some log
    → IsRecordOf r log → IsRecordOf r older ⊎ InFile base file end r
found_in base place file [] end older log r there le is has = let e : log ≡ older = cc in inl (subst (λ (l : List Logged). IsRecordOf r l) e has)
found_in base place file (b ∷ bs) end older log r there le is has =
    let s = split place file b bs there in
    let t = batch_taken (base + place) b bs older log is in
    let at : base + (place + (5 + length b)) ≡ base + place + (5 + length b) = omega arith in
    ⊎_elim
    (λ (was : IsRecordOf r t.mid). ⊎_elim (λ (old : IsRecordOf r older). inl old) (λ (i : InBytes (base + place + 5) b r). inr (of_batch base place file b bs end r s (omega (arith, le)) i)) (found 0 (base + place + 5) b older t.mid r t.in_batch was))
    (λ (i : InFile base file end r). inr i)
    (found_in base (place + (5 + length b)) file bs end t.mid log r s.onward (omega (arith, le)) (ap (λ (k : ℕ). batches_records k bs t.mid) at ∙ t.onward) has)

-- a first record that lies in the bytes in front of others is theirs alone
pub first_less : (bytes more : List ℕ) (entry : Entry) → First (bytes ++ more) entry → record_size (bytes ++ more) ≤ length bytes → First bytes entry
first_less bytes more entry f le =
    let size = size_more bytes more (omega (arith, f.least, le)) in
    record {
      least = omega (arith, size, f.least);
      most = omega (arith, size, le);
      is = ap entry_of (sym (take-append-le (record_size bytes) bytes more (omega (arith, size, le)))) ∙ sym (ap (λ (n : ℕ). entry_of (take n (bytes ++ more))) size) ∙ f.is;
    }

-- all that waits, as it stands in the buffer
abbrev pub shown : LogFile → List ℕ
shown log = take (log.start + 4 + log.used) log.buffer.items

pub shown_long : (log : LogFile) → length (shown log) ≡ log.start + 4 + log.used
shown_long log = length-take-le (log.start + 4 + log.used) log.buffer.items (omega (arith, log.sized, log.within))

-- a record of the buffer, whose first byte has this LSN
pub record InBuffer (lsn : ℕ) (bytes : List ℕ) (r : Logged) : Type 0 where
  pub at : ℕ
  pub entry : Entry
  pub first : First (drop at bytes) entry
  pub short : record_size (drop at bytes) ≤ 16384
  pub lsn_is : r.lsn ≡ lsn + at
  pub is : logged_at r.lsn entry ≡ r
  pub behind : 4 ≤ at
  pub before : at < length bytes

-- one of the batch that is being filled
of_filled : (log : LogFile) (r : Logged) → InBytes (batch_lsn log) (buffered log) r → InBuffer (log.base + (place_of log.gate + 1)) (shown log) r
of_filled log r i =
    let there : drop (log.start + 4 + i.at) (shown log) ≡ drop i.at (buffered log) = sym (drop-drop i.at (log.start + 4) (shown log)) in
    let long : length (drop i.at (buffered log)) ≡ log.used - i.at = omega (arith, length-drop i.at (buffered log), waiting log) in
    let size : record_size (drop (log.start + 4 + i.at) (shown log)) ≡ record_size (drop i.at (buffered log)) = ap record_size there in
    record {
      at = log.start + 4 + i.at;
      entry = i.entry;
      first = subst (λ (l : List ℕ). First l i.entry) (sym there) i.first;
      short = omega (arith, size, i.first.most, long, log.within);
      lsn_is = omega (arith, i.lsn_is);
      is = ap (λ (k : ℕ). logged_at k i.entry) i.lsn_is ∙ i.is;
      behind = omega arith;
      before = omega (arith, shown_long log, i.first.least, i.first.most, long);
    }

-- and of a batch in front of it
of_sealed : (log : LogFile) (s : Sealed log) (r : Logged) → InFile (log.base + place_of log.gate) (gated s.batches ++ 0 ∷ []) log.start r → InBuffer (log.base + (place_of log.gate + 1)) (shown log) r
of_sealed log s r i =
    let a : ℕ = i.at in
    let k : ℕ = i.at - 1 in
    let front : List ℕ = gated s.batches in
    let x : List ℕ = drop a front in
    let front_long : length front ≡ log.start = omega (arith, gated_long s.batches, sealed_size log s) in
    let x_long : length x ≡ log.start - a = omega (arith, length-drop a front, front_long) in
    let behind : List ℕ = drop log.start (shown log) in
    let cut : drop a (front ++ 0 ∷ []) ≡ x ++ 0 ∷ [] = drop-append-le a front (0 ∷ []) (omega (arith, front_long, i.before)) in
    let cut_size : record_size (drop a (front ++ 0 ∷ [])) ≡ record_size (x ++ 0 ∷ []) = ap record_size cut in
    let first_x : First x i.entry = first_less x (0 ∷ []) i.entry (subst (λ (l : List ℕ). First l i.entry) cut i.first) (omega (arith, cut_size, i.whole, x_long, i.before)) in
    let size_x : record_size (x ++ 0 ∷ []) ≡ record_size x = size_more x (0 ∷ []) (omega (arith, first_x.least, first_x.most)) in
    let start_is : take log.start (shown log) ≡ take log.start log.buffer.items = take-take log.start (log.start + 4 + log.used) log.buffer.items (omega arith) in
    let opened : drop k (take log.start log.buffer.items) ≡ x ++ 1 ∷ [] =
    ap (λ (n : ℕ). drop n (1 ∷ take log.start log.buffer.items)) (let e : suc k ≡ a = omega (arith, i.behind) in e) ∙ ap (λ (l : List ℕ). drop a l) s.filled.is ∙ drop-append-le a front (1 ∷ []) (omega (arith, front_long, i.before)) in
    let there : drop k (shown log) ≡ x ++ (1 ∷ behind) =
    ap (λ (l : List ℕ). drop k l) (sym (take-append-drop log.start (shown log)))
    ∙ drop-append-le k (take log.start (shown log)) behind (omega (arith, length-take-le log.start (shown log) (omega (arith, shown_long log)), i.before))
    ∙ ap (λ (l : List ℕ). drop k l ++ behind) start_is
    ∙ ap (λ (l : List ℕ). l ++ behind) opened
    ∙ append_assoc x (1 ∷ []) behind in
    let size : record_size (drop k (shown log)) ≡ record_size x = ap record_size there ∙ size_more x (1 ∷ behind) (omega (arith, first_x.least, first_x.most)) in
    record {
      at = k;
      entry = i.entry;
      first = subst (λ (l : List ℕ). First l i.entry) (sym there) (first_more x (1 ∷ behind) i.entry first_x);
      short = omega (arith, size, size_x, cut_size, i.short);
      lsn_is = omega (arith, i.lsn_is, i.behind);
      is = i.is;
      behind = omega (arith, i.behind);
      before = omega (arith, shown_long log, i.before);
    }

-- each record of a log stands in front of its gate or in the buffer
pub stands : {D : Type 0} (d : Ghosts D) (base : ℕ) (all durable : List Logged) (log : LogFile) (disk : D) (r : Logged) → IsOpen d log disk → IsLog d base all durable log disk → IsRecordOf r all
    → InFile base (d.seen disk Log) (place_of log.gate) r ⊎ InBuffer (log.base + (place_of log.gate + 1)) (shown log) r
stands d base all durable log disk r is_open h has =
    let at = placed d log.gate disk log.of_log (is_open.starts h.tells) is_open.ready (is_open.working h.working) h.tells in
    let bs : List (List ℕ) = h.sealed.batches in
    ⊎_elim
    (λ (waited : IsRecordOf r h.mid). ⊎_elim
    (λ (was : IsRecordOf r durable). ⊎_elim (λ (never : ⊥). absurd never) (λ (i : InFile base (d.seen disk Log) (place_of log.gate) r). inl i)
    (found_in base (first_gate (d.seen disk Log)) (d.seen disk Log) at.before (place_of log.gate) [] durable r at.is (omega (arith, at.place)) (log_records base (d.seen disk Log) at.before durable at.is h.on_disk) was))
    (λ (i : InFile (log.base + place_of log.gate) (gated bs ++ 0 ∷ []) log.start r). inr (of_sealed log h.sealed r i))
    (found_in (log.base + place_of log.gate) 0 (gated bs ++ 0 ∷ []) bs log.start durable h.mid r (all_count bs h.sealed.filled.fit (0 ∷ []) ∙ ap Some (append-nil bs)) (omega (arith, sealed_size log h.sealed))
    (ap (λ (k : ℕ). batches_records k bs durable) (let e : log.base + place_of log.gate + 0 ≡ log.base + place_of log.gate = omega arith in e) ∙ h.in_sealed) waited))
    (λ (i : InBytes (batch_lsn log) (buffered log) r). inr (of_filled log r i))
    (found 0 (batch_lsn log) (buffered log) h.mid all r h.in_buffer has)

-- the record is what was brought to the room
pub brought : (bytes room : List ℕ) (size : ℕ) (entry : Entry) (r : Logged) → First bytes entry → IsFrontOf size bytes room → logged_at r.lsn entry ≡ r → SpellsRecord r (take size room)
brought bytes room size entry r f is same = record { entry = entry; is = ap entry_of (is.same ∙ ap (λ (n : ℕ). take n bytes) is.sized) ∙ f.is; same = same }

-- a record of a log stands at this place of these bytes
pub record There (bytes : List ℕ) (at : ℕ) (r : Logged) : Type 0 where
  pub entry : Entry
  pub first : First (drop at bytes) entry
  pub fits : FitsFront (drop at bytes)
  pub is : logged_at r.lsn entry ≡ r

module _ {D : Type 0} (d : Ghosts D) (base : ℕ) (all durable : List Logged) (log : LogFile) (disk : D) (r : Logged) (is_open : IsOpen d log disk) (h : IsLog d base all durable log disk) (has : IsRecordOf r all) where
  in_file : r.lsn < log.base + place_of log.gate → InFile base (d.seen disk Log) (place_of log.gate) r
  in_file below =
      ⊎_elim (λ (i : InFile base (d.seen disk Log) (place_of log.gate) r). i) (λ (i : InBuffer (log.base + (place_of log.gate + 1)) (shown log) r). absurd (omega (arith, below, i.lsn_is))) (stands d base all durable log disk r is_open h has)

  in_buffer : log.base + place_of log.gate ≤ r.lsn → InBuffer (log.base + (place_of log.gate + 1)) (shown log) r
  in_buffer above =
      ⊎_elim (λ (i : InFile base (d.seen disk Log) (place_of log.gate) r). absurd (omega (arith, above, i.lsn_is, i.before, h.based))) (λ (i : InBuffer (log.base + (place_of log.gate + 1)) (shown log) r). i) (stands d base all durable log disk r is_open h has)

  -- none stands below the base
  pub none_below : r.lsn < log.base → ⊥
  none_below below = let i = in_file (omega (arith, below)) in omega (arith, below, i.lsn_is, h.based)

  -- one after the gate stands in the buffer
  pub buffer_bounds : log.base + place_of log.gate ≤ r.lsn → (first_waiting_lsn log ≤ r.lsn) × (r.lsn < next_lsn log)
  buffer_bounds above =
      let i = in_buffer above in
      (omega (arith, i.lsn_is, i.behind), omega (arith, i.lsn_is, i.before, shown_long log))

  pub there_in_file : (at : ℕ) → r.lsn ≡ log.base + at → at < place_of log.gate → There (d.seen disk Log) at r
  there_in_file at is below =
      let i = in_file (omega (arith, is, below)) in
      subst (λ (k : ℕ). There (d.seen disk Log) k r) (let e : i.at ≡ at = omega (arith, is, i.lsn_is, h.based) in e)
      (record { entry = i.entry; first = i.first; fits = record { least = i.first.least; most = i.first.most; room = i.short }; is = i.is })

  pub there_in_buffer : (at : ℕ) → r.lsn ≡ log.base + (place_of log.gate + 1) + at → There (shown log) at r
  there_in_buffer at is =
      let i = in_buffer (omega (arith, is)) in
      subst (λ (k : ℕ). There (shown log) k r) (let e : i.at ≡ at = omega (arith, is, i.lsn_is) in e)
      (record { entry = i.entry; first = i.first; fits = record { least = i.first.least; most = i.first.most; room = i.short }; is = i.is })

-- the length in the first four bytes, as the kit reads it
size_read : (bytes : List ℕ) → big_number 4 (take 4 bytes) ≡ record_size bytes
unfolding record_size
size_read bytes = omega arith

pub size_in_front : (bytes : List ℕ) → record_size bytes ≡ big_number 4 bytes
size_in_front bytes = sym (size_read bytes) ∙ big_from-take 0 4 4 bytes (omega arith)

pub size_is : (size : ℕ) (front bytes : List ℕ) → size ≡ big_number 4 front → front ≡ take 4 bytes → size ≡ record_size bytes
size_is size front bytes is front_is = is ∙ ap (big_number 4) front_is ∙ size_read bytes

-- the bytes from a place on to the end of a front
pub slice_is : (items : List ℕ) (at end : ℕ) → at ≤ end → take (end - at) (drop at items) ≡ drop at (take end items)
slice_is items at end le = let e : end ≡ at + (end - at) = omega (arith, le) in sym (ap (λ (k : ℕ). drop at (take k items)) e ∙ drop-take at (end - at) items)

-- a first record of them, of those that are cut off after it
pub cut_first : (items : List ℕ) (at end n : ℕ) (entry : Entry) → at ≤ end → end ≤ length items → n ≤ end - at → First (drop at (take end items)) entry → record_size (drop at (take end items)) ≤ n → First (take n (drop at items)) entry
cut_first items at end n entry le within few f fits =
    let y : List ℕ = drop at (take end items) in
    let split_is : take n y ++ drop n y ≡ y = take-append-drop n y in
    let long : length y ≡ end - at = omega (arith, length-drop at (take end items), length-take-le end items within) in
    let size : record_size (take n y ++ drop n y) ≡ record_size y = ap record_size split_is in
    let same : take n y ≡ take n (drop at items) = ap (λ (l : List ℕ). take n l) (sym (slice_is items at end le)) ∙ take-take n (end - at) (drop at items) few in
    subst (λ (l : List ℕ). First l entry) same
    (first_less (take n y) (drop n y) entry (subst (λ (l : List ℕ). First l entry) (sym split_is) f) (omega (arith, size, fits, length-take-le n y (omega (arith, long, few)))))
