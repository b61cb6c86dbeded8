-- Records and batches that join the end of a log file.
use Rattle.std.proofs.Common.{◌≡◌, ◌^◌, ℕ, zero, suc, ◌+◌, ◌-◌, ◌<◌, ◌≤◌, List, [], ◌∷◌, ◌++◌, length, take, Option, Some, None, refl, sym, ◌∙◌, ap, arith, length-append}
use Rattle.std.proofs.lemmas.Bool.Decides.{nat_tests}
use Rattle.std.proofs.lemmas.List.{take_all, take-append-le}
use Rattle.std.specs.Int.{w32, from_be_bytes}
use Rattle.im_log_gate.specs.Batches.{batches, size_of, with_batch, with_batches}
use Rattle.im_log_gate.specs.Header.{first_gate}
use Rattle.im_log_gate.proofs.BatchLemmas.{size_of-push}
use Rattle.im_log_gate.proofs.Several.{size_of-append}
use Rattle.im_log_gate.proofs.Starts.{gate_behind}
use Rattle.im_base_types.specs.Records.{Logged}
use Rattle.im_log_record.specs.Entry.{Entry}
use Rattle.im_log_record.specs.Reading.{entry_of}
use Rattle.im_log.specs.Spelled.{logged_at, record_size, first_record, records_from, batches_records, spelled_by, log_of, last_lsn}

pub record First (bytes : List ℕ) (entry : Entry) : Type 0 where
  pub least : 4 ≤ record_size bytes
  pub most : record_size bytes ≤ length bytes
  pub is : entry_of (take (record_size bytes) bytes) ≡ Some entry

pub first : (bytes : List ℕ) (entry : Entry) → first_record bytes ≡ Some entry → First bytes entry
unfolding first_record
first bytes entry is = record { least = grind (arith, nat_tests); most = grind (arith, nat_tests); is = grind (arith, nat_tests) }

pub first_is : (bytes : List ℕ) (entry : Entry) → First bytes entry → first_record bytes ≡ Some entry
unfolding first_record
first_is bytes entry f = grind (arith, nat_tests, f.least, f.most, f.is)

pub size_more : (bytes more : List ℕ) → 4 ≤ length bytes → record_size (bytes ++ more) ≡ record_size bytes
unfolding record_size
size_more bytes more le = ap (λ (l : List ℕ). from_be_bytes w32 l) (take-append-le 4 bytes more le)

-- the bytes of one record, all of them
pub record Whole (bytes : List ℕ) : Type 0 where
  pub least : 4 ≤ length bytes
  pub size : record_size bytes ≡ length bytes

-- as the codec says it of a record's spelling
pub whole : (bytes : List ℕ) → 4 ≤ length bytes → from_be_bytes w32 (take 4 bytes) ≡ length bytes → Whole bytes
unfolding record_size
whole bytes least size = record { least = least; size = size }

pub first_more : (bytes more : List ℕ) (entry : Entry) → First bytes entry → First (bytes ++ more) entry
first_more bytes more entry f =
    let size = size_more bytes more (omega (arith, f.least, f.most)) in
    record {
      least = omega (arith, size, f.least);
      most = omega (arith, size, f.most, length-append bytes more);
      is = ap (λ (n : ℕ). entry_of (take n (bytes ++ more))) size ∙ ap entry_of (take-append-le (record_size bytes) bytes more f.most) ∙ f.is;
    }

pub step : (lsn byte : ℕ) (bytes : List ℕ) (older : List Logged) (entry : Entry) → first_record (byte ∷ bytes) ≡ Some entry
    → records_from 0 lsn (byte ∷ bytes) older ≡ records_from (record_size (byte ∷ bytes) - 1) (suc lsn) bytes (logged_at lsn entry ∷ older)
step lsn byte bytes older entry is = rw (is, records_from) refl

pub none : (lsn byte : ℕ) (bytes : List ℕ) (older : List Logged) → first_record (byte ∷ bytes) ≡ None → records_from 0 lsn (byte ∷ bytes) older ≡ None
none lsn byte bytes older is = rw (is, records_from) refl

joined : (lsn byte : ℕ) (bytes more : List ℕ) (older log : List Logged) (o : Option Entry) → first_record (byte ∷ bytes) ≡ o → records_from 0 lsn (byte ∷ bytes) older ≡ Some log
    → ((now : List Logged) → records_from (record_size (byte ∷ bytes) - 1) (suc lsn) bytes now ≡ Some log
    → records_from (record_size (byte ∷ bytes) - 1) (suc lsn) (bytes ++ more) now ≡ records_from 0 (suc lsn + length bytes) more log)
    → records_from 0 lsn (byte ∷ bytes ++ more) older ≡ records_from 0 (suc lsn + length bytes) more log
joined lsn byte bytes more older log None first_is_none is onward = let never : None ≡ Some log = sym (none lsn byte bytes older first_is_none) ∙ is in cc
joined lsn byte bytes more older log (Some entry) is_entry is onward =
    let f = first (byte ∷ bytes) entry is_entry in
    let now = logged_at lsn entry ∷ older in
    let same : record_size (byte ∷ bytes ++ more) ≡ record_size (byte ∷ bytes) = size_more (byte ∷ bytes) more (omega (arith, f.least, f.most)) in
    step lsn byte (bytes ++ more) older entry (first_is (byte ∷ bytes ++ more) entry (first_more (byte ∷ bytes) more entry f))
    ∙ ap (λ (n : ℕ). records_from (n - 1) (suc lsn) (bytes ++ more) now) same
    ∙ onward now (sym (step lsn byte bytes older entry is_entry) ∙ is)

-- records after whole records
pub carry : (skip lsn : ℕ) (bytes more : List ℕ) (older log : List Logged) → records_from skip lsn bytes older ≡ Some log → records_from skip lsn (bytes ++ more) older ≡ records_from 0 (lsn + length bytes) more log
carry zero lsn [] more older log is = let e : older ≡ log = cc in let p : lsn ≡ lsn + 0 = omega arith in ap (λ (l : List Logged). records_from 0 lsn more l) e ∙ ap (λ (k : ℕ). records_from 0 k more log) p
carry (suc skip) lsn [] more older log is = let never : None ≡ Some log = is in cc
carry (suc skip) lsn (byte ∷ bytes) more older log is =
    let p : suc lsn + length bytes ≡ lsn + suc (length bytes) = omega arith in carry skip (suc lsn) bytes more older log is ∙ ap (λ (k : ℕ). records_from 0 k more log) p
carry zero lsn (byte ∷ bytes) more older log is =
    let p : suc lsn + length bytes ≡ lsn + suc (length bytes) = omega arith in
    joined lsn byte bytes more older log (first_record (byte ∷ bytes)) refl is (λ now here. carry (record_size (byte ∷ bytes) - 1) (suc lsn) bytes more now log here)
    ∙ ap (λ (k : ℕ). records_from 0 k more log) p

passed : (n lsn : ℕ) (bytes : List ℕ) (log : List Logged) → n ≡ length bytes → records_from n lsn bytes log ≡ Some log
passed zero lsn [] log e = refl
passed zero lsn (byte ∷ bytes) log e = absurd (omega (arith, e))
passed (suc n) lsn [] log e = absurd (omega (arith, e))
passed (suc n) lsn (byte ∷ bytes) log e = passed n (suc lsn) bytes log (omega (arith, e))

one : (lsn : ℕ) (bytes : List ℕ) (log : List Logged) (entry : Entry) → entry_of bytes ≡ Some entry → Whole bytes → records_from 0 lsn bytes log ≡ Some (logged_at lsn entry ∷ log)
one lsn [] log entry is w = absurd (omega (arith, w.least))
one lsn (byte ∷ bytes) log entry is w =
    let all = byte ∷ bytes in
    let f : First all entry = record { least = omega (arith, w.least, w.size); most = omega (arith, w.size); is = ap entry_of (take_all (record_size all) all (omega (arith, w.size))) ∙ is } in
    step lsn byte bytes log entry (first_is all entry f) ∙ passed (record_size all - 1) (suc lsn) bytes (logged_at lsn entry ∷ log) (omega (arith, w.size))

-- one record more
pub push : (lsn : ℕ) (bytes more : List ℕ) (older log : List Logged) (entry : Entry) → records_from 0 lsn bytes older ≡ Some log → entry_of more ≡ Some entry → Whole more
    → records_from 0 lsn (bytes ++ more) older ≡ Some (logged_at (lsn + length bytes) entry ∷ log)
push lsn bytes more older log entry is of w = carry 0 lsn bytes more older log is ∙ one (lsn + length bytes) more log entry of w

pub batch_step : (lsn : ℕ) (batch : List ℕ) (rest : List (List ℕ)) (older log : List Logged) → records_from 0 (lsn + 5) batch older ≡ Some log
    → batches_records lsn (batch ∷ rest) older ≡ batches_records (lsn + (5 + length batch)) rest log
batch_step lsn batch rest older log is = rw (is, batches_records) refl

pub batch_none : (lsn : ℕ) (batch : List ℕ) (rest : List (List ℕ)) (older : List Logged) → records_from 0 (lsn + 5) batch older ≡ None → batches_records lsn (batch ∷ rest) older ≡ None
batch_none lsn batch rest older is = rw (is, batches_records) refl

by_first : (lsn : ℕ) (b : List ℕ) (bs : List (List ℕ)) (last : List ℕ) (older log all : List Logged) (o : Option (List Logged)) → records_from 0 (lsn + 5) b older ≡ o
    → batches_records lsn (b ∷ bs) older ≡ Some log
    → ((mid : List Logged) → batches_records (lsn + (5 + length b)) bs mid ≡ Some log → batches_records (lsn + (5 + length b)) (bs ++ last ∷ []) mid ≡ Some all)
    → batches_records lsn (b ∷ bs ++ last ∷ []) older ≡ Some all
by_first lsn b bs last older log all None here is onward = let never : None ≡ Some log = sym (batch_none lsn b bs older here) ∙ is in cc
by_first lsn b bs last older log all (Some mid) here is onward = batch_step lsn b (bs ++ last ∷ []) older mid here ∙ onward mid (sym (batch_step lsn b bs older mid here) ∙ is)

pub batch_push : (lsn at : ℕ) (bs : List (List ℕ)) (last : List ℕ) (older log all : List Logged) → batches_records lsn bs older ≡ Some log → at ≡ lsn + (size_of bs + 5) → records_from 0 at last log ≡ Some all
    → batches_records lsn (bs ++ last ∷ []) older ≡ Some all
batch_push lsn at [] last older log all is place more =
    let e : older ≡ log = cc in let p : lsn + 5 ≡ at = omega (arith, place) in
    batch_step lsn last [] older all (ap (λ (l : List Logged). records_from 0 (lsn + 5) last l) e ∙ ap (λ (k : ℕ). records_from 0 k last log) p ∙ more)
batch_push lsn at (b ∷ bs) last older log all is place more =
    by_first lsn b bs last older log all (records_from 0 (lsn + 5) b older) refl is (λ mid here. batch_push (lsn + (5 + length b)) at bs last mid log all here (omega (arith, place)) more)

append_by : (lsn : ℕ) (b : List ℕ) (bs more : List (List ℕ)) (older log : List Logged) (o : Option (List Logged)) → records_from 0 (lsn + 5) b older ≡ o
    → batches_records lsn (b ∷ bs) older ≡ Some log
    → ((mid : List Logged) → batches_records (lsn + (5 + length b)) bs mid ≡ Some log → batches_records (lsn + (5 + length b)) (bs ++ more) mid ≡ batches_records (lsn + (5 + length b) + size_of bs) more log)
    → batches_records lsn (b ∷ bs ++ more) older ≡ batches_records (lsn + (5 + length b) + size_of bs) more log
append_by lsn b bs more older log None here is onward = let never : None ≡ Some log = sym (batch_none lsn b bs older here) ∙ is in cc
append_by lsn b bs more older log (Some mid) here is onward = batch_step lsn b (bs ++ more) older mid here ∙ onward mid (sym (batch_step lsn b bs older mid here) ∙ is)

-- batches after batches
pub batches_append : (lsn : ℕ) (bs more : List (List ℕ)) (older log : List Logged) → batches_records lsn bs older ≡ Some log → batches_records lsn (bs ++ more) older ≡ batches_records (lsn + size_of bs) more log
batches_append lsn [] more older log is =
    let e : older ≡ log = cc in let p : lsn ≡ lsn + 0 = omega arith in
    ap (λ (l : List Logged). batches_records lsn more l) e ∙ ap (λ (k : ℕ). batches_records k more log) p
batches_append lsn (b ∷ bs) more older log is =
    let p : lsn + (5 + length b) + size_of bs ≡ lsn + (5 + length b + size_of bs) = omega arith in
    append_by lsn b bs more older log (records_from 0 (lsn + 5) b older) refl is (λ mid here. batches_append (lsn + (5 + length b)) bs more mid log here)
    ∙ ap (λ (k : ℕ). batches_records k more log) p

-- these batches and one more
pub batches_push : (lsn : ℕ) (bs : List (List ℕ)) (last : List ℕ) (older mid all : List Logged) → batches_records lsn bs older ≡ Some mid → records_from 0 (lsn + size_of bs + 5) last mid ≡ Some all → batches_records lsn (bs ++ last ∷ []) older ≡ Some all
batches_push lsn bs last older mid all is more = batches_append lsn bs (last ∷ []) older mid is ∙ batch_step (lsn + size_of bs) last [] mid all more

-- the last gate lies at 2^62 or below
spelled_room : (base place : ℕ) (bs : List (List ℕ)) (log : List Logged) → spelled_by base place (Some bs) ≡ Some log → base + (place + size_of bs) ≤ 2 ^ 62
spelled_room base place bs log is = grind (arith, nat_tests)

spelled_records : (base place : ℕ) (bs : List (List ℕ)) (log : List Logged) → spelled_by base place (Some bs) ≡ Some log → batches_records (base + place) bs [] ≡ Some log
spelled_records base place bs log is = grind (arith, nat_tests)

spelled_is : (base place : ℕ) (bs : List (List ℕ)) (log : List Logged) → base + (place + size_of bs) ≤ 2 ^ 62 → batches_records (base + place) bs [] ≡ Some log → spelled_by base place (Some bs) ≡ Some log
spelled_is base place bs log room is = grind (arith, nat_tests, room, is)

-- the log of a file with these batches
pub log_room : (base : ℕ) (file : List ℕ) (bs : List (List ℕ)) (log : List Logged) → batches (first_gate file) file ≡ Some bs → log_of base file ≡ Some log → base + (first_gate file + size_of bs) ≤ 2 ^ 62
log_room base file bs log is spells = spelled_room base (first_gate file) bs log (sym (ap (spelled_by base (first_gate file)) is) ∙ spells)

pub log_records : (base : ℕ) (file : List ℕ) (bs : List (List ℕ)) (log : List Logged) → batches (first_gate file) file ≡ Some bs → log_of base file ≡ Some log → batches_records (base + first_gate file) bs [] ≡ Some log
log_records base file bs log is spells = spelled_records base (first_gate file) bs log (sym (ap (spelled_by base (first_gate file)) is) ∙ spells)

pub log_is : (base : ℕ) (file : List ℕ) (bs : List (List ℕ)) (log : List Logged) → batches (first_gate file) file ≡ Some bs → base + (first_gate file + size_of bs) ≤ 2 ^ 62 → batches_records (base + first_gate file) bs [] ≡ Some log
    → log_of base file ≡ Some log
log_is base file bs log is room records = ap (spelled_by base (first_gate file)) is ∙ spelled_is base (first_gate file) bs log room records

-- the log of a file with the same batches after a first gate at the same place
pub log_same : (base : ℕ) (file new : List ℕ) → first_gate new ≡ first_gate file → batches (first_gate new) new ≡ batches (first_gate file) file → log_of base new ≡ log_of base file
log_same base file new same put = ap (λ (n : ℕ). spelled_by base n (batches (first_gate new) new)) same ∙ ap (spelled_by base (first_gate file)) put

-- one batch more
pub log_with : (base place : ℕ) (file new last : List ℕ) (before : List (List ℕ)) (durable all : List Logged) → first_gate new ≡ first_gate file → batches (first_gate file) file ≡ Some before → place ≡ first_gate file + size_of before
    → base + (place + 5) + length last ≤ 2 ^ 62 → log_of base file ≡ Some durable → records_from 0 (base + (place + 5)) last durable ≡ Some all → batches (first_gate new) new ≡ with_batch last (batches (first_gate file) file) → log_of base new ≡ Some all
log_with base place file new last before durable all same is placed room spells more put =
    log_is base new (before ++ last ∷ []) all (put ∙ ap (with_batch last) is) (omega (arith, room, placed, same, size_of-push before last))
    (batch_push (base + first_gate new) (base + (place + 5)) before last [] durable all
    (ap (λ (n : ℕ). batches_records (base + n) before []) same ∙ log_records base file before durable is spells) (omega (arith, placed, same)) more)

-- several batches more
pub log_with_all : (base place : ℕ) (file new : List ℕ) (more before : List (List ℕ)) (durable all : List Logged) → first_gate new ≡ first_gate file → batches (first_gate file) file ≡ Some before → place ≡ first_gate file + size_of before
    → base + place + size_of more ≤ 2 ^ 62 → log_of base file ≡ Some durable → batches_records (base + place) more durable ≡ Some all → batches (first_gate new) new ≡ with_batches more (batches (first_gate file) file) → log_of base new ≡ Some all
log_with_all base place file new more before durable all same is placed room spells records put =
    log_is base new (before ++ more) all (put ∙ ap (with_batches more) is) (omega (arith, room, placed, same, size_of-append before more))
    (batches_append (base + first_gate new) before more [] durable (ap (λ (n : ℕ). batches_records (base + n) before []) same ∙ log_records base file before durable is spells)
    ∙ ap (λ (k : ℕ). batches_records k more durable) (let e : base + first_gate new + size_of before ≡ base + place = omega (arith, placed, same) in e)
    ∙ records)

ends_at : (base : ℕ) (o : Option Entry) (lsn byte : ℕ) (bytes : List ℕ) (older log : List Logged) → first_record (byte ∷ bytes) ≡ o → records_from 0 lsn (byte ∷ bytes) older ≡ Some log
    → ((now : List Logged) → last_lsn base now < suc lsn → records_from (record_size (byte ∷ bytes) - 1) (suc lsn) bytes now ≡ Some log → last_lsn base log < suc lsn + length bytes) → last_lsn base log < suc lsn + length bytes
ends_at base None lsn byte bytes older log here is onward = let never : None ≡ Some log = sym (none lsn byte bytes older here) ∙ is in cc
ends_at base (Some entry) lsn byte bytes older log here is onward = onward (logged_at lsn entry ∷ older) (omega arith) (sym (step lsn byte bytes older entry here) ∙ is)

-- LSNs lie before the end
records_end : (base : ℕ) (skip lsn : ℕ) (bytes : List ℕ) (older log : List Logged) → last_lsn base older < lsn → records_from skip lsn bytes older ≡ Some log → last_lsn base log < lsn + length bytes
records_end base zero lsn [] older log below is = let e : older ≡ log = cc in omega (arith, below, ap (last_lsn base) e)
records_end base (suc skip) lsn [] older log below is = let never : None ≡ Some log = is in cc
records_end base (suc skip) lsn (byte ∷ bytes) older log below is = omega (arith, records_end base skip (suc lsn) bytes older log (omega (arith, below)) is)
records_end base zero lsn (byte ∷ bytes) older log below is =
    omega (arith, ends_at base (first_record (byte ∷ bytes)) lsn byte bytes older log refl is (λ now so here. records_end base (record_size (byte ∷ bytes) - 1) (suc lsn) bytes now log so here))

end_by : (base : ℕ) (o : Option (List Logged)) (lsn : ℕ) (b : List ℕ) (bs : List (List ℕ)) (older log : List Logged) → last_lsn base older < lsn → records_from 0 (lsn + 5) b older ≡ o → batches_records lsn (b ∷ bs) older ≡ Some log
    → ((mid : List Logged) → last_lsn base mid < lsn + (5 + length b) → batches_records (lsn + (5 + length b)) bs mid ≡ Some log → last_lsn base log < lsn + (5 + length b) + size_of bs) → last_lsn base log < lsn + (5 + length b) + size_of bs
end_by base None lsn b bs older log below here is onward = let never : None ≡ Some log = sym (batch_none lsn b bs older here) ∙ is in cc
end_by base (Some mid) lsn b bs older log below here is onward = onward mid (omega (arith, records_end base 0 (lsn + 5) b older mid (omega (arith, below)) here)) (sym (batch_step lsn b bs older mid here) ∙ is)

batches_end : (base : ℕ) (lsn : ℕ) (bs : List (List ℕ)) (older log : List Logged) → last_lsn base older < lsn → batches_records lsn bs older ≡ Some log → last_lsn base log < lsn + size_of bs
batches_end base lsn [] older log below is = let e : older ≡ log = cc in omega (arith, below, ap (last_lsn base) e)
batches_end base lsn (b ∷ bs) older log below is =
    omega (arith, end_by base (records_from 0 (lsn + 5) b older) lsn b bs older log below refl is (λ mid so here. batches_end base (lsn + (5 + length b)) bs mid log so here))

pub log_end : (base : ℕ) (file : List ℕ) (bs : List (List ℕ)) (log : List Logged) → batches (first_gate file) file ≡ Some bs → log_of base file ≡ Some log → last_lsn base log < base + first_gate file + size_of bs
log_end base file bs log is spells = batches_end base (base + first_gate file) bs [] log (omega (arith, gate_behind file)) (log_records base file bs log is spells)

pub not_refused : (base : ℕ) (file : List ℕ) (log : List Logged) → log_of base file ≡ Some log → batches (first_gate file) file ≡ None → ⊥
not_refused base file log spells is = let never : None ≡ Some log = sym (ap (spelled_by base (first_gate file)) is) ∙ spells in cc
