-- The first of the records that bytes spell, and the others.
use Rattle.std.proofs.Common.{◌≡◌, ℕ, zero, suc, ◌+◌, ◌-◌, ◌≤◌, List, [], ◌∷◌, ◌++◌, length, drop, Option, Some, None, refl, sym, ◌∙◌, ap, arith, append_assoc}
use Rattle.im_base_types.specs.Records.{Logged}
use Rattle.im_theory_log.specs.Histories.{IsFront}
use Rattle.im_log_record.specs.Entry.{Entry}
use Rattle.im_log.specs.Spelled.{logged_at, record_size, first_record, records_from, batches_records}
use Rattle.im_log.proofs.Spells.{First, first, step, none, batch_step, batch_none}

-- bytes that are passed over
pub passes : (n lsn : ℕ) (bytes : List ℕ) (older log : List Logged) → n ≤ length bytes → records_from n lsn bytes older ≡ Some log → records_from 0 (lsn + n) (drop n bytes) older ≡ Some log
passes zero lsn bytes older log le is = ap (λ (k : ℕ). records_from 0 k bytes older) (omega arith) ∙ is
passes (suc n) lsn [] older log le is = let never : None ≡ Some log = is in cc
passes (suc n) lsn (byte ∷ bytes) older log le is = ap (λ (k : ℕ). records_from 0 k (drop n bytes) older) (omega arith) ∙ passes n (suc lsn) bytes older log (omega (arith, le)) is

-- the first record of some bytes, and the others
pub record Taken (lsn : ℕ) (bytes : List ℕ) (older log : List Logged) : Type 0 where
  pub entry : Entry
  pub first : First bytes entry
  pub onward : records_from 0 (lsn + record_size bytes) (drop (record_size bytes) bytes) (logged_at lsn entry ∷ older) ≡ Some log

taken_by : (o : Option Entry) (lsn byte : ℕ) (bytes : List ℕ) (older log : List Logged) → first_record (byte ∷ bytes) ≡ o → records_from 0 lsn (byte ∷ bytes) older ≡ Some log → Taken lsn (byte ∷ bytes) older log
taken_by None lsn byte bytes older log here is = let never : None ≡ Some log = sym (none lsn byte bytes older here) ∙ is in cc
taken_by (Some entry) lsn byte bytes older log here is =
    let f = first (byte ∷ bytes) entry here in
    let n : ℕ = record_size (byte ∷ bytes) - 1 in
    let more : suc n ≡ record_size (byte ∷ bytes) = omega (arith, f.least) in
    let now = logged_at lsn entry ∷ older in
    let here_on = passes (suc n) lsn (byte ∷ bytes) now log (omega (arith, f.most, more)) (sym (step lsn byte bytes older entry here) ∙ is) in
    record {
      entry = entry;
      first = f;
      onward = ap (λ (k : ℕ). records_from 0 (lsn + k) (drop k (byte ∷ bytes)) now) (sym more) ∙ here_on;
    }

pub taken : (lsn : ℕ) (bytes : List ℕ) (older log : List Logged) → 1 ≤ length bytes → records_from 0 lsn bytes older ≡ Some log → Taken lsn bytes older log
taken lsn [] older log some is = absurd (omega (arith, some))
taken lsn (byte ∷ bytes) older log some is = taken_by (first_record (byte ∷ bytes)) lsn byte bytes older log refl is

-- what records join is a front
front_more : (r : Logged) (older log : List Logged) → IsFront (r ∷ older) log → IsFront older log
front_more r older log f = record { newer = f.newer ++ r ∷ []; is = append_assoc f.newer (r ∷ []) older ∙ f.is }

front_by : (o : Option Entry) (lsn byte : ℕ) (bytes : List ℕ) (older log : List Logged) → first_record (byte ∷ bytes) ≡ o → records_from 0 lsn (byte ∷ bytes) older ≡ Some log
    → ((now : List Logged) → records_from (record_size (byte ∷ bytes) - 1) (suc lsn) bytes now ≡ Some log → IsFront now log) → IsFront older log
front_by None lsn byte bytes older log here is onward = let never : None ≡ Some log = sym (none lsn byte bytes older here) ∙ is in cc
front_by (Some entry) lsn byte bytes older log here is onward =
    front_more (logged_at lsn entry) older log (onward (logged_at lsn entry ∷ older) (sym (step lsn byte bytes older entry here) ∙ is))

pub records_front : (skip lsn : ℕ) (bytes : List ℕ) (older log : List Logged) → records_from skip lsn bytes older ≡ Some log → IsFront older log
records_front zero lsn [] older log is = let e : older ≡ log = cc in record { newer = []; is = e }
records_front (suc skip) lsn [] older log is = let never : None ≡ Some log = is in cc
records_front (suc skip) lsn (byte ∷ bytes) older log is = records_front skip (suc lsn) bytes older log is
records_front zero lsn (byte ∷ bytes) older log is =
    front_by (first_record (byte ∷ bytes)) lsn byte bytes older log refl is (λ now here. records_front (record_size (byte ∷ bytes) - 1) (suc lsn) bytes now log here)

-- the first of some batches, and the others
pub record BatchTaken (lsn : ℕ) (batch : List ℕ) (rest : List (List ℕ)) (older log : List Logged) : Type 0 where
  pub mid : List Logged
  pub in_batch : records_from 0 (lsn + 5) batch older ≡ Some mid
  pub onward : batches_records (lsn + (5 + length batch)) rest mid ≡ Some log

batch_taken_by : (o : Option (List Logged)) (lsn : ℕ) (b : List ℕ) (bs : List (List ℕ)) (older log : List Logged) → records_from 0 (lsn + 5) b older ≡ o → batches_records lsn (b ∷ bs) older ≡ Some log → BatchTaken lsn b bs older log
batch_taken_by None lsn b bs older log here is = let never : None ≡ Some log = sym (batch_none lsn b bs older here) ∙ is in cc
batch_taken_by (Some mid) lsn b bs older log here is = record { mid = mid; in_batch = here; onward = sym (batch_step lsn b bs older mid here) ∙ is }

pub batch_taken : (lsn : ℕ) (b : List ℕ) (bs : List (List ℕ)) (older log : List Logged) → batches_records lsn (b ∷ bs) older ≡ Some log → BatchTaken lsn b bs older log
batch_taken lsn b bs older log is = batch_taken_by (records_from 0 (lsn + 5) b older) lsn b bs older log refl is

pub fronts_then : (a b c : List Logged) → IsFront a b → IsFront b c → IsFront a c
fronts_then a b c first second = record {
  newer = second.newer ++ first.newer;
  is = append_assoc second.newer first.newer a ∙ ap (λ (l : List Logged). second.newer ++ l) first.is ∙ second.is;
}

pub batches_front : (lsn : ℕ) (bs : List (List ℕ)) (older log : List Logged) → batches_records lsn bs older ≡ Some log → IsFront older log
batches_front lsn [] older log is = let e : older ≡ log = cc in record { newer = []; is = e }
batches_front lsn (b ∷ bs) older log is =
    let t = batch_taken lsn b bs older log is in
    fronts_then older t.mid log (records_front 0 (lsn + 5) b older t.mid t.in_batch) (batches_front (lsn + (5 + length b)) bs t.mid log t.onward)
