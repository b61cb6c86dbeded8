-- What a force and an append keep.
use Rattle.std.proofs.Common.{◌≡◌, inl, inr, ⊎_elim, ℕ, zero, suc, ◌+◌, ◌<◌, ◌≤◌, false, List, [], ◌∷◌, ◌++◌, length, take, drop, Some, None, refl, sym, ◌∙◌, ap, subst, arith, append-nil, length-drop, length-append}
use Rattle.std.proofs.lemmas.List.{length-take-le, take-take, take-append-le, take_at}
use Rattle.im_base_types.specs.declared.file_id.FileId.{FileId}
use Rattle.im_base_types.specs.declared.file_id.FileId.TheVariants.{Log}
use Rattle.im_base_types.specs.Records.{Logged}
use Rattle.im_theory_log.specs.Histories.{Base, IsFront, end_of}
use Rattle.im_base_disk.specs.declared.disk.Disk.{Ghosts}
use Rattle.im_base_disk.specs.Disk.{Files, Only}
use Rattle.im_base_disk.specs.Runs.{LeavesIn}
use Rattle.im_base_disk.proofs.Runs.{in_started, in_weakened}
use Rattle.im_log_gate.specs.Batches.{batches, batches_from, with_batches, IsBeforeOrWithAll, size_of, Fits, IsFilled, IsLaid, gated}
use Rattle.im_log_gate.proofs.BatchLemmas.{size_of-push}
use Rattle.im_log_gate.proofs.Several.{gated_long}
use Rattle.std.proofs.lemmas.List.Elements.{All-nil}
use Rattle.im_log_gate.specs.Header.{base_of, first_gate, generation_of, StartsAlike, IsMade}
use Rattle.im_log_gate.specs.Gate.{file_of, first_of, place_of, has_failed, logged, InOneFile, StartsAs, IsReady}
use Rattle.im_log_gate.specs.declared.gate.Gate.{Gate}
use Rattle.im_log_gate.proofs.Frames.{ready_place}
use Rattle.im_log_gate.proofs.Starts.{front_generation, front_starts, front_made}
use Rattle.im_log_record.specs.Entry.{Entry}
use Rattle.im_log_record.specs.Reading.{entry_of}
use Rattle.im_log.specs.declared.log_file.LogFile.{LogFile}
use Rattle.im_log.specs.Gates.{IsOfLog}
use Rattle.im_log.specs.Spelled.{logged_at, records_from, batches_records, log_of, last_lsn}
use Rattle.im_log.specs.LogFile.{buffered, batch_lsn, next_lsn, IsOpen, IsLog, Sealed}
use Rattle.im_log.specs.Kept.{HasLog, HasMoreBatches, SpellsEither, Appended, Forced}
use Rattle.im_log.proofs.Spells.{Whole, push, log_same, log_with_all, batches_push}

pub waiting : (log : LogFile) → length (buffered log) ≡ log.used
waiting log =
    omega (arith, length-drop (log.start + 4) (take (log.start + 4 + log.used) log.buffer.items), length-take-le (log.start + 4 + log.used) log.buffer.items (omega (arith, log.sized, log.within)))

empty : (l : List ℕ) → length l ≡ 0 → l ≡ []
empty [] is = refl
empty (x ∷ l) is = absurd (omega (arith, is))

no_batches : (bs : List (List ℕ)) → size_of bs ≡ 0 → bs ≡ []
no_batches [] is = refl
no_batches (b ∷ bs) is = absurd (omega (arith, is))

abbrev pub nothing_sealed : (log : LogFile) → log.start ≡ 0 → Sealed log
nothing_sealed log is = record { batches = []; filled = subst (λ (k : ℕ). IsFilled [] (take k log.buffer.items)) (sym is) (record { fit = All-nil Fits; is = refl }) }

pub nothing_buffered : (lsn : ℕ) (log : LogFile) (all : List Logged) → log.used ≡ 0 → records_from 0 lsn (buffered log) all ≡ Some all
nothing_buffered lsn log all none = ap (λ (l : List ℕ). records_from 0 lsn l all) (empty (buffered log) (waiting log ∙ none))

-- what waits in front of the batch that is being filled has its place in the buffer
pub sealed_size : (log : LogFile) (s : Sealed log) → size_of s.batches ≡ log.start
sealed_size log s = omega (arith, ap length s.filled.is, length-append (gated s.batches) (1 ∷ []), gated_long s.batches, length-take-le log.start log.buffer.items (omega (arith, log.sized)))

-- what stands in front of a place stays where bytes come to stand after it
pub front_kept : (old new bytes : List ℕ) (start at end : ℕ) → start ≤ at → at ≤ end → at ≤ length old → take end new ≡ take at old ++ bytes → take start new ≡ take start old
front_kept old new bytes start at end le on within is =
    sym (take-take start end new (omega (arith, le, on)))
    ∙ ap (λ (l : List ℕ). take start l) is
    ∙ take-append-le start (take at old) bytes (omega (arith, le, within, length-take-le at old within))
    ∙ take-take start at old le

-- a vector that a call wrote to has what the call left
pub written_back : (items new : List ℕ) (len : ℕ) → length new ≡ len → take len (new ++ drop (length new) items) ≡ new
written_back items new len is = take_at new (drop (length new) items) len is

-- all that waits, as batches
abbrev pub waits : (log : LogFile) → Sealed log → List (List ℕ)
waits log s = s.batches ++ buffered log ∷ []

pub waits_size : (log : LogFile) (s : Sealed log) → size_of (waits log s) ≡ log.start + (5 + log.used)
waits_size log s = omega (arith, size_of-push s.batches (buffered log), sealed_size log s, waiting log)

-- the buffer once its last batch is ended
pub laid_all : (log : LogFile) (shown room again : List ℕ) → shown ≡ log.buffer.items → again ≡ room
    → ((bs : List (List ℕ)) → IsFilled bs (take log.start shown) → IsLaid (bs ++ drop (log.start + 4) (take (log.start + 4 + log.used) shown) ∷ []) (take (log.start + 4 + log.used + 1) room))
    → (s : Sealed log) → IsLaid (waits log s) (take (log.start + 4 + log.used + 1) again)
laid_all log shown room again is same closed s =
    subst (λ (l : List ℕ). IsLaid (waits log s) (take (log.start + 4 + log.used + 1) l)) (sym same)
    (subst (λ (l : List ℕ). IsLaid (s.batches ++ drop (log.start + 4) (take (log.start + 4 + log.used) l) ∷ []) (take (log.start + 4 + log.used + 1) room)) is
    (closed s.batches (subst (λ (l : List ℕ). IsFilled s.batches (take log.start l)) (sym is) s.filled)))

-- nothing was begun where nothing waits
pub none_begun : (start used : ℕ) → (1 ≤ start → 1 ≤ used) → used ≡ 0 → start ≡ 0
none_begun zero used filling none = refl
none_begun (suc start) used filling none = let some : 1 ≤ used = filling (omega arith) in absurd (omega (arith, some, none))

-- more records in the batch that is being filled
abbrev pub still_sealed : (log new : LogFile) → Sealed log → new.start ≡ log.start → take log.start new.buffer.items ≡ take log.start log.buffer.items → Sealed new
still_sealed log new s start same = record {
  batches = s.batches;
  filled = subst (λ (k : ℕ). IsFilled s.batches (take k new.buffer.items)) (sym start) (subst (λ (l : List ℕ). IsFilled s.batches l) (sym same) s.filled);
}

-- a fact of the gate's file and first gate is one of the log's
pub of_log : (gate : Gate) (first : ℕ) → IsOfLog gate → first_of gate ≡ first → (P : FileId → ℕ → Type 0) → P (file_of gate) (first_of gate) → P Log first
of_log gate first is at P p = subst (λ (f : FileId). P f first) is.file (subst (λ (n : ℕ). P (file_of gate) n) at p)

-- where the last gate stands
pub record Placed {D : Type 0} (d : Ghosts D) (gate : Gate) (disk : D) : Type 0 where
  pub before : List (List ℕ)
  pub is : batches (first_gate (d.seen disk Log)) (d.seen disk Log) ≡ Some before
  pub place : place_of gate ≡ first_gate (d.seen disk Log) + size_of before

pub placed : {D : Type 0} (d : Ghosts D) (gate : Gate) (disk : D) → IsOfLog gate → StartsAs gate (d.seen disk Log) → IsReady d gate disk → has_failed gate ≡ false → d.tells → Placed d gate disk
placed d gate disk of starts ready works told =
    let at = ready_place d gate disk ready works told in
    record {
      before = at.0;
      is = of_log gate (first_gate (d.seen disk Log)) of starts.first (λ f n. batches n (d.seen disk f) ≡ Some at.0) at.1;
      place = omega (arith, at.2, starts.first);
    }

-- a gate whose batches can be told lies within its file
pub gate_within : (place : ℕ) (file : List ℕ) (bs : List (List ℕ)) → batches_from place file ≡ Some bs → place < length file
gate_within place [] bs is = let never : None ≡ Some bs = is in cc
gate_within zero (byte ∷ file) bs is = omega arith
gate_within (suc place) (byte ∷ file) bs is = omega (arith, gate_within place file bs is)

-- what stands before a gate makes it a made file
pub made_kept : (file c : List ℕ) (bs : List (List ℕ)) → take (first_gate file) c ≡ take (first_gate file) file → batches (first_gate file) c ≡ Some bs → IsMade file → IsMade c
made_kept file c bs same is made = front_made file c same (gate_within (first_gate file) c bs is) made

-- two facts of one run
pub both_leave : {D : Type 0} (d : Ghosts D) (file : FileId) (old new : D) (P Q : List ℕ → Type 0) → LeavesIn d file old new P → LeavesIn d file old new Q → LeavesIn d file old new (λ c. P c × Q c)
both_leave d file old new P Q first second = record {
  later = first.later;
  each = λ told c left.
      let p = first.each told c left in
      let q = second.each told c left in
      (p.0, p.1, record { changed = (p.2.changed, q.2.changed); others = p.2.others });
  before = λ told t c le since. ⊎_elim (λ was. inl was)
      (λ p. ⊎_elim (λ was. inl was) (λ q. inr (p.0, p.1, record { changed = (p.2.changed, q.2.changed); others = p.2.others })) (second.before told t c le since))
      (first.before told t c le since);
}

-- what a stop leaves, the file itself has too
pub seen_now : {D : Type 0} (d : Ghosts D) (file : FileId) (old new : D) (P : List ℕ → Type 0) → ((t : ℕ) (c : Files) → t ≤ d.moment new → d.may_leave new c → d.left_since new t c) → (d.tells → d.may_leave new (d.seen new))
    → LeavesIn d file old new P → d.tells → P (d.seen new file)
seen_now d file old new P counts_now may_stay run told =
    let left = run.each told (d.seen new) (counts_now (d.moment old) (d.seen new) run.later (may_stay told)) in
    left.2.changed

-- after a put the file says where the log starts as before
pub alike_now : {D : Type 0} (d : Ghosts D) (gate : Gate) (old new : D) → IsOfLog gate → StartsAs gate (d.seen old Log)
    → ((t : ℕ) (c : Files) → t ≤ d.moment new → d.may_leave new c → d.left_since new t c) → (d.tells → d.may_leave new (d.seen new))
    → LeavesIn d (file_of gate) old new (λ c. take (first_of gate) c ≡ take (first_of gate) (d.seen old (file_of gate))) → d.tells → StartsAlike (d.seen old Log) (d.seen new Log)
alike_now d gate old new of starts counts_now may_stay front told =
    let file = d.seen old Log in
    let Q : List ℕ → Type 0 = λ bytes. take (first_gate file) bytes ≡ take (first_gate file) file in
    let front_log = of_log gate (first_gate file) of starts.first (λ f n. LeavesIn d f old new (λ c. take n c ≡ take n (d.seen old f))) front in
    front_starts file (d.seen new Log) (seen_now d Log old new Q counts_now may_stay front_log told)

-- and is of the same generation
pub generation_now : {D : Type 0} (d : Ghosts D) (gate : Gate) (old new : D) → IsOfLog gate → StartsAs gate (d.seen old Log)
    → ((t : ℕ) (c : Files) → t ≤ d.moment new → d.may_leave new c → d.left_since new t c) → (d.tells → d.may_leave new (d.seen new))
    → LeavesIn d (file_of gate) old new (λ c. take (first_of gate) c ≡ take (first_of gate) (d.seen old (file_of gate))) → d.tells → generation_of (d.seen new Log) ≡ generation_of (d.seen old Log)
generation_now d gate old new of starts counts_now may_stay front told =
    let file = d.seen old Log in
    let Q : List ℕ → Type 0 = λ bytes. take (first_gate file) bytes ≡ take (first_gate file) file in
    let front_log = of_log gate (first_gate file) of starts.first (λ f n. LeavesIn d f old new (λ c. take n c ≡ take n (d.seen old f))) front in
    front_generation file (d.seen new Log) (seen_now d Log old new Q counts_now may_stay front_log told)

pub starts_kept : (gate new : Gate) (file c : List ℕ) → StartsAs gate file → InOneFile gate new → StartsAlike file c → generation_of c ≡ generation_of file → StartsAs new c
starts_kept gate new file c starts same alike as_before = record {
  first = same.first ∙ starts.first ∙ sym alike.gate;
  base = same.base ∙ starts.base ∙ sym alike.base;
  least = same.least ∙ starts.least ∙ sym alike.number;
  generation = same.generation ∙ starts.generation ∙ sym as_before;
}

pub either_made : (base : ℕ) (durable all : List Logged) (was file : List ℕ) → SpellsEither base durable all was file → IsMade file
either_made base durable all was file has = ⊎_elim (λ (h : HasLog base durable file). h.made) (λ (h : HasLog base all file). h.made) has.0

module _ {D : Type 0} (d : Ghosts D) (base : ℕ) (all durable : List Logged) where
  -- what waits, as batches after the gate
  waits_spell : (log : LogFile) (disk : D) (h : IsLog d base all durable log disk) → batches_records (base + place_of log.gate) (waits log h.sealed) durable ≡ Some all
  waits_spell log disk h =
      ap (λ (k : ℕ). batches_records (k + place_of log.gate) (waits log h.sealed) durable) (sym h.based)
      ∙ batches_push (log.base + place_of log.gate) h.sealed.batches (buffered log) durable h.mid all h.in_sealed
      (ap (λ (k : ℕ). records_from 0 k (buffered log) h.mid) (let e : log.base + place_of log.gate + size_of h.sealed.batches + 5 ≡ batch_lsn log = omega (arith, sealed_size log h.sealed) in e) ∙ h.in_buffer)

  -- the file with all that waits
  with_buffer : (log : LogFile) (disk : D) → IsOpen d log disk → (h : IsLog d base all durable log disk) → 1 ≤ log.used → (c : List ℕ) → first_gate c ≡ first_gate (d.seen disk Log)
      → batches (first_gate (d.seen disk Log)) c ≡ with_batches (waits log h.sealed) (batches (first_gate (d.seen disk Log)) (d.seen disk Log)) → log_of base c ≡ Some all
  with_buffer log disk is_open h some c same put =
      let at = placed d log.gate disk log.of_log (is_open.starts h.tells) is_open.ready (is_open.working h.working) h.tells in
      log_with_all base (place_of log.gate) (d.seen disk Log) c (waits log h.sealed) at.before durable all same at.is at.place (omega (arith, is_open.room h.working some, h.based, waits_size log h.sealed)) h.on_disk
      (waits_spell log disk h) (ap (λ (n : ℕ). batches n c) same ∙ put)

  -- what a stop within a force leaves
  pub force_stops : (log : LogFile) (disk new_disk : D) → 1 ≤ log.used → IsOpen d log disk → (h : IsLog d base all durable log disk)
      → LeavesIn d (file_of log.gate) disk new_disk (IsBeforeOrWithAll (first_of log.gate) (waits log h.sealed) (logged d log.gate disk))
      → LeavesIn d (file_of log.gate) disk new_disk (λ bytes. take (first_of log.gate) bytes ≡ take (first_of log.gate) (d.seen disk (file_of log.gate)))
      → LeavesIn d Log disk new_disk (SpellsEither base durable all (d.seen disk Log))
  force_stops log disk new_disk some is_open h run front =
      let file = d.seen disk Log in
      let more = waits log h.sealed in
      let starts = is_open.starts h.tells in
      let run_log = of_log log.gate (first_gate file) log.of_log starts.first (λ f n. LeavesIn d f disk new_disk (IsBeforeOrWithAll n more (batches n (d.seen disk f)))) run in
      let front_log = of_log log.gate (first_gate file) log.of_log starts.first (λ f n. LeavesIn d f disk new_disk (λ bytes. take n bytes ≡ take n (d.seen disk f))) front in
      let at = placed d log.gate disk log.of_log starts is_open.ready (is_open.working h.working) h.tells in
      let P = IsBeforeOrWithAll (first_gate file) more (batches (first_gate file) file) in
      let Q : List ℕ → Type 0 = λ bytes. take (first_gate file) bytes ≡ take (first_gate file) file in
      in_weakened d Log disk new_disk (λ c. P c × Q c) (SpellsEither base durable all file) (both_leave d Log disk new_disk P Q run_log front_log)
      (λ told c left. (
        ⊎_elim
            (λ before. inl (record {
              made = made_kept file c at.before left.1 (before ∙ at.is) h.made;
              starts = (front_starts file c left.1).base ∙ h.starts;
              spells = log_same base file c (front_starts file c left.1).gate (ap (λ (n : ℕ). batches n c) (front_starts file c left.1).gate ∙ before) ∙ h.on_disk;
            }))
            (λ put. inr (record {
              made = made_kept file c (at.before ++ more) left.1 (put ∙ ap (with_batches more) at.is) h.made;
              starts = (front_starts file c left.1).base ∙ h.starts;
              spells = with_buffer log disk is_open h some c (front_starts file c left.1).gate put;
            }))
            left.0,
        front_generation file c left.1,
      ))

  -- after a force
  pub forced : (log new : LogFile) (disk new_disk : D) → 1 ≤ log.used → IsOpen d log disk → (h : IsLog d base all durable log disk)
      → (d.tells → logged d new.gate new_disk ≡ with_batches (waits log h.sealed) (logged d log.gate disk)) → first_of new.gate ≡ first_of log.gate → StartsAlike (d.seen disk Log) (d.seen new_disk Log) → generation_of (d.seen new_disk Log) ≡ generation_of (d.seen disk Log) → IsMade (d.seen new_disk Log)
      → new.failed ≡ false → new.base ≡ log.base → new.start ≡ 0 → new.used ≡ 0 → place_of new.gate ≡ place_of log.gate + (log.start + 4 + log.used + 1) → Forced d base all durable disk new new_disk
  forced log new disk new_disk some is_open h put first alike as_before made works same start used place =
      let file = d.seen disk Log in
      let more = waits log h.sealed in
      let starts = is_open.starts h.tells in
      let put_log : batches (first_gate file) (d.seen new_disk Log) ≡ with_batches more (batches (first_gate file) file) =
      of_log log.gate (first_gate file) log.of_log starts.first (λ f n. batches (first_gate file) (d.seen new_disk Log) ≡ with_batches more (batches n (d.seen disk f)))
      (of_log new.gate (first_gate file) new.of_log (first ∙ starts.first) (λ f n. batches n (d.seen new_disk f) ≡ with_batches more (logged d log.gate disk)) (put h.tells)) in
      record {
        log = record {
          tells = h.tells;
          working = works;
          based = same ∙ h.based;
          made = made;
          starts = alike.base ∙ h.starts;
          on_disk = with_buffer log disk is_open h some (d.seen new_disk Log) alike.gate put_log;
          sealed = nothing_sealed new start;
          mid = all;
          in_sealed = refl;
          in_buffer = nothing_buffered (batch_lsn new) new all used;
          front = record { newer = []; is = refl };
          below = omega (arith, h.below, same, start, used, place);
        };
        file = record { more = more; grown = λ bs is. ap (λ (n : ℕ). batches n (d.seen new_disk Log)) alike.gate ∙ put_log ∙ ap (with_batches more) is; generation = as_before };
      }

  -- after a call that only reads
  pub log_read : (log : LogFile) (old new : D) → d.seen new ≡ d.seen old → IsLog d base all durable log old → IsLog d base all durable log new
  log_read log old new seen h = record {
    tells = h.tells;
    working = h.working;
    based = h.based;
    made = subst (λ (s : Files). IsMade (s Log)) (sym seen) h.made;
    starts = ap (λ (s : Files). base_of (s Log)) seen ∙ h.starts;
    on_disk = ap (λ (s : Files). log_of base (s Log)) seen ∙ h.on_disk;
    sealed = h.sealed;
    mid = h.mid;
    in_sealed = h.in_sealed;
    in_buffer = h.in_buffer;
    front = h.front;
    below = h.below;
  }

  -- with nothing waiting all is durable
  pub all_durable : (log : LogFile) (disk : D) → log.start ≡ 0 → log.used ≡ 0 → IsLog d base all durable log disk → IsLog d base all all log disk
  all_durable log disk start none h =
      let no_more : h.sealed.batches ≡ [] = no_batches h.sealed.batches (sealed_size log h.sealed ∙ start) in
      let mid_is : Some h.mid ≡ Some durable = sym h.in_sealed ∙ ap (λ (bs : List (List ℕ)). batches_records (log.base + place_of log.gate) bs durable) no_more in
      let empty_is : Some all ≡ Some h.mid = sym h.in_buffer ∙ nothing_buffered (batch_lsn log) log h.mid none in
      let same : all ≡ durable = cc in
      subst (λ (l : List Logged). IsLog d base all l log disk) (sym same) h

  -- a new batch is begun
  pub batch_begun : (log new : LogFile) (disk : D) (h : IsLog d base all durable log disk) → IsFilled (waits log h.sealed) (take new.start new.buffer.items) → new.start ≡ log.start + (log.used + 5) → new.used ≡ 0
      → new.base ≡ log.base → new.gate ≡ log.gate → new.failed ≡ log.failed → IsLog d base all durable new disk
  batch_begun log new disk h filled start none same gate failed =
      let place : place_of new.gate ≡ place_of log.gate = ap place_of gate in
      record {
        tells = h.tells;
        working = failed ∙ h.working;
        based = same ∙ h.based;
        made = h.made;
        starts = h.starts;
        on_disk = h.on_disk;
        sealed = record { batches = waits log h.sealed; filled = filled };
        mid = all;
        in_sealed =
            ap (λ (k : ℕ). batches_records k (waits log h.sealed) durable) (let e : new.base + place_of new.gate ≡ base + place_of log.gate = omega (arith, same, place, h.based) in e)
            ∙ waits_spell log disk h;
        in_buffer = nothing_buffered (batch_lsn new) new all none;
        front = h.front;
        below = omega (arith, h.below, start, none, same, place);
      }

  -- before the first call
  pub unmoved : (log : LogFile) (disk : D) → ((c : Files) → d.left_since disk (d.moment disk) c → d.may_leave disk c) → IsOpen d log disk → IsLog d base all durable log disk
      → LeavesIn d Log disk disk (SpellsEither base durable all (d.seen disk Log))
  unmoved log disk only_now is_open h =
      in_started d Log disk (SpellsEither base durable all (d.seen disk Log)) only_now
      (subst (λ (f : FileId). Only f (d.seen disk) (d.may_leave disk)) log.of_log.file (is_open.ready.reading.durable (is_open.working h.working)))
      (λ told. (inl (record { made = h.made; starts = h.starts; spells = h.on_disk }), refl))

  put_ok : (log new : LogFile) (disk : D) (bytes : List ℕ) (entry : Entry) → IsLog d base all durable log disk → entry_of bytes ≡ Some entry → Whole bytes → buffered new ≡ buffered log ++ bytes → new.used ≡ log.used + length bytes
      → (new.start ≡ log.start) × (take log.start new.buffer.items ≡ take log.start log.buffer.items) → new.base ≡ log.base → new.gate ≡ log.gate → new.failed ≡ log.failed → IsLog d base (logged_at (next_lsn log) entry ∷ all) durable new disk
  put_ok log new disk bytes entry h of w buffer used seal same gate failed =
      let place : place_of new.gate ≡ place_of log.gate = ap place_of gate in
      let first : batch_lsn new ≡ batch_lsn log = omega (arith, same, place, seal.0) in
      let last : batch_lsn log + length (buffered log) ≡ next_lsn log = omega (arith, waiting log) in
      record {
        tells = h.tells;
        working = failed ∙ h.working;
        based = same ∙ h.based;
        made = h.made;
        starts = h.starts;
        on_disk = h.on_disk;
        sealed = still_sealed log new h.sealed seal.0 seal.1;
        mid = h.mid;
        in_sealed = ap (λ (k : ℕ). batches_records k h.sealed.batches durable) (let e : new.base + place_of new.gate ≡ log.base + place_of log.gate = omega (arith, same, place) in e) ∙ h.in_sealed;
        in_buffer =
            ap (λ (k : ℕ). records_from 0 k (buffered new) h.mid) first
            ∙ ap (λ (l : List ℕ). records_from 0 (batch_lsn log) l h.mid) buffer
            ∙ push (batch_lsn log) (buffered log) bytes h.mid all entry h.in_buffer of w
            ∙ ap (λ (k : ℕ). Some (logged_at k entry ∷ all)) last;
        front = record { newer = logged_at (next_lsn log) entry ∷ h.front.newer; is = ap (λ (l : List Logged). logged_at (next_lsn log) entry ∷ l) h.front.is };
        below = omega (arith, first, used, w.least);
      }

  -- LSNs rise above the base of any history
  rises : (lsn : ℕ) (log : List Logged) → last_lsn base log < lsn → (b : Base) → b.start ≤ base → end_of b log < lsn
  rises lsn [] below b start = omega (arith, below, start)
  rises lsn (r ∷ older) below b start = below

  -- a record in the buffer, after a call after which the log has these lists
  pub appended : (was : List Logged) → IsFront was durable → (log new : LogFile) (old disk : D) → HasMoreBatches (d.seen old Log) (d.seen disk Log) → (bytes : List ℕ) (entry : Entry) (lsn : ℕ) → IsLog d base all durable log disk → entry_of bytes ≡ Some entry
      → Whole bytes → lsn ≡ next_lsn log → buffered new ≡ buffered log ++ bytes → new.used ≡ log.used + length bytes → (new.start ≡ log.start) × (take log.start new.buffer.items ≡ take log.start log.buffer.items) → new.base ≡ log.base → new.gate ≡ log.gate → new.failed ≡ log.failed
      → Appended d base all was entry lsn old new disk
  appended was grows log new old disk file bytes entry lsn h of w at buffer used seal same gate failed = record {
    rises = rises lsn all (omega (arith, at, h.below));
    now_durable = durable;
    grows = grows;
    log = subst (λ (k : ℕ). IsLog d base (logged_at k entry ∷ all) durable new disk) (sym at) (put_ok log new disk bytes entry h of w buffer used seal same gate failed);
    file = file;
  }

-- a file has no more than it has
pub no_more : (file : List ℕ) → HasMoreBatches file file
no_more file = record { more = []; grown = λ before is. is ∙ ap Some (sym (append-nil before)); generation = refl }
