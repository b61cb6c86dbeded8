-- How an opening goes on from record to record.
use Rattle.std.proofs.Common.{◌≡◌, ℕ, ◌+◌, ◌-◌, ◌<◌, ◌≤◌, ◌^◌, false, List, [], ◌∷◌, length, take, drop, min, Option, Some, None, MatchOption, Ok, refl, sym, ◌∙◌, ap, subst, arith, length-drop, length-take}
use Rattle.std.proofs.lemmas.List.{length-take-le, take-take, drop-take, drop-drop}
use Rattle.im_base_types.specs.declared.file_id.FileId.{FileId}
use Rattle.im_base_types.specs.declared.file_id.FileId.TheVariants.{Log}
use Rattle.im_base_types.specs.Records.{Logged}
use Rattle.im_base_disk.specs.declared.disk.Disk.{Ghosts}
use Rattle.im_base_disk.specs.Disk.{Files}
use Rattle.im_log_gate.specs.declared.gate.Gate.{Gate}
use Rattle.im_log_gate.specs.Batches.{batches, batches_from, in_front, size_of}
use Rattle.im_log_gate.specs.Gate.{base_at, first_of, place_of, has_failed, unread, StartsAs, IsReading, IsReady}
use Rattle.im_log_gate.specs.Header.{base_of, first_gate, IsMade}
use Rattle.im_log_record.specs.Reading.{entry_of}
use Rattle.im_log.specs.declared.log_opening.Opening.{Opening}
use Rattle.im_log.specs.Spelled.{logged_at, record_size, first_record, records_from, batches_records, spelled_by, log_of}
use Rattle.im_log.specs.Opening.{ahead_of, rest_of, position_of, HasNext, IsBegun, IsOpening, Next, NextKept, Ended, Stepped, RefusedBatch}
use Rattle.im_log.specs.declared.log_file.LogFile.{LogFile}
use Rattle.im_log.specs.Gates.{IsOfLog}
use Rattle.im_log.specs.Kept.{HasLog}
use Rattle.im_log.specs.LogFile.{batch_lsn, IsLog}
use Rattle.im_log.proofs.Runs.{placed, nothing_sealed, nothing_buffered}
use Rattle.im_log.proofs.Spells.{first_is, log_end, log_room, log_records}
use Rattle.im_log.proofs.Passes.{taken, records_front, batch_taken, batches_front, fronts_then}

-- the first bytes of the rest, and the others
pub current_is : (items : List ℕ) (at end size : ℕ) → size ≤ end - at → take (at + size - at) (drop at items) ≡ take size (take (end - at) (drop at items))
current_is items at end size le =
    let e : at + size - at ≡ size = omega arith in ap (λ (k : ℕ). take k (drop at items)) e ∙ sym (take-take size (end - at) (drop at items) le)

pub rest_is : (items : List ℕ) (at end size : ℕ) → size ≤ end - at → take (end - (at + size)) (drop (at + size) items) ≡ drop size (take (end - at) (drop at items))
rest_is items at end size le =
    let m : ℕ = end - (at + size) in
    let e : end - at ≡ size + m = omega (arith, le) in
    sym (ap (λ (k : ℕ). drop size (take k (drop at items))) e ∙ drop-take size m (drop at items) ∙ ap (take m) (drop-drop size at items))

pub rest_long : (opening : Opening) → length (rest_of opening) ≡ opening.end - opening.at
rest_long opening = length-take-le (opening.end - opening.at) (drop opening.at opening.bytes.items) (omega (arith, opening.holds, opening.within, opening.ends, length-drop opening.at opening.bytes.items))

-- ---- bytes that were read ahead

-- those that come after some of them
front_on : (a there : List ℕ) (k : ℕ) → k ≤ length a → a ≡ take (length a) there → drop k a ≡ take (length (drop k a)) (drop k there)
front_on a there k le is =
    let m : ℕ = length (drop k a) in
    let n : length a ≡ k + m = omega (arith, length-drop k a, le) in
    ap (λ (l : List ℕ). drop k l) (is ∙ ap (λ (j : ℕ). take j there) n) ∙ drop-take k m there

module _ (items : List ℕ) (end held size : ℕ) (fits : size + 5 < length (take (held - end) (drop end items))) where
  within_held : size + 5 < held - end
  within_held =
      let cut : length (take (held - end) (drop end items)) ≡ min (held - end) (length (drop end items)) = length-take (held - end) (drop end items) in
      omega (arith, fits, cut)

  -- the records of the batch that is gone past
  pub batch_is : take size (drop 5 (take (held - end) (drop end items))) ≡ take (end + 5 + size - (end + 5)) (drop (end + 5) items)
  batch_is =
      let same : size ≡ end + 5 + size - (end + 5) = omega arith in
      ap (λ (l : List ℕ). take size l) (sym (rest_is items end held 5 (omega (arith, within_held))))
      ∙ take-take size (held - (end + 5)) (drop (end + 5) items) (omega (arith, within_held))
      ∙ ap (λ (k : ℕ). take k (drop (end + 5) items)) same

  -- what was read and comes after it
  pub ahead_on : (file : List ℕ) (place : ℕ) → take (held - end) (drop end items) ≡ take (length (take (held - end) (drop end items))) (drop place file)
      → take (held - (end + 5 + size)) (drop (end + 5 + size) items) ≡ take (length (take (held - (end + 5 + size)) (drop (end + 5 + size) items))) (drop (place + (size + 5)) file)
  ahead_on file place is =
      let a : List ℕ = take (held - end) (drop end items) in
      let k : ℕ = size + 5 in
      let past : end + k ≡ end + 5 + size = omega arith in
      subst (λ (x : ℕ). take (held - x) (drop x items) ≡ take (length (take (held - x) (drop x items))) (drop (place + (size + 5)) file)) past
      (subst (λ (l : List ℕ). l ≡ take (length l) (drop (place + (size + 5)) file)) (sym (rest_is items end held k (omega (arith, within_held))))
      (front_on a (drop place file) k (omega (arith, fits)) is ∙ ap (λ (l : List ℕ). take (length (drop k a)) l) (drop-drop k place file)))

pub in_front_some : (b : List ℕ) (o : Option (List (List ℕ))) (ahead : List (List ℕ)) → in_front (b ∷ []) o ≡ Some ahead → (rest : List (List ℕ)) × (o ≡ Some rest) × (ahead ≡ b ∷ rest)
in_front_some b None ahead is = let never : None ≡ Some ahead = is in cc
in_front_some b (Some rest) ahead is = (rest, refl, cc)

-- a batch that ends above LSN 2^62
pub refused_batch : (base place end : ℕ) (b : List ℕ) (old new : Option (List (List ℕ))) → old ≡ in_front (b ∷ []) new → length b ≡ end → 2 ^ 62 < base + (place + (end + 5)) → RefusedBatch base place old
refused_batch base place end b old new is long over = record {
  refused = λ ahead some.
      let parts = in_front_some b new ahead (sym is ∙ some) in
      omega (arith, over, long, ap size_of parts.2);
}

module _ {D : Type 0} (d : Ghosts D) (base : ℕ) (all older : List Logged) where
  -- the next record of the batch
  pub next_step : (mid new : Opening) (disk : D) (lsn : ℕ) → IsOpening d base all older mid disk → Stepped mid lsn new → new.gate ≡ mid.gate → new.behind ≡ mid.behind → new.base ≡ mid.base → new.failed ≡ false → Next d base all older lsn new disk
  next_step mid new disk lsn h s gate behind same works =
      let t = taken (base + position_of mid) (rest_of mid) older h.mid (omega (arith, s.least, s.most)) h.in_batch in
      let at : base + position_of mid ≡ lsn = omega (arith, s.lsn_is, h.based) in
      let onward : records_from 0 (base + position_of new) (rest_of new) (logged_at lsn t.entry ∷ older) ≡ Some h.mid =
      let p : base + position_of new ≡ base + position_of mid + record_size (rest_of mid) = omega (arith, s.position) in
      ap (λ (k : ℕ). records_from 0 k (rest_of new) (logged_at lsn t.entry ∷ older)) p
      ∙ ap (λ (l : List ℕ). records_from 0 (base + position_of mid + record_size (rest_of mid)) l (logged_at lsn t.entry ∷ older)) s.rest
      ∙ ap (λ (k : ℕ). records_from 0 (base + position_of mid + record_size (rest_of mid)) (drop (record_size (rest_of mid)) (rest_of mid)) (logged_at k t.entry ∷ older)) (sym at)
      ∙ t.onward in
      record {
        entry = t.entry;
        is = ap entry_of s.current ∙ t.first.is;
        front = fronts_then (logged_at lsn t.entry ∷ older) h.mid all (records_front 0 (base + position_of new) (rest_of new) (logged_at lsn t.entry ∷ older) h.mid onward) (batches_front (base + mid.behind) h.ahead h.mid all h.onward);
        opening = record {
          tells = h.tells;
          working = works;
          based = same ∙ h.based;
          made = h.made;
          starts = h.starts;
          spells = h.spells;
          mid = h.mid;
          in_batch = onward;
          ahead = h.ahead;
          unread = ap (λ (g : Gate). unread d g disk) gate ∙ h.unread;
          onward = ap (λ (k : ℕ). batches_records (base + k) h.ahead h.mid) behind ∙ h.onward;
          room = omega (arith, h.room, behind);
        };
      }

  -- there is one
  pub not_refused_here : (mid : Opening) (disk : D) → IsOpening d base all older mid disk → mid.at < mid.end → first_record (rest_of mid) ≡ None → ⊥
  not_refused_here mid disk h some none =
      let t = taken (base + position_of mid) (rest_of mid) older h.mid (omega (arith, rest_long mid, some)) h.in_batch in
      let never : None ≡ Some t.entry = sym none ∙ first_is (rest_of mid) t.entry t.first in
      cc

  -- the batch is read to its end
  batch_done : (old : Opening) (disk : D) → (h : IsOpening d base all older old disk) → old.end ≤ old.at → older ≡ h.mid
  batch_done old disk h done =
      let z : 0 ≡ old.end - old.at = omega (arith, done) in
      let e : Some older ≡ Some h.mid = ap (λ (k : ℕ). records_from 0 (base + position_of old) (take k (drop old.at old.bytes.items)) older) z ∙ h.in_batch in
      cc

  -- the next batch
  pub filled : (old new : Opening) (disk new_disk : D) → IsOpening d base all older old disk → old.end ≤ old.at → d.seen new_disk ≡ d.seen disk → unread d old.gate disk ≡ in_front (rest_of new ∷ []) (unread d new.gate new_disk)
      → HasNext old new → new.base ≡ old.base → new.failed ≡ false → IsOpening d base all older new new_disk
  filled old new disk new_disk h done seen is next same works =
      let parts = in_front_some (rest_of new) (unread d new.gate new_disk) h.ahead (sym is ∙ h.unread) in
      let onward : batches_records (base + old.behind) (rest_of new ∷ parts.0) older ≡ Some all =
      ap (λ (l : List Logged). batches_records (base + old.behind) (rest_of new ∷ parts.0) l) (batch_done old disk h done)
      ∙ ap (λ (bs : List (List ℕ)). batches_records (base + old.behind) bs h.mid) (sym parts.2) ∙ h.onward in
      let t = batch_taken (base + old.behind) (rest_of new) parts.0 older all onward in
      let long : length (rest_of new) ≡ new.end - new.at = rest_long new in
      let start : base + position_of new ≡ base + old.behind + 5 = omega (arith, next.behind) in
      let after : base + new.behind ≡ base + old.behind + (5 + length (rest_of new)) = omega (arith, next.behind, long) in
      record {
        tells = h.tells;
        working = works;
        based = same ∙ h.based;
        made = subst (λ (s : Files). IsMade (s Log)) (sym seen) h.made;
        starts = ap (λ (s : Files). base_of (s Log)) seen ∙ h.starts;
        spells = ap (λ (s : Files). log_of base (s Log)) seen ∙ h.spells;
        mid = t.mid;
        in_batch = ap (λ (k : ℕ). records_from 0 k (rest_of new) older) start ∙ t.in_batch;
        ahead = parts.0;
        unread = parts.1;
        onward = ap (λ (k : ℕ). batches_records k parts.0 t.mid) after ∙ t.onward;
        room = omega (arith, h.room, next.behind, long, ap size_of parts.2);
      }

  -- there is none
  pub all_read : (old new : Opening) (disk new_disk : D) → IsOpening d base all older old disk → old.end ≤ old.at → d.seen new_disk ≡ d.seen disk → unread d old.gate disk ≡ Some [] → new.base ≡ old.base → Ended d base all older new new_disk
  all_read old new disk new_disk h done seen is same =
      let none : h.ahead ≡ [] = let e : Some h.ahead ≡ Some [] = sym h.unread ∙ is in cc in
      let last : Some h.mid ≡ Some all = ap (λ (bs : List (List ℕ)). batches_records (base + old.behind) bs h.mid) (sym none) ∙ h.onward in
      record {
        all_read = batch_done old disk h done ∙ cc;
        tells = h.tells;
        based = same ∙ h.based;
        made = subst (λ (s : Files). IsMade (s Log)) (sym seen) h.made;
        starts = ap (λ (s : Files). base_of (s Log)) seen ∙ h.starts;
        spells = ap (λ (s : Files). log_of base (s Log)) seen ∙ h.spells;
      }

  -- a batch of the list is not refused
  pub batch_taken_here : (old : Opening) (disk : D) → IsOpening d base all older old disk → place_of old.gate ≡ old.behind → RefusedBatch old.base (place_of old.gate) (unread d old.gate disk) → ⊥
  batch_taken_here old disk h place refused = omega (arith, refused.refused h.ahead h.unread, h.room, place, h.based)

-- after the last batch, with nothing in the buffer
pub opened : {D : Type 0} (d : Ghosts D) (base : ℕ) (all older : List Logged) (opening : Opening) (log : LogFile) (disk : D) → StartsAs opening.gate (d.seen disk Log) → IsReady d opening.gate disk → has_failed opening.gate ≡ false → Ended d base all older opening disk
    → (log.gate ≡ opening.gate) × (log.base ≡ opening.base) × (log.start ≡ 0) × (log.used ≡ 0) × (log.failed ≡ false) → IsLog d base all all log disk
opened d base all older opening log disk starts ready usable e is =
    let at = placed d opening.gate disk opening.of_log starts ready usable e.tells in
    let place : place_of log.gate ≡ place_of opening.gate = ap place_of is.0 in
    let below = log_end base (d.seen disk Log) at.before all at.is e.spells in
    record {
      tells = e.tells;
      working = is.4;
      based = is.1 ∙ e.based;
      made = e.made;
      starts = e.starts;
      on_disk = e.spells;
      sealed = nothing_sealed log is.2;
      mid = all;
      in_sealed = refl;
      in_buffer = nothing_buffered (batch_lsn log) log all is.3;
      front = record { newer = []; is = refl };
      below = omega (arith, below, at.place, place, is.1, is.2, is.3, e.based);
    }

-- the batches of a file that has a list
by_batches : (base place : ℕ) (o : Option (List (List ℕ))) (all : List Logged) → spelled_by base place o ≡ Some all → (bs : List (List ℕ)) × (o ≡ Some bs)
by_batches base place None all is = let never : None ≡ Some all = is in cc
by_batches base place (Some bs) all is = (bs, refl)

pub log_batches : (base : ℕ) (file : List ℕ) (all : List Logged) → log_of base file ≡ Some all → (bs : List (List ℕ)) × (batches (first_gate file) file ≡ Some bs)
log_batches base file all is = by_batches base (first_gate file) (batches (first_gate file) file) all is

-- an opening before its first record
pub started : {D : Type 0} (d : Ghosts D) (base : ℕ) (all : List Logged) (gate : Gate) (opening : Opening) (disk : D) → IsOfLog gate → StartsAs gate (d.seen disk Log) → place_of gate ≡ first_of gate → d.tells → HasLog base all (d.seen disk Log)
    → (opening.gate ≡ gate) × (opening.base ≡ base_at gate) × (opening.at ≡ 0) × (opening.end ≡ 0) × (opening.behind ≡ place_of gate) × (opening.failed ≡ false) × (opening.held ≡ 0) → IsOpening d base all [] opening disk
started d base all gate opening disk of starts first told has is =
    let bs = log_batches base (d.seen disk Log) all has.spells in
    let nothing : 0 ≡ opening.end - opening.at = omega (arith, is.2, is.3) in
    let at : place_of gate ≡ first_gate (d.seen disk Log) = first ∙ starts.first in
    let behind : opening.behind ≡ first_gate (d.seen disk Log) = is.4 ∙ at in
    let unread_is : unread d gate disk ≡ Some bs.0 =
    subst (λ (f : FileId). batches_from (place_of gate) (d.seen disk f) ≡ Some bs.0) (sym of.file) (ap (λ (n : ℕ). batches_from n (d.seen disk Log)) at ∙ bs.1) in
    let room = log_room base (d.seen disk Log) bs.0 all bs.1 has.spells in
    record {
      tells = told;
      working = is.5;
      based = is.1 ∙ starts.base ∙ has.starts;
      made = has.made;
      starts = has.starts;
      spells = has.spells;
      mid = [];
      in_batch = ap (λ (k : ℕ). records_from 0 (base + position_of opening) (take k (drop opening.at opening.bytes.items)) []) (sym nothing);
      ahead = bs.0;
      unread = ap (λ (g : Gate). unread d g disk) is.0 ∙ unread_is;
      onward = ap (λ (k : ℕ). batches_records (base + k) bs.0 []) behind ∙ log_records base (d.seen disk Log) bs.0 all bs.1 has.spells;
      room = omega (arith, room, behind);
    }

-- where nothing was read
pub nothing_ahead : (opening : Opening) (there : List ℕ) → opening.held ≡ 0 → ahead_of opening ≡ take (length (ahead_of opening)) there
nothing_ahead opening there none =
    let z : opening.held - opening.end ≡ 0 = omega (arith, none) in
    let nothing : ahead_of opening ≡ [] = ap (λ (k : ℕ). take k (drop opening.end opening.bytes.items)) z in
    nothing ∙ ap (λ (l : List ℕ). take (length l) there) (sym nothing)

-- the opening on any bytes, before its first record
pub begun_start : {D : Type 0} (d : Ghosts D) (gate : Gate) (opening : Opening) (disk : D) → (d.tells → StartsAs gate (d.seen disk Log)) → has_failed gate ≡ false → IsReading d gate disk
    → (opening.gate ≡ gate) × (opening.base ≡ base_at gate) × (opening.at ≡ 0) × (opening.end ≡ 0) × (opening.behind ≡ place_of gate) × (opening.failed ≡ false) × (opening.held ≡ 0) → IsBegun d opening disk
begun_start d gate opening disk starts usable reading is = record {
  reading = subst (λ (g : Gate). IsReading d g disk) (sym is.0) reading;
  starts = λ told. subst (λ (g : Gate). StartsAs g (d.seen disk Log)) (sym is.0) (starts told);
  working = λ works. ap has_failed is.0 ∙ usable;
  behind = λ works. is.4 ∙ sym (ap place_of is.0);
  ahead = λ works told. nothing_ahead opening (drop (place_of opening.gate) (d.seen disk Log)) is.6;
}

-- what an answer of none says, and one of some
pub none_kept : {D : Type 0} (d : Ghosts D) (base : ℕ) (all older : List Logged) (new : Opening) (disk : D) (next : Option ℕ) → next ≡ None → NextKept d base all older new disk (Ok next) → Ended d base all older new disk
none_kept d base all older new disk next is kept = subst (λ (o : Option ℕ). MatchOption o (Ended d base all older new disk) (λ lsn. Next d base all older lsn new disk)) is kept.ok

pub some_kept : {D : Type 0} (d : Ghosts D) (base : ℕ) (all older : List Logged) (new : Opening) (disk : D) (next : Option ℕ) (lsn : ℕ) → next ≡ Some lsn → NextKept d base all older new disk (Ok next) → Next d base all older lsn new disk
some_kept d base all older new disk next lsn is kept = subst (λ (o : Option ℕ). MatchOption o (Ended d base all older new disk) (λ lsn. Next d base all older lsn new disk)) is kept.ok
