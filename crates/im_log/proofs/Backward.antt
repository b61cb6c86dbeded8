-- Records that were read, and whatever the rest spells after them.
use Rattle.std.proofs.Common.{◌≡◌, ℕ, zero, suc, ◌+◌, ◌-◌, ◌≤◌, false, List, [], ◌∷◌, length, take, drop, Option, Some, None, MatchOption, Ok, refl, sym, ◌∙◌, ap, subst, arith}
use Rattle.im_base_types.specs.declared.file_id.FileId.{FileId}
use Rattle.im_base_types.specs.declared.file_id.FileId.TheVariants.{Log}
use Rattle.im_base_types.specs.Records.{Logged}
use Rattle.im_base_disk.specs.declared.disk.Disk.{Ghosts}
use Rattle.im_base_disk.specs.Disk.{Files}
use Rattle.im_log_gate.specs.declared.gate.Gate.{Gate}
use Rattle.im_log_gate.specs.Batches.{batches, batches_from, in_front}
use Rattle.im_log_gate.specs.Gate.{base_at, first_of, place_of, unread, StartsAs}
use Rattle.im_log_gate.specs.Header.{base_of, first_gate, IsMade}
use Rattle.im_log_record.specs.Entry.{Entry}
use Rattle.im_log_record.specs.Reading.{entry_of}
use Rattle.im_log.specs.declared.log_opening.Opening.{Opening}
use Rattle.im_log.specs.Gates.{IsOfLog}
use Rattle.im_log.specs.Kept.{HasLog}
use Rattle.im_log.specs.Spelled.{logged_at, record_size, records_from, batches_records, log_of}
use Rattle.im_log.specs.Opening.{current_of, rest_of, position_of, HasNext, HasRead, ReadOn, Ended, Stepped}
use Rattle.im_log.proofs.Openings.{rest_long}
use Rattle.im_log.proofs.Spells.{First, first_is, step, batch_step, log_is}

-- bytes that are passed over
passes_back : (n lsn : ℕ) (bytes : List ℕ) (older log : List Logged) → n ≤ length bytes → records_from 0 (lsn + n) (drop n bytes) older ≡ Some log → records_from n lsn bytes older ≡ Some log
passes_back zero lsn bytes older log le is = ap (λ (k : ℕ). records_from 0 k bytes older) (omega arith) ∙ is
passes_back (suc n) lsn [] older log le is = absurd (omega (arith, le))
passes_back (suc n) lsn (byte ∷ bytes) older log le is = passes_back n (suc lsn) bytes older log (omega (arith, le)) (ap (λ (k : ℕ). records_from 0 k (drop n bytes) older) (omega arith) ∙ is)

-- the first record with what the others spell
with_first : (lsn : ℕ) (bytes : List ℕ) (older log : List Logged) (entry : Entry) → First bytes entry
    → records_from 0 (lsn + record_size bytes) (drop (record_size bytes) bytes) (logged_at lsn entry ∷ older) ≡ Some log → records_from 0 lsn bytes older ≡ Some log
with_first lsn [] older log entry f is = absurd (omega (arith, f.least, f.most))
with_first lsn (byte ∷ bytes) older log entry f is =
    let n : ℕ = record_size (byte ∷ bytes) - 1 in
    let more : record_size (byte ∷ bytes) ≡ suc n = omega (arith, f.least) in
    let now = logged_at lsn entry ∷ older in
    step lsn byte bytes older entry (first_is (byte ∷ bytes) entry f)
    ∙ passes_back (suc n) lsn (byte ∷ bytes) now log (omega (arith, f.most, more)) (ap (λ (k : ℕ). records_from 0 (lsn + k) (drop k (byte ∷ bytes)) now) (sym more) ∙ is)

module _ {D : Type 0} (d : Ghosts D) (base : ℕ) (older : List Logged) where
  -- one record more
  pub read_step : (mid new : Opening) (disk : D) (lsn : ℕ) (entry : Entry) → HasRead d base older mid disk → Stepped mid lsn new → new.gate ≡ mid.gate → new.behind ≡ mid.behind → new.base ≡ mid.base → new.failed ≡ false
      → entry_of (current_of new) ≡ Some entry → HasRead d base (logged_at lsn entry ∷ older) new disk
  read_step mid new disk lsn entry h s gate behind same works is =
      let size : ℕ = record_size (rest_of mid) in
      let at : base + position_of mid ≡ lsn = omega (arith, s.lsn_is, h.based) in
      let after : base + position_of mid + size ≡ base + position_of new = omega (arith, s.position) in
      let f : First (rest_of mid) entry = record { least = s.least; most = s.most; is = ap entry_of (sym s.current) ∙ is } in
      record {
        tells = h.tells;
        working = works;
        based = same ∙ h.based;
        made = h.made;
        starts = h.starts;
        spells = λ all log ahead in_batch unread_is onward room.
            h.spells all log ahead
            (with_first (base + position_of mid) (rest_of mid) older all entry f
            (ap (λ (k : ℕ). records_from 0 (base + position_of mid + size) (drop size (rest_of mid)) (logged_at k entry ∷ older)) at
            ∙ ap (λ (l : List ℕ). records_from 0 (base + position_of mid + size) l (logged_at lsn entry ∷ older)) (sym s.rest)
            ∙ ap (λ (k : ℕ). records_from 0 k (rest_of new) (logged_at lsn entry ∷ older)) after
            ∙ in_batch))
            (ap (λ (g : Gate). unread d g disk) (sym gate) ∙ unread_is)
            (ap (λ (k : ℕ). batches_records (base + k) ahead all) (sym behind) ∙ onward)
            (omega (arith, room, behind));
      }

  -- nothing is left of a batch that was read to its end
  nothing_left : (old : Opening) → old.end ≤ old.at → records_from 0 (base + position_of old) (rest_of old) older ≡ Some older
  nothing_left old done =
      let z : old.end - old.at ≡ 0 = omega (arith, done) in
      ap (λ (k : ℕ). records_from 0 (base + position_of old) (take k (drop old.at old.bytes.items)) older) z

  -- the next batch
  pub read_filled : (old new : Opening) (disk new_disk : D) → HasRead d base older old disk → old.end ≤ old.at → d.seen new_disk ≡ d.seen disk → unread d old.gate disk ≡ in_front (rest_of new ∷ []) (unread d new.gate new_disk)
      → HasNext old new → new.base ≡ old.base → new.failed ≡ false → HasRead d base older new new_disk
  read_filled old new disk new_disk h done seen is next same works =
      let long : length (rest_of new) ≡ new.end - new.at = rest_long new in
      let start : base + old.behind + 5 ≡ base + position_of new = omega (arith, next.behind) in
      let after : base + old.behind + (5 + length (rest_of new)) ≡ base + new.behind = omega (arith, next.behind, long) in
      record {
        tells = h.tells;
        working = works;
        based = same ∙ h.based;
        made = subst (λ (s : Files). IsMade (s Log)) (sym seen) h.made;
        starts = ap (λ (s : Files). base_of (s Log)) seen ∙ h.starts;
        spells = λ all log ahead in_batch unread_is onward room.
            ap (λ (s : Files). log_of base (s Log)) seen
            ∙ h.spells older log (rest_of new ∷ ahead) (nothing_left old done) (is ∙ ap (in_front (rest_of new ∷ [])) unread_is)
            (batch_step (base + old.behind) (rest_of new) ahead older all (ap (λ (k : ℕ). records_from 0 k (rest_of new) older) start ∙ in_batch)
            ∙ ap (λ (k : ℕ). batches_records k ahead all) after
            ∙ onward)
            (omega (arith, room, next.behind, long));
      }

  -- there is none, and the file spells what was read
  pub read_all : (old new : Opening) (disk new_disk : D) → HasRead d base older old disk → old.end ≤ old.at → d.seen new_disk ≡ d.seen disk → unread d old.gate disk ≡ Some [] → new.base ≡ old.base
      → Ended d base older older new new_disk
  read_all old new disk new_disk h done seen is same = record {
    all_read = refl;
    tells = h.tells;
    based = same ∙ h.based;
    made = subst (λ (s : Files). IsMade (s Log)) (sym seen) h.made;
    starts = ap (λ (s : Files). base_of (s Log)) seen ∙ h.starts;
    spells = ap (λ (s : Files). log_of base (s Log)) seen ∙ h.spells older older [] (nothing_left old done) is refl (omega (arith, old.placed, h.based));
  }

-- before the first record
pub read_none : {D : Type 0} (d : Ghosts D) (base : ℕ) (gate : Gate) (opening : Opening) (disk : D) → IsOfLog gate → StartsAs gate (d.seen disk Log) → base_of (d.seen disk Log) ≡ base → place_of gate ≡ first_of gate → d.tells → IsMade (d.seen disk Log)
    → (opening.gate ≡ gate) × (opening.base ≡ base_at gate) × (opening.at ≡ 0) × (opening.end ≡ 0) × (opening.behind ≡ place_of gate) × (opening.failed ≡ false) × (opening.held ≡ 0) → HasRead d base [] opening disk
read_none d base gate opening disk of starts low first told made is =
    let nothing : opening.end - opening.at ≡ 0 = omega (arith, is.2, is.3) in
    let at : place_of gate ≡ first_gate (d.seen disk Log) = first ∙ starts.first in
    let behind : opening.behind ≡ first_gate (d.seen disk Log) = is.4 ∙ at in
    record {
      tells = told;
      working = is.5;
      based = is.1 ∙ starts.base ∙ low;
      made = made;
      starts = low;
      spells = λ all log ahead in_batch unread_is onward room.
          let here : unread d gate disk ≡ Some ahead = ap (λ (g : Gate). unread d g disk) (sym is.0) ∙ unread_is in
          let in_log : batches_from (place_of gate) (d.seen disk Log) ≡ Some ahead = subst (λ (f : FileId). batches_from (place_of gate) (d.seen disk f) ≡ Some ahead) of.file here in
          let bs : batches (first_gate (d.seen disk Log)) (d.seen disk Log) ≡ Some ahead = ap (λ (n : ℕ). batches_from n (d.seen disk Log)) (sym at) ∙ in_log in
          let empty : Some [] ≡ Some all = ap (λ (k : ℕ). records_from 0 (base + position_of opening) (take k (drop opening.at opening.bytes.items)) []) (sym nothing) ∙ in_batch in
          let none : [] ≡ all = cc in
          log_is base (d.seen disk Log) ahead log bs (omega (arith, room, behind))
          (ap (λ (k : ℕ). batches_records (base + k) ahead []) (sym behind) ∙ ap (λ (l : List Logged). batches_records (base + opening.behind) ahead l) none ∙ onward);
    }

-- what an answer of none says, and one of some
pub none_read : {D : Type 0} (d : Ghosts D) (base : ℕ) (older : List Logged) (new : Opening) (disk : D) (next : Option ℕ) → next ≡ None → ReadOn d base older new disk (Ok next) → Ended d base older older new disk
none_read d base older new disk next is on = subst (λ (o : Option ℕ). MatchOption o (Ended d base older older new disk) (λ lsn. (entry : Entry) → entry_of (current_of new) ≡ Some entry → HasRead d base (logged_at lsn entry ∷ older) new disk)) is on.ok

pub some_read : {D : Type 0} (d : Ghosts D) (base : ℕ) (older : List Logged) (new : Opening) (disk : D) (next : Option ℕ) (lsn : ℕ) (entry : Entry) → next ≡ Some lsn → ReadOn d base older new disk (Ok next) → entry_of (current_of new) ≡ Some entry
    → HasRead d base (logged_at lsn entry ∷ older) new disk
some_read d base older new disk next lsn entry is on = subst (λ (o : Option ℕ). MatchOption o (Ended d base older older new disk) (λ lsn. (entry : Entry) → entry_of (current_of new) ≡ Some entry → HasRead d base (logged_at lsn entry ∷ older) new disk)) is on.ok entry

-- the file as it stood before, with what was read
pub has_read : {D : Type 0} (d : Ghosts D) (base : ℕ) (older : List Logged) (opening : Opening) (old new : D) → d.seen new ≡ d.seen old → Ended d base older older opening new → HasLog base older (d.seen old Log)
has_read d base older opening old new seen e = subst (λ (s : Files). HasLog base older (s Log)) seen (record { made = e.made; starts = e.starts; spells = e.spells })
