-- The log at an opening: its first gate, and its records in turn.
use Rattle.std.proofs.Common.{◌≡◌, ◌≤◌, ◌⊎◌, ◌↔◌, inl, inr, ℕ, Bool, true, false, List, [], ◌∷◌, length, Some, Option, Result, Ok, Err, refl, sym, ◌∙◌, ap, subst, arith}
use Rattle.std.specs.Prelude.{IfOk, OnOk}
use Rattle.im_base_types.specs.declared.fault.Fault.{Fault}
use Rattle.im_base_types.specs.declared.file_id.FileId.{FileId}
use Rattle.im_base_types.specs.declared.fault.Fault.TheVariants.{Device}
use Rattle.im_base_types.specs.declared.file_id.FileId.TheVariants.{Log, Pages}
use Rattle.im_base_types.specs.Records.{Logged}
use Rattle.im_theory_log.specs.Tree.{Tree, TreeLaws}
use Rattle.im_theory_log.specs.Histories.{Base, History, IsFront}
use Rattle.im_theory_log.specs.Lawful.{IsLawful}
use Rattle.im_theory_log.proofs.Histories.{at_front}
use Rattle.im_base_disk.specs.declared.disk.Disk.{Ghosts}
use Rattle.im_base_disk.specs.Disk.{Files, Only}
use Rattle.im_base_disk.specs.Ends.{AnswersOr}
use Rattle.im_base_disk.specs.Runs.{ChangesOnly, LeavesIn, Reads}
use Rattle.im_base_disk.proofs.Runs.{in_then, only_reads, reads_then}
use Rattle.im_log_gate.specs.declared.gate.Gate.{Gate}
use Rattle.im_log_gate.specs.Batches.{batches}
use Rattle.im_log_gate.specs.Gate.{file_of, has_failed, logged, IsFirstGate, IsNewGate, IsReading, StartsAs}
use Rattle.im_log_gate.specs.Header.{base_of, first_gate, least_number, StartsAlike, IsMade, IsUnmade}
use Rattle.im_log_gate.proofs.Starts.{blank_starts}
use Rattle.im_log_record.specs.Entry.{Entry}
use Rattle.im_log.specs.Spelled.{logged_at}
use Rattle.im_log.specs.declared.log_opening.Opening.{Opening}
use Rattle.im_log.specs.Opening.{HasRead, IsOpening}
use Rattle.im_log.specs.Gates.{IsOfLog}
use Rattle.im_log.specs.Kept.{HasLog, IsLogOf}
use Rattle.im_log.proofs.Creations.{blank_has, not_both}
use Rattle.im_log.proofs.Runs.{of_log}
use Rattle.im_restart_analysis.specs.Analysis.{Continues}
use Rattle.im_restart_analysis.specs.Orderly.{FitsBehind, IsCountedBy, IsOrderly, IsReadable, pages_at_first}
use Rattle.im_restart_analysis.proofs.LeadingDown.{logs_are_taken}
use Rattle.im_restart.specs.declared.found.Found.{Found}
use Rattle.im_restart.specs.Reading.{HadLog, IsReadLog, OpenKept}
use Rattle.im_restart.specs.Restart.{AreTaken, IsFresh, SpellsLog}

-- a log that was made has no record, and starts where the unmade one would
made_blank : {D : Type 0} (d : Ghosts D) (disk : D) (gate : Gate) → d.tells → (d.tells → logged d gate disk ≡ Some []) → file_of gate ≡ Log → StartsAs gate (d.seen disk Log) → batches (first_gate (d.seen disk Log)) (d.seen disk Log) ≡ Some []
made_blank d disk gate told empty file starts =
    of_log gate (first_gate (d.seen disk Log)) (record { file = file }) starts.first (λ (f : FileId) (n : ℕ). batches n (d.seen disk f) ≡ Some []) (empty told)

pub created : {D : Type 0} (d : Ghosts D) (base : ℕ) (all : History) (old disk : D) (result : Result Gate Fault) → all ≡ [] → IsUnmade (d.seen old Log) → base_of (d.seen old Log) ≡ base → d.tells → IfOk result (λ gate. IsNewGate d Log gate disk)
    → IfOk result (λ gate. HasLog base all (d.seen disk Log))
created d base all old disk (Err e) none unmade low told new = tt
created d base all old disk (Ok gate) none unmade low told new =
    let blank = made_blank d disk gate told new.empty new.first.of_file (new.first.starts told) in
    let low_now = (blank_starts (d.seen old Log) (d.seen disk Log) unmade (new.blank told)).base ∙ low in
    subst (λ (l : History). HasLog base l (d.seen disk Log)) (sym none) (blank_has base (d.seen disk Log) (new.first.made told) low_now blank)

pub created_had : {D : Type 0} (d : Ghosts D) (old disk : D) (result : Result Gate Fault) → (d.tells → IsFresh (d.seen old)) → IfOk result (λ gate. IsNewGate d Log gate disk) → IfOk result (λ _. HadLog d old disk)
created_had d old disk (Err e) fresh new = tt
created_had d old disk (Ok gate) fresh new = record { store = λ told. inl (fresh told); alike = λ told. blank_starts (d.seen old Log) (d.seen disk Log) (fresh told).0 (new.blank told) }

-- an opened gate where only reads came between
pub first_read : {D : Type 0} (d : Ghosts D) (old disk : D) (gate : Gate) → d.seen disk ≡ d.seen old → IsFirstGate d Log gate old → IsFirstGate d Log gate disk
first_read d old disk gate seen first = record {
  usable = first.usable;
  of_file = first.of_file;
  place = first.place;
  starts = λ told. subst (λ (f : Files). StartsAs gate (f Log)) (sym seen) (first.starts told);
  made = λ told. subst (λ (f : Files). IsMade (f Log)) (sym seen) (first.made told);
}

-- more refusals of its own
pub answers_more : {A : Type 0} (own more : Fault → Type 0) (lost : Bool) (r : Result A Fault) → ((e : Fault) → own e → more e) → AnswersOr own lost r → AnswersOr more lost r
answers_more {A} own more lost (Ok a) to one = record { causes = tt; device = one.device }
answers_more {A} own more lost (Err e) to one = record { causes = elim one.causes [ inl is ↦ inl (to e is) | inr is ↦ inr is ]; device = one.device }

-- files that are the same start alike
pub same_alike : (some other : List ℕ) → other ≡ some → StartsAlike some other
same_alike some other same = record { gate = ap first_gate same; base = ap base_of same; number = ap least_number same }

-- the record that was read is the next one of the list
pub same_entry : (read : Option Entry) (some other : Entry) → read ≡ Some some → read ≡ Some other → some ≡ other
same_entry read some other first second = let e : Some some ≡ Some other = sym first ∙ second in cc e

-- each record of a lawful log is taken
pub lawful_taken : (b : Base) (tree : Tree) (n : ℕ) → TreeLaws tree → IsCountedBy n b → (log : History) → IsLawful b tree log → AreTaken n log
lawful_taken b tree n laws first [] law = tt
lawful_taken b tree n laws first (r ∷ older) law = let this = logs_are_taken tree laws b n older r first law in (this.0, this.1, lawful_taken b tree n laws first older law.0)

-- a record of a log that is taken
continues : (n : ℕ) (all older : History) (r : Logged) → AreTaken n all → IsFront (r ∷ older) all → Continues r older × FitsBehind n r older
continues n all older r taken front = let front_taken = at_front (λ (l : History). AreTaken n l) (λ s rest is. is.2) (r ∷ older) all front taken in (front_taken.0, front_taken.1)

-- the next record of a log that is taken, as it was decoded
pub next_read : {D : Type 0} (d : Ghosts D) (n base : ℕ) (all older : History) (lsn : ℕ) (entry said : Entry) (new : Opening) (disk : D) → entry ≡ said → AreTaken n all → IsFront (logged_at lsn entry ∷ older) all
    → IsOpening d base all (logged_at lsn entry ∷ older) new disk
    → Continues (logged_at lsn said) older × FitsBehind n (logged_at lsn said) older × IsOpening d base all (logged_at lsn said ∷ older) new disk
next_read d n base all older lsn entry said new disk same taken front opening =
    let is = subst (λ (e : Entry). IsFront (logged_at lsn e ∷ older) all × IsOpening d base all (logged_at lsn e ∷ older) new disk) same (front, opening) in
    let next = continues n all older (logged_at lsn said) taken is.0 in
    (next.0, next.1, is.1)

pub holds_if_ok : {T : Type 0} {P : Type 0} (result : Result T Fault) → P → IfOk result (λ _. P)
holds_if_ok (Ok x) p = p
holds_if_ok (Err e) p = tt

-- ---- what was read

made_known : (files : Files) → IsMade (files Log) → ¬ (IsFresh files)
made_known files made fresh = not_both (files Log) made fresh.0

-- an opening that did not make the log read all of it
pub spelled_so : {D T : Type 0} (d : Ghosts D) (old mid : D) (opening : Opening) (pages : ℕ) (result : Result T Fault) → (d.tells → pages ≡ pages_at_first (base_of (d.seen mid Log))) → (d.tells → IsFresh (d.seen old) ⊎ IsMade (d.seen old Log)) → (d.tells → ¬ (IsFresh (d.seen old)) → Reads d old mid)
    → (d.tells → HasRead d (base_of (d.seen mid Log)) [] opening mid) → IfOk result (λ _. (base : ℕ) → HasRead d base [] opening mid → (found : History) × HasLog base found (d.seen mid Log) × (IsReadable found → IsOrderly pages found))
    → IfOk result (λ _. d.tells → SpellsLog (d.seen old))
spelled_so d old mid opening pages (Err e) counts store reads start spelled = tt
spelled_so d old mid opening pages (Ok x) counts store reads start spelled = λ told. elim (store told) [
  | inl fresh ↦ inl fresh
  | inr made ↦
      let s = spelled (base_of (d.seen mid Log)) (start told) in
      let same = (reads told (made_known (d.seen old) made)).seen in
      inr (
        s.0,
        subst (λ (f : Files). HasLog (base_of (f Log)) s.0 (f Log)) same s.1,
        subst (λ (f : Files). IsReadable s.0 → IsOrderly (pages_at_first (base_of (f Log))) s.0) same (subst (λ (n : ℕ). IsReadable s.0 → IsOrderly n s.0) (counts told) s.2),
      )
]

-- ---- a log that is read again

-- where each change is kept, each that is wanted is there
pub drops_only : (drops : Bool) (start point : ℕ) (reaches : Bool) → (drops ≡ false → start ≡ 0) → (reaches ≡ true ↔ start ≤ point) → reaches ≡ false → drops ≡ true
drops_only true start point reaches whole is not = refl
drops_only false start point reaches whole is not =
    let all : start ≡ 0 = whole refl in
    let yes : reaches ≡ true = is.1 (omega (arith, all)) in
    let never : true ≡ false = sym yes ∙ not in
    absurd (cc never)

pub also_if_ok : {T : Type 0} {Q : Type 0} (P : T → Type 0) (result : Result T Fault) → Q → IfOk result P → IfOk result (λ x. Q × P x)
also_if_ok P (Ok x) q p = (q, p)
also_if_ok P (Err e) q p = tt

pub read_log_so : {D T : Type 0} (d : Ghosts D) (old mid new : D) (gate : Gate) (result : Result T Fault) → (result ≡ Err Device ↔ (d.failed new ≡ true)) → IsReading d gate mid → has_failed gate ≡ false → IsOfLog gate
    → (d.tells → IsMade (d.seen mid Log)) → HadLog d old mid → Reads d mid new → OnOk result (IsReadLog d old new)
read_log_so d old mid new gate (Err e) device reading usable of made had reads = tt
read_log_so d old mid new gate (Ok x) device reading usable of made had reads = record {
  working = not_failed (d.failed new) (λ (is : d.failed new ≡ true). (let never : Ok x ≡ Err Device = device.1 is in cc never));
  durable = only_reads d Log mid new reads (subst (λ (f : FileId). Only f (d.seen mid) (d.may_leave mid)) of.file (reading.durable usable));
  made = λ told. subst (λ (f : Files). IsMade (f Log)) (sym reads.seen) (made told);
  had = record { store = had.store; alike = λ told. subst (λ (f : Files). StartsAlike (d.seen old Log) (f Log)) (sym reads.seen) (had.alike told) };
}
  where
    not_failed : (b : Bool) → (b ≡ true → ⊥) → b ≡ false
    not_failed true never = absurd (never refl)
    not_failed false never = refl

module _ {D : Type 0} (d : Ghosts D) (base : ℕ) (all : History) (old mid new : D) where
  -- the file that was read first stands for the list still
  pub of_read : HasLog base all (d.seen mid Log) → IsLogOf base all (d.seen mid Log) × (IsUnmade (d.seen mid Log) → length (d.seen mid Pages) ≡ 0)
  of_read has = (inr has, λ unmade. absurd (not_both (d.seen mid Log) has.made unmade))

  pub kept_again : (result : Result Found Fault) → LeavesIn d Log old mid (IsLogOf base all) → ChangesOnly d Log old mid → OpenKept d base all mid new result → OpenKept d base all old new result
  kept_again result first changes k = record {
    ok = k.ok;
    stops = in_then d Log old mid new (IsLogOf base all) (IsLogOf base all) (IsLogOf base all) first changes k.stops (λ told c is. is) (λ told c is. is);
    cause = k.cause;
  }

module _ {D : Type 0} (d : Ghosts D) (old mid new : D) (r : IsReadLog d old mid) (reads : d.tells → ¬ (IsFresh (d.seen old)) → Reads d old mid) where
  pub spelled_again : (result : Result Found Fault) → IfOk result (λ _. d.tells → SpellsLog (d.seen mid)) → IfOk result (λ _. d.tells → SpellsLog (d.seen old))
  spelled_again (Err e) spelled = tt
  spelled_again (Ok x) spelled = λ told. elim (r.had.store told) [
    | inl fresh ↦ inl fresh
    | inr made ↦ subst (λ (f : Files). SpellsLog f) (reads told (made_known (d.seen old) made)).seen (spelled told)
  ]

  pub had_again : (result : Result Found Fault) → IfOk result (λ _. HadLog d mid new) → IfOk result (λ _. HadLog d old new)
  had_again (Err e) had = tt
  had_again (Ok x) had = record {
    store = r.had.store;
    alike = λ told.
        let first = r.had.alike told in
        let then = had.alike told in
        record { gate = then.gate ∙ first.gate; base = then.base ∙ first.base; number = then.number ∙ first.number };
  }

  pub reads_again : (d.tells → ¬ (IsFresh (d.seen mid)) → Reads d mid new) → d.tells → ¬ (IsFresh (d.seen old)) → Reads d old new
  reads_again then told known = reads_then d old mid new (reads told known) (then told (made_known (d.seen mid) (r.made told)))
