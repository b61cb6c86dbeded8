-- How a log goes on in the other file.
use Rattle.std.proofs.Common.{◌≡◌, ◌⊎◌, inl, inr, ⊎_elim, ℕ, ◌+◌, ◌^◌, ◌<◌, Bool, true, false, List, [], Some, refl, sym, ◌∙◌, ap, subst, arith}
use Rattle.im_base_types.specs.declared.file_id.FileId.{FileId}
use Rattle.im_base_types.specs.declared.file_id.FileId.TheVariants.{Log, Pages, Log2}
use Rattle.im_base_types.specs.Records.{Logged}
use Rattle.im_base_disk.specs.declared.disk.Disk.{Ghosts}
use Rattle.im_base_disk.specs.Disk.{Files, Only}
use Rattle.im_base_disk.specs.Runs.{IsSynced, ChangesOnly}
use Rattle.im_base_two_logs.specs.Renamed.{named}
use Rattle.im_base_two_logs.specs.Runs.{LeavesNamed}
use Rattle.im_log_header.specs.declared.header.Header.{Header}
use Rattle.im_log_header.specs.Header.{IsBeingMade, IsEmptyLog}
use Rattle.im_log_choice.specs.Current.{HasCurrent, IsCurrent}
use Rattle.im_log_choice.specs.Switching.{IsSwitching}
use Rattle.im_log_choice.proofs.SwitchedFiles.{stops}
use Rattle.im_log_choice.proofs.SwitchStops.{log_not_other}
use Rattle.im_log_gate.specs.declared.gate.Gate.{Gate}
use Rattle.im_log_gate.specs.Batches.{batches}
use Rattle.im_log_gate.specs.Gate.{file_of, base_at, place_of, logged, InOneFile, StartsAs}
use Rattle.im_log_gate.specs.Switching.{IsFirstGateOf, IsNextOf}
use Rattle.im_log_gate.specs.Header.{base_of, first_gate, generation_of, IsMade}
use Rattle.im_log_gate.proofs.Switching as made_logs
use Rattle.im_log_gate.proofs.Starts.{made_some}
use Rattle.im_log.specs.declared.log_file.LogFile.{LogFile}
use Rattle.im_log.specs.Kept.{HasLog}
use Rattle.im_log.specs.LogFile.{batch_lsn, IsLog}
use Rattle.im_log.specs.Switching.{HasEither, IsKeptOrUnmade, WentOn}
use Rattle.im_log.proofs.Creations.{blank_has}
use Rattle.im_log.proofs.Runs.{of_log, nothing_sealed, nothing_buffered, starts_kept}

-- the gate of a log whose file is as it was
pub starts_still : (gate new : Gate) (file c : List ℕ) → StartsAs gate file → InOneFile gate new → c ≡ file → StartsAs new c
starts_still gate new file c starts same is = subst (StartsAs new) (sym is) (starts_kept gate new file file starts same (record { gate = refl; base = refl; number = refl }) refl)

module _ {D : Type 0} (d : Ghosts D) where
  -- the other log is made, and the log is as it was
  pub log_stays : (old new : D) → ChangesOnly d Log2 old new → d.seen new Log ≡ d.seen old Log
  log_stays old new changes = changes.seen Log log_not_other

  -- each file is on the disk
  pub all_synced : (log : LogFile) (disk : D) → Only (file_of log.gate) (d.seen disk) (d.may_leave disk) → Only Pages (d.seen disk) (d.may_leave disk) → Only Log2 (d.seen disk) (d.may_leave disk) → IsSynced d disk
  all_synced log disk own pages other Log = subst (λ (f : FileId). Only f (d.seen disk) (d.may_leave disk)) log.of_log.file own
  all_synced log disk own pages other Pages = pages
  all_synced log disk own pages other Log2 = other

  -- a weaker fact
  pub named_weakened : (old new : D) (P Q : Files → Type 0) → LeavesNamed d old new P → (d.tells → (c : Files) → P c → Q c) → LeavesNamed d old new Q
  named_weakened old new P Q run within = record {
    later = run.later;
    each = λ told c left. within told c (run.each told c left);
    before = λ told t c le left. ⊎_elim (λ past. inl past) (λ now. inr (within told c now)) (run.before told t c le left);
  }

  module _ (base : ℕ) (all : List Logged) (log : LogFile) (disk : D) (h : IsLog d base all all log disk) where
    has_all : HasLog base all (d.seen disk Log)
    has_all = record { made = h.made; starts = h.starts; spells = h.on_disk }

    -- nothing is done
    pub nothing_stops : (start : ℕ) → ((c : Files) → d.left_since disk (d.moment disk) c → d.may_leave disk c) → IsSynced d disk → IsCurrent false (d.seen disk) → HasCurrent (d.seen disk)
        → LeavesNamed d disk disk (HasEither base all start (d.seen disk))
    nothing_stops start only_now synced current has = record {
      later = omega arith;
      each = λ told c left. subst (HasEither base all start (d.seen disk)) (sym (same c (only_now c left))) here;
      before = λ told t c le left. inl (inl left);
    }
      where
        same : (c : Files) → d.may_leave disk c → c ≡ d.seen disk
        same c left = λ i file. synced file c left i

        here : HasEither base all start (d.seen disk) (d.seen disk)
        here = record { swapped = false; current = current; has = has; log = inl (has_all, inl refl); pages = refl }

    module _ (next : ℕ) (header : Header) (is : IsNextOf log.gate next header) (fits : next < 2 ^ 64) (starts : StartsAs log.gate (d.seen disk Log)) (of_gate : log.base ≡ base_at log.gate) where
      fits_header : header.next < 2 ^ 64
      fits_header = omega (arith, fits, is.number)

      start_is : header.base ≡ base + place_of log.gate
      start_is = omega (arith, is.base, of_gate, h.based)

      -- the new log
      new_has : (file : List ℕ) → IsEmptyLog header.generation header.base header.next file → HasLog (base + place_of log.gate) [] file
      new_has file new =
          let says = made_logs.says header file is.ranged is.low fits_header new in
          subst (λ (n : ℕ). HasLog n [] file) start_is (blank_has header.base file (made_logs.made header file is.ranged is.low fits_header new) says.base (made_logs.empty header file is.ranged is.low fits_header new))

      -- beside the log from before the other is none of a later generation
      beside : (file : List ℕ) → generation_of file < generation_of (d.seen disk Log) → IsBeingMade (d.seen disk Log2) header.generation header.base header.next file → IsKeptOrUnmade (d.seen disk Log2) file
      beside file earlier (inl same) = inl same
      beside file earlier (inr (inl none)) = inr none
      beside file earlier (inr (inr new)) = absurd (
          let says = (made_logs.says header file is.ranged is.low fits_header new).generation in
          let now : header.generation ≡ generation_of (d.seen disk Log) + 1 = is.generation ∙ ap (λ (n : ℕ). n + 1) starts.generation in
          omega (arith, earlier, says, now))

      -- which is one of the other names
      by_names : (c : Files) (s t : Bool) → generation_of (named s c Log2) < generation_of (named s c Log) → named s c Log ≡ d.seen disk Log → named t c Log ≡ d.seen disk Log → IsBeingMade (d.seen disk Log2) header.generation header.base header.next (named t c Log2)
          → IsKeptOrUnmade (d.seen disk Log2) (named s c Log2)
      by_names c true true earlier same was going = beside (named true c Log2) (subst (λ (n : ℕ). generation_of (named true c Log2) < n) (ap generation_of same) earlier) going
      by_names c false false earlier same was going = beside (named false c Log2) (subst (λ (n : ℕ). generation_of (named false c Log2) < n) (ap generation_of same) earlier) going
      by_names c true false earlier same was going = absurd (let one = ap generation_of same in let two = ap generation_of was in omega (arith, earlier, one, two))
      by_names c false true earlier same was going = absurd (let one = ap generation_of same in let two = ap generation_of was in omega (arith, earlier, one, two))

      -- the log from before is made, so the current one is the later
      is_later : (c : Files) (s : Bool) → IsCurrent s c → named s c Log ≡ d.seen disk Log → generation_of (named s c Log2) < generation_of (named s c Log)
      is_later c s (inl earlier) same = earlier
      is_later c s (inr none) same = absurd (
          let zero : generation_of (named s c Log) ≡ 0 = subst (λ (t : Bool). generation_of (named t c Log) ≡ 0) (sym none.2) none.0 in
          let some = made_some (d.seen disk Log) h.made in
          let was = ap generation_of same in
          omega (arith, zero, some, was))

      either : (c : Files) (s : Bool) → IsCurrent s c → IsSwitching (d.seen disk) header.generation header.base header.next c
          → (named s c Log ≡ d.seen disk Log) ⊎ (IsEmptyLog header.generation header.base header.next (named s c Log) × (named s c Log2 ≡ d.seen disk Log))
          → (HasLog base all (named s c Log) × IsKeptOrUnmade (d.seen disk Log2) (named s c Log2)) ⊎ (HasLog (base + place_of log.gate) [] (named s c Log) × (named s c Log2 ≡ d.seen disk Log))
      either c s now going (inl same) = inl (subst (HasLog base all) (sym same) has_all, by_names c s going.swapped (is_later c s now same) same going.log going.other)
      either c s now going (inr new) = inr (new_has (named s c Log) new.0, new.1)

      -- a stop within
      pub going_stops : (new : D) → IsCurrent false (d.seen disk) → HasCurrent (d.seen disk) → LeavesNamed d disk new (IsSwitching (d.seen disk) header.generation header.base header.next)
          → LeavesNamed d disk new (HasEither base all (base + place_of log.gate) (d.seen disk))
      going_stops new current has run =
          named_weakened disk new (IsSwitching (d.seen disk) header.generation header.base header.next) (HasEither base all (base + place_of log.gate) (d.seen disk)) run
          (λ told c going.
          let both = stops (d.seen disk) c header.generation header.base header.next current has (made_some (d.seen disk Log) h.made) (is.generation ∙ ap (λ (n : ℕ). n + 1) starts.generation) is.ranged.last is.ranged.low is.ranged.numbered fits_header going in
          record { swapped = both.0.swapped; current = both.0.current; has = both.1; log = either c both.0.swapped both.0.current going both.0.log; pages = both.0.pages })

      -- and once it has gone on
      pub went_on : (new : LogFile) (new_disk : D) → new.failed ≡ false → new.base ≡ header.base → new.start ≡ 0 → new.used ≡ 0 → IsFirstGateOf header new.gate → StartsAs new.gate (d.seen new_disk Log) → IsMade (d.seen new_disk Log)
          → logged d new.gate new_disk ≡ Some [] → d.seen new_disk Log2 ≡ d.seen disk Log → d.seen new_disk Pages ≡ d.seen disk Pages → IsSynced d new_disk → WentOn d base all next log disk new new_disk
      went_on new new_disk works based start used first new_starts made none before pages durable =
          let file = d.seen new_disk Log in
          let low : base_of file ≡ base + place_of log.gate = sym new_starts.base ∙ first.base ∙ start_is in
          let none_there : batches (first_gate file) file ≡ Some [] = of_log new.gate (first_gate file) new.of_log new_starts.first (λ (f : FileId) (n : ℕ). batches n (d.seen new_disk f) ≡ Some []) none in
          let has = blank_has (base + place_of log.gate) file made low none_there in
          record {
            log = record {
              tells = h.tells;
              working = works;
              based = based ∙ start_is;
              made = made;
              starts = low;
              on_disk = has.spells;
              sealed = nothing_sealed new start;
              mid = [];
              in_sealed = refl;
              in_buffer = nothing_buffered (batch_lsn new) new [] used;
              front = record { newer = []; is = refl };
              below = omega (arith, based, start_is);
            };
            generation = sym new_starts.generation ∙ first.generation ∙ is.generation ∙ ap (λ (n : ℕ). n + 1) starts.generation;
            number = sym new_starts.least ∙ first.least ∙ is.number;
            before = before;
            pages = pages;
            durable = durable;
          }
