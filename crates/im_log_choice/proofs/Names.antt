-- What is known of two logs whose headers were read, and of a disk once they have names.
use Rattle.std.proofs.Common.{◌≡◌, ◌⊎◌, ◌↔◌, inl, inr, ⊎_elim, ℕ, ◌<◌, ◌≤◌, true, false, refl, sym, ◌∙◌, ap, subst, arith}
use Rattle.std.specs.Prelude.{Result, Ok, Err, IsErrAnd, IfSome, List, Option, Some, None}
use Rattle.std.proofs.lemmas.Bool.{cases_eq}
use Rattle.im_base_types.specs.declared.fault.Fault.{Fault}
use Rattle.im_base_types.specs.declared.fault.Fault.TheVariants.{Device}
use Rattle.im_base_types.specs.declared.file_id.FileId.TheVariants.{Log, Log2}
use Rattle.im_base_disk.specs.declared.disk.Disk.{Ghosts}
use Rattle.im_base_disk.specs.Disk.{Files}
use Rattle.im_base_disk.specs.Runs.{Reads}
use Rattle.im_base_two_logs.specs.Renamed.{named}
use Rattle.im_log_header.specs.declared.header.LogStart.{LogStart}
use Rattle.im_log_header.specs.Header.{generation_of, IsUnmade, IsMade}
use Rattle.im_log_header.specs.Start.{IsHeader, SaysStart}
use Rattle.im_log_header.proofs.Saying.{unmade}
use Rattle.im_log_choice.specs.declared.logs.Logs.{Logs}
use Rattle.im_log_choice.specs.Current.{IsCurrent, HasCurrent}
use Rattle.im_log_choice.specs.Found.{AreFound, HasFirst, IsFound, IsOfFirst, SaysFirst, StartsFirst}
use Rattle.im_log_choice.specs.Switching.{ReadsNamed}

module _ (files : Files) (x y : ℕ) (one : x ≡ generation_of (files Log)) (two : y ≡ generation_of (files Log2)) where
  -- the other log is newer
  pub other_current : x < y → IsCurrent true files
  other_current less = inl (omega (arith, one, two, less))

  -- it is not, and neither is made where both say the same
  pub log_current : y ≤ x → (x ≡ y → x ≡ 0) → IsCurrent false files
  log_current least none = elim (cases_eq x y) [
    | inl same ↦ (let zero = none same in inr (omega (arith, one, zero), omega (arith, two, zero, same), refl))
    | inr apart ↦ inl (omega (arith, one, two, least, apart))
  ]

  module _ (log : IsUnmade (files Log) ⊎ IsMade (files Log)) (other : IsUnmade (files Log2) ⊎ IsMade (files Log2)) where
    pub has_by : (x ≡ y → IsUnmade (files Log) × IsUnmade (files Log2)) → HasCurrent files
    has_by none = record { log = log; other = other; apart = λ same. none (one ∙ same ∙ sym two) }

  -- two of one generation that is not 0
  pub has_none : x ≡ y → 0 < x → HasCurrent files → ⊥
  has_none same some has =
      let none = has.apart (sym one ∙ same ∙ two) in
      let zero = (unmade (files Log) none.0).generation in
      omega (arith, one, zero, some)

-- where neither is made the other log is not the current one
pub none_turned : (files : Files) → IsUnmade (files Log) → IsUnmade (files Log2) → IsCurrent true files → ⊥
none_turned files log other (inl less) = let zero = (unmade (files Log2) other).generation in omega (arith, less, zero)
none_turned files log other (inr none) = let clash : true ≡ false = none.2 in absurd (cc clash)

-- a log that is of neither format
pub no_log : (files : Files) → (IsUnmade (files Log) → ⊥) → (IsMade (files Log) → ⊥) → HasCurrent files → ⊥
no_log files not_unmade not_made has = ⊎_elim not_unmade not_made has.log

pub no_other : (files : Files) → (IsUnmade (files Log2) → ⊥) → (IsMade (files Log2) → ⊥) → HasCurrent files → ⊥
no_other files not_unmade not_made has = ⊎_elim not_unmade not_made has.other

-- the same of files that were read again
pub no_other_then : (was files : Files) → files ≡ was → (IsUnmade (files Log2) → ⊥) → (IsMade (files Log2) → ⊥) → HasCurrent was → ⊥
no_other_then was files same not_unmade not_made has = no_other files not_unmade not_made (subst HasCurrent (sym same) has)

-- the refusal that a call hands on is that of its callee
abbrev fault_in : {A : Type 0} → Result A Fault → Fault
fault_in (Ok a) = Device
fault_in (Err e) = e

pub handed_on : {A B : Type 0} (r : Result A Fault) (f x : Fault) → IsErrAnd r (λ e. e ≡ f) → r ≡ Err x → ◌≡◌ {A = Result B Fault} (Err f) (Err x)
handed_on (Ok a) f x is same = absurd is
handed_on (Err e) f x is same = ap (λ (y : Fault). Err y) (sym is ∙ ap fault_in same)

-- ---- what was read of the headers

pub found_by : (T : Type 0) → T → (file : List ℕ) (found : Option LogStart) → (found ≡ None → T → IsUnmade file) → IfSome found (λ start. T → IsMade file) → IfSome found (λ start. T → SaysStart start file)
    → IfSome found (λ start. IsHeader start.header) → IsFound found file
found_by T told file None none made says ranged = none refl told
found_by T told file (Some start) none made says ranged = (made told, says told, ranged)

known : (file : List ℕ) (found : Option LogStart) → IsFound found file → IsUnmade file ⊎ IsMade file
known file None is = inl is
known file (Some start) is = inr is.0

module _ (files : Files) (logs : Logs) (are : AreFound logs files) where
  pub log_known : IsUnmade (files Log) ⊎ IsMade (files Log)
  log_known = known (files Log) logs.log are.log

  pub other_known : IsUnmade (files Log2) ⊎ IsMade (files Log2)
  other_known = known (files Log2) logs.other are.other

-- a made log whose gate stands there says so, and no other file
starts_first : (file : List ℕ) (found : Option LogStart) → IsFound found file → StartsFirst found ↔ IsOfFirst file
starts_first file None is = (λ never. absurd never, λ made. absurd (let gate = (unmade file is).gate in let first = made.1 in omega (arith, gate, first)))
starts_first file (Some start) is = (λ first. (is.0, is.1.gate ∙ first), λ made. sym is.1.gate ∙ made.1)

pub says_first : (logs : Logs) (files : Files) → AreFound logs files → SaysFirst logs ↔ HasFirst files
says_first logs files are =
    let log = starts_first (files Log) logs.log are.log in
    let other = starts_first (files Log2) logs.other are.other in
    (⊎_elim (λ first. inl (log.0 first)) (λ first. inr (other.0 first)), ⊎_elim (λ made. inl (log.1 made)) (λ made. inr (other.1 made)))

either : {A B : Type 0} → A ⊎ B → B ⊎ A
either (inl a) = inr a
either (inr b) = inl b

pub other_way : {A B C : Type 0} → (A ⊎ B) ↔ C → (B ⊎ A) ↔ C
other_way both = (λ is. both.0 (either is), λ c. either (both.1 c))

-- ---- names

pub turned_current : (files : Files) → IsCurrent true files → IsCurrent false (named true files)
turned_current files (inl less) = inl less
turned_current files (inr none) = let clash : true ≡ false = none.2 in absurd (cc clash)

pub turned_has : (files : Files) → HasCurrent files → HasCurrent (named true files)
turned_has files has = record { log = has.other; other = has.log; apart = λ same. (let none = has.apart (sym same) in (none.1, none.0)) }

module _ {D : Type 0} (d : Ghosts D) (old mid : D) (reads : Reads d old mid) where
  -- names that stay
  pub reads_kept : ReadsNamed d old mid
  reads_kept = record {
    swapped = false;
    seen = reads.seen;
    outcomes = λ c. (reads.outcomes c, reads.no_fewer c);
    later = reads.later;
    since = λ t c le. (reads.since t c le, reads.keeps t c le);
    writes = reads.writes;
    syncs = reads.syncs;
  }

  -- names that are changed after the reads
  module _ (new : D) (seen : d.seen new ≡ named true (d.seen mid)) where
    pub reads_turned : ((c : Files) → d.may_leave new c ↔ d.may_leave mid (named true c)) → d.moment new ≡ d.moment mid
        → ((t : ℕ) (c : Files) → d.left_since new t c ↔ d.left_since mid t (named true c)) → d.writes new ≡ d.writes mid → d.syncs new ≡ d.syncs mid → ReadsNamed d old new
    reads_turned may_leave moment left_since writes syncs = record {
      swapped = true;
      seen = seen ∙ ap (named true) reads.seen;
      outcomes = λ c. (λ left. reads.outcomes (named true c) ((may_leave c).0 left), λ left. (may_leave c).1 (reads.no_fewer (named true c) left));
      later = omega (arith, reads.later, moment);
      since = λ t c le. (λ left. reads.since t (named true c) le ((left_since t c).0 left), λ left. (left_since t c).1 (reads.keeps t (named true c) le left));
      writes = writes ∙ reads.writes;
      syncs = syncs ∙ reads.syncs;
    }

    pub turned_seen : d.seen new ≡ named true (d.seen old)
    turned_seen = seen ∙ ap (named true) reads.seen

    pub current_turned : IsCurrent true (d.seen old) → IsCurrent false (d.seen new)
    current_turned is = subst (IsCurrent false) (sym turned_seen) (turned_current (d.seen old) is)

    pub found_turned : (logs : Logs) → AreFound logs (d.seen old) → AreFound (record { log = logs.other; other = logs.log; is_swapped = true }) (d.seen new)
    found_turned logs are = subst (AreFound (record { log = logs.other; other = logs.log; is_swapped = true })) (sym turned_seen) (record { log = are.other; other = are.log })

    pub has_turned : HasCurrent (d.seen old) → HasCurrent (d.seen new)
    has_turned has = subst HasCurrent (sym turned_seen) (turned_has (d.seen old) has)

  pub current_kept : IsCurrent false (d.seen old) → IsCurrent false (d.seen mid)
  current_kept is = subst (IsCurrent false) (sym reads.seen) is

  pub has_kept : HasCurrent (d.seen old) → HasCurrent (d.seen mid)
  has_kept has = subst HasCurrent (sym reads.seen) has

  pub found_kept : (logs : Logs) → AreFound logs (d.seen old) → AreFound logs (d.seen mid)
  found_kept logs are = subst (AreFound logs) (sym reads.seen) are
