-- Calls that add Images to a log, in a row, and how they end together.
use Rattle.std.proofs.Common.{◌≡◌, false, true, Option, None, Some, refl, sym, ◌∙◌, subst}
use Rattle.std.specs.Prelude.{Result, Ok, Err, IsErrAnd, OnOk}
use Rattle.im_base_types.specs.declared.fault.Fault.{Fault}
use Rattle.im_base_types.specs.declared.fault.Fault.TheVariants.{Device, Failed, LogFull}
use Rattle.im_base_disk.specs.declared.disk.Disk.{Ghosts}
use Rattle.im_log.specs.declared.log_file.LogFile.{LogFile}
use Rattle.im_log.specs.LogFile.{IsOpen}
use Rattle.im_base_types.specs.Outcomes.{CallEnds, none_own}
use Rattle.im_log.specs.Outcome.{LacksRoom, LogOutcome}
use Rattle.im_page_file.specs.Imaging.{ImagingEnds, Imaging}
use Rattle.im_page_file.specs.LogEnds.{EndsNoSooner, fault_of}
use Rattle.im_page_file.proofs.LogEnds.{ends_same, ends_then}

module _ {D : Type 0} (d : Ghosts D) where
  imaging_behind : (old mid new : LogFile) → EndsNoSooner old mid → (disk : D) (why : Option Fault) → ImagingEnds d mid new disk why → ImagingEnds d old new disk why
  imaging_behind old mid new one disk None two = (two.0, two.1, ends_then old mid new one two.2)
  imaging_behind old mid new one disk (Some LogFull) two = two
  imaging_behind old mid new one disk (Some Device) two = two
  imaging_behind old mid new one disk (Some e) two = absurd two

  -- how two calls end together, of which the first was not refused
  pub imaging_then : {old mid new : LogFile} {first disk : D} {why : Option Fault} → Imaging d old mid first None → Imaging d mid new disk why → Imaging d old new disk why
  imaging_then {old} {mid} {new} {first} {disk} {why} one two = record { still = two.still; ends = imaging_behind old mid new one.ends.2 disk why two.ends }

  -- a refusal that is handed on
  pub imaging_refused : {A : Type 0} {old new : LogFile} {disk : D} {f : Fault} (r : Result A Fault) → IsErrAnd r (λ e. e ≡ f) → Imaging d old new disk (Some f) → Imaging d old new disk (fault_of r)
  imaging_refused {A} {old} {new} {disk} {f} (Ok a) is one = absurd is
  imaging_refused {A} {old} {new} {disk} {f} (Err e) is one = subst (λ (x : Fault). Imaging d old new disk (Some x)) (sym is) one

  appended_end : (old new : LogFile) (disk : D) → old.failed ≡ false → (why : Option Fault) → CallEnds (LacksRoom 4129 new) old.failed new.failed (d.failed disk) why → (why ≡ None → EndsNoSooner old new) → ImagingEnds d old new disk why
  appended_end old new disk began None ends later = (ends.1, ends.2, later refl)
  appended_end old new disk began (Some Failed) ends later = absurd (let clash : false ≡ true = sym began ∙ ends.0 in cc clash)
  appended_end old new disk began (Some Device) ends later = ends.2
  appended_end old new disk began (Some LogFull) ends later = (ends.2, ends.3.no_room, ends.3.left)
  appended_end old new disk began (Some e) ends later = absurd (let clash = ends.3.full in cc clash)

  later_of : {A : Type 0} (r : Result A Fault) (P : Type 0) → OnOk r P → fault_of r ≡ None → P
  later_of (Ok a) P is none = is
  later_of (Err e) P is none = absurd (cc none)

  -- an Image that was appended, or could not be
  pub appended_image : {A : Type 0} {old new : LogFile} {before disk : D} (r : Result A Fault) → old.failed ≡ false → LogOutcome d (LacksRoom 4129 new) old before new disk (fault_of r) → OnOk r (EndsNoSooner old new) → Imaging d old new disk (fault_of r)
  appended_image {A} {old} {new} {before} {disk} r began one later =
      record { still = λ works. one.ready; ends = appended_end old new disk began (fault_of r) one.ends (later_of r _ later) }

  -- the device failed
  pub imaging_lost : {A : Type 0} {old new : LogFile} {disk : D} {f : Fault} (r : Result A Fault) → IsErrAnd r (λ e. e ≡ f) → f ≡ Device → d.failed disk ≡ true → Imaging d old new disk (fault_of r)
  imaging_lost {A} {old} {new} {disk} {f} r is device failed =
      imaging_refused r is
      (subst (λ (x : Fault). Imaging d old new disk (Some x)) (sym device) (record { still = λ works. absurd (let clash : true ≡ false = sym failed ∙ works in cc clash); ends = failed }))

  -- no call was made yet
  pub imaging_none : (log : LogFile) (disk : D) → IsOpen d log disk → log.failed ≡ false → Imaging d log log disk None
  imaging_none log disk opened works = record { still = λ alive. opened; ends = (works, opened.ready.reading.working (opened.working works), ends_same log) }

  -- a force that failed
  lost_end : (old new : LogFile) (disk : D) → old.failed ≡ false → (f : Fault) → CallEnds none_own old.failed new.failed (d.failed disk) (Some f) → ImagingEnds d old new disk (Some f)
  lost_end old new disk began Failed ends = absurd (let clash : false ≡ true = sym began ∙ ends.0 in cc clash)
  lost_end old new disk began Device ends = ends.2
  lost_end old new disk began f ends = absurd ends.3

  pub force_lost : {old new : LogFile} {before disk : D} {f : Fault} → old.failed ≡ false → LogOutcome d none_own old before new disk (Some f) → Imaging d old new disk (Some f)
  force_lost {old} {new} {before} {disk} {f} began one = record { still = λ works. one.ready; ends = lost_end old new disk began f one.ends }
