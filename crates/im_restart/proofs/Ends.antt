-- How the calls of a restart end, and an opening.
use Rattle.std.proofs.Common.{◌≡◌, ◌≢◌, ◌⊎◌, inl, inr, Bool, false, true, Some, None, refl, sym, ◌∙◌, ap, subst}
use Rattle.std.specs.Prelude.{◌↔◌, Result, Ok, Err, IsErrAnd, IfErr}
use Rattle.im_base_types.specs.declared.fault.Fault.{Fault}
use Rattle.im_base_types.specs.declared.fault.Fault.TheVariants.{Capacity, Device, Failed, LogFull, Memory, NotAStore}
use Rattle.im_base_disk.specs.declared.disk.Disk.{Ghosts}
use Rattle.im_log.specs.declared.log_file.LogFile.{LogFile}
use Rattle.im_log.specs.LogFile.{IsOpen}
use Rattle.im_page_writer.specs.declared.page_writer.PageWriter.{PageWriter}
use Rattle.im_page_writer.specs.PageWriter.{IsReadyWriter}
use Rattle.im_page_writer.specs.Outcome.{Logs, LogEnds, Works, mild, none_mild, fault_of}
use Rattle.im_page_file.proofs.LogEnds.{still_working}
use Rattle.im_smo_pages.specs.Kept.{mild_to_take}
use Rattle.im_restart_redo.specs.Recovery.{RecoveryEnds, Recovers}
use Rattle.im_restart_redo.proofs.Recoveries.{unmoved}
use Rattle.im_restart.specs.Restart.{IsFullLog}
use Rattle.im_restart.specs.Opening.{OpeningEnds, Opens}
use Rattle.im_restart.proofs.FullLog.{full_log}

-- ---- what else a call may be refused for

pub take_none : (e : Fault) → none_mild e ≡ true → mild_to_take e ≡ true
take_none e is = absurd (cc is)

pub either_mild : {A : Type 0} (r : Result A Fault) → IfErr r (λ e. (e ≡ Memory) ⊎ (e ≡ NotAStore)) → IfErr r (λ e. mild e ≡ true)
either_mild {A} (Ok a) causes = tt
either_mild {A} (Err e) (inl is) = ap mild is
either_mild {A} (Err e) (inr is) = ap mild is

pub memory_mild : {A : Type 0} (r : Result A Fault) → IfErr r (λ e. e ≡ Memory) → IfErr r (λ e. mild e ≡ true)
memory_mild {A} (Ok a) is = tt
memory_mild {A} (Err e) is = ap mild is

-- ---- a key record that is taken back, refused late

failed_or : (f : Fault) → (f ≡ Failed) ⊎ (f ≢ Failed)
failed_or Failed = inl refl
failed_or e = inr (λ is. cc is)

module _ {D : Type 0} (d : Ghosts D) where
  works_late : (v w : PageWriter) (old new : D) (f : Fault) → f ≡ Failed → LogEnds d true mild_to_take v old w new (Some f) → Works d v w new
  works_late v w old new Failed is one = one
  works_late v w old new e is one = absurd (cc is)

  other_late : (v w : PageWriter) (old new : D) (f : Fault) → f ≢ Failed → LogEnds d true mild_to_take v old w new (Some f) → RecoveryEnds d mild_to_take v w new (Some f)
  other_late v w old new Failed not one = absurd (not refl)
  other_late v w old new Device not one = one
  other_late v w old new LogFull not one = one
  other_late v w old new NotAStore not one = (refl, one.began, one.alive)
  other_late v w old new e not one = (one.0, one.1.began, one.1.alive)

  -- for want of memory within it, it is answered as any other
  pub answered_late : {v w : PageWriter} {old new : D} (f answer : Fault) → Logs d true mild_to_take v old w new (Some f) → (f ≡ Failed → answer ≡ Memory) → (f ≢ Failed → answer ≡ f) → Recovers d mild_to_take v w new (Some answer)
  answered_late {v} {w} {old} {new} f answer one memory others = record {
    ready = one.ready;
    frames = one.frames;
    ends = elim (failed_or f) [
      | inl is ↦ let works = works_late v w old new f is one.ends in subst (λ (x : Fault). RecoveryEnds d mild_to_take v w new (Some x)) (sym (memory is)) (refl, works.began, works.alive)
      | inr not ↦ subst (λ (x : Fault). RecoveryEnds d mild_to_take v w new (Some x)) (sym (others not)) (other_late v w old new f not one.ends)
    ];
  }

  done_late : (v w : PageWriter) (old new : D) → LogEnds d true mild_to_take v old w new None → RecoveryEnds d mild_to_take v w new None
  done_late v w old new one = one

  pub done_well : {v w : PageWriter} {old new : D} → Logs d true mild_to_take v old w new None → Recovers d mild_to_take v w new None
  done_well {v} {w} {old} {new} one = record { ready = one.ready; frames = one.frames; ends = done_late v w old new one.ends }

  -- bytes that are no store's, refused before any call
  pub no_store : {may : Fault → Bool} (v : PageWriter) (old : D) → may NotAStore ≡ true → v.failed ≡ false → IsReadyWriter d v old → Recovers d may v v old (Some NotAStore)
  no_store {may} v old is works ready = let begun = (unmoved d {may = may} v old works ready).ends in record { ready = ready; frames = refl; ends = (is, begun.began, begun.alive) }

-- ---- numbers that are used up

module _ {D : Type 0} (d : Ghosts D) where
  never_full : (v w : PageWriter) (new : D) (e : Fault) → RecoveryEnds d mild v w new (Some e) → e ≡ Capacity → ⊥
  never_full v w new Capacity one is = let clash = one.0 in cc clash
  never_full v w new e one is = cc is

  -- a call that takes no page is not refused for them
  pub never_numbers : {v w : PageWriter} {new : D} {f : Fault} → Recovers d mild v w new (Some f) → {X : Type 0} → f ≡ Capacity → X
  never_numbers {v} {w} {new} {f} one {X} is = absurd (never_full v w new f one.ends is)

  pub no_numbers : {A : Type 0} {v w : PageWriter} {new : D} (r : Result A Fault) → Recovers d mild v w new (fault_of r) → (X : Type 0) → IfErr r (λ e. e ≡ Capacity → X)
  no_numbers {A} {v} {w} {new} (Ok a) one X = tt
  no_numbers {A} {v} {w} {new} (Err e) one X = λ is. never_numbers one is

-- nor is one that is refused for another cause
pub other_cause : (f g : Fault) → f ≡ g → (g ≡ Capacity → ⊥) → {X : Type 0} → f ≡ Capacity → X
other_cause f g is other {X} full = absurd (other (sym is ∙ full))

-- nor is the reading of a log
pub read_cause : (f : Fault) → (f ≡ Memory) ⊎ (f ≡ Device) ⊎ (f ≡ NotAStore) → {X : Type 0} → f ≡ Capacity → X
read_cause f (inl is) {X} full = other_cause f Memory is (λ x. cc x) full
read_cause f (inr (inl is)) {X} full = other_cause f Device is (λ x. cc x) full
read_cause f (inr (inr is)) {X} full = other_cause f NotAStore is (λ x. cc x) full

-- why the reading of a log was refused, and that of the file of pages
pub log_causes : (f : Fault) → ((f ≡ Memory) ⊎ (f ≡ NotAStore)) ⊎ (f ≡ Device) → (f ≡ Memory) ⊎ (f ≡ Device) ⊎ (f ≡ NotAStore)
log_causes f (inl (inl is)) = inl is
log_causes f (inl (inr is)) = inr (inr is)
log_causes f (inr is) = inr (inl is)

pub file_causes : (f : Fault) → (f ≡ NotAStore) ⊎ (f ≡ Device) → (f ≡ Memory) ⊎ (f ≡ Device) ⊎ (f ≡ NotAStore)
file_causes f (inl is) = inr (inr is)
file_causes f (inr is) = inr (inl is)

-- ---- an opening

module _ {D : Type 0} (d : Ghosts D) where
  settled_end : (v w : PageWriter) (new : D) → v.failed ≡ false → IsReadyWriter d w new → (f : Fault) → RecoveryEnds d mild_to_take v w new (Some f) → OpeningEnds d new (Some f)
  settled_end v w new works ready Failed one = absurd (let clash : false ≡ true = sym works ∙ one.0 in cc clash)
  settled_end v w new works ready Device one = one.1
  settled_end v w new works ready LogFull one = (one.1, full_log d w new ready (λ lost. let clash : false ≡ true = sym one.1 ∙ lost in cc clash) one.2)
  settled_end v w new works ready e one = (one.0, one.2)

  -- after the calls over the writer
  pub opens_settled : {v w : PageWriter} {new : D} {f : Fault} → v.failed ≡ false → Recovers d mild_to_take v w new (Some f) → Opens d new (Some f)
  opens_settled {v} {w} {new} {f} works one = record { ends = settled_end v w new works one.ready f one.ends }

  read_end : (new : D) (f : Fault) → (f ≡ Memory) ⊎ (f ≡ Device) ⊎ (f ≡ NotAStore) → (f ≡ Device) ↔ (d.failed new ≡ true) → OpeningEnds d new (Some f)
  read_end new f (inl is) lost = subst (λ (x : Fault). OpeningEnds d new (Some x)) (sym is) (refl, still_working (d.failed new) (λ gone. let clash : Memory ≡ Device = sym is ∙ lost.1 gone in cc clash))
  read_end new f (inr (inl is)) lost = subst (λ (x : Fault). OpeningEnds d new (Some x)) (sym is) (lost.0 is)
  read_end new f (inr (inr is)) lost = subst (λ (x : Fault). OpeningEnds d new (Some x)) (sym is) (refl, still_working (d.failed new) (λ gone. let clash : NotAStore ≡ Device = sym is ∙ lost.1 gone in cc clash))

  -- after the reading of the log
  pub opens_read : {A : Type 0} {new : D} (r : Result A Fault) (f : Fault) → r ≡ Err f → (f ≡ Memory) ⊎ (f ≡ Device) ⊎ (f ≡ NotAStore) → (r ≡ Err Device) ↔ (d.failed new ≡ true) → Opens d new (Some f)
  opens_read {A} {new} r f is causes device = record { ends = read_end new f causes ((λ e. device.0 (is ∙ ap Err e)), (λ lost. let same = sym is ∙ device.1 lost in cc same)) }

  -- an open log that has not failed stands on a disk that works
  pub alive_log : (file : LogFile) (disk : D) → IsOpen d file disk → file.failed ≡ false → d.failed disk ≡ false
  alive_log file disk is_open works = is_open.ready.reading.working (is_open.working works)

  -- for want of memory, at a disk that works
  pub opens_without : {new : D} {f : Fault} → f ≡ Memory → d.failed new ≡ false → Opens d new (Some f)
  opens_without {new} {f} is alive = subst (λ (x : Fault). Opens d new (Some x)) (sym is) (record { ends = (refl, alive) })

  -- a refusal that is handed on
  pub opens_refused : {A : Type 0} {new : D} {f : Fault} (r : Result A Fault) → IsErrAnd r (λ e. e ≡ f) → Opens d new (Some f) → Opens d new (fault_of r)
  opens_refused {A} {new} {f} (Ok a) is one = absurd is
  opens_refused {A} {new} {f} (Err e) is one = subst (λ (x : Fault). Opens d new (Some x)) (sym is) one

  -- ---- what the outcome says, for callers

  mild_cause : (e : Fault) → mild_to_take e ≡ true → (e ≡ Memory) ⊎ (e ≡ NotAStore) ⊎ (e ≡ Capacity)
  mild_cause Memory is = inl refl
  mild_cause NotAStore is = inr (inl refl)
  mild_cause Capacity is = inr (inr refl)
  mild_cause e is = absurd (cc is)

  cause_of : (new : D) (e : Fault) → OpeningEnds d new (Some e) → (e ≡ Memory) ⊎ (e ≡ Device) ⊎ (e ≡ NotAStore) ⊎ (e ≡ LogFull) ⊎ (e ≡ Capacity)
  cause_of new Device one = inr (inl refl)
  cause_of new LogFull one = inr (inr (inr (inl refl)))
  cause_of new e one = elim (mild_cause e one.0) [ inl is ↦ inl is | inr more ↦ elim more [ inl is ↦ inr (inr (inl is)) | inr is ↦ inr (inr (inr (inr is))) ] ]

  pub opening_causes : {A : Type 0} {new : D} (r : Result A Fault) → Opens d new (fault_of r) → IfErr r (λ e. (e ≡ Memory) ⊎ (e ≡ Device) ⊎ (e ≡ NotAStore) ⊎ (e ≡ LogFull) ⊎ (e ≡ Capacity))
  opening_causes {A} {new} (Ok a) one = tt
  opening_causes {A} {new} (Err e) one = cause_of new e one.ends

  full_of : (new : D) (e : Fault) → OpeningEnds d new (Some e) → e ≡ LogFull → d.tells → IsFullLog (d.seen new)
  full_of new LogFull one is told = one.1 told
  full_of new e one is told = absurd (cc is)

  pub opening_full : {A : Type 0} {new : D} (r : Result A Fault) → Opens d new (fault_of r) → IfErr r (λ e. e ≡ LogFull → d.tells → IsFullLog (d.seen new))
  opening_full {A} {new} (Ok a) one = tt
  opening_full {A} {new} (Err e) one = full_of new e one.ends

  device_of : (new : D) (e : Fault) → OpeningEnds d new (Some e) → (e ≡ Device) ↔ (d.failed new ≡ true)
  device_of new Device one = ((λ is. one), (λ lost. refl))
  device_of new LogFull one = ((λ is. absurd (cc is)), (λ lost. absurd (let clash : false ≡ true = sym one.0 ∙ lost in cc clash)))
  device_of new e one = ((λ is. absurd (cc is)), (λ lost. absurd (let clash : false ≡ true = sym one.1 ∙ lost in cc clash)))

  pub opening_device : {A : Type 0} {new : D} (r : Result A Fault) → Opens d new (fault_of r) → (r ≡ Err Device) ↔ (d.failed new ≡ true)
  opening_device {A} {new} (Ok a) one = ((λ is. absurd (cc is)), (λ lost. absurd (let clash : false ≡ true = sym one.ends ∙ lost in cc clash)))
  opening_device {A} {new} (Err e) one = let by = device_of new e one.ends in ((λ is. by.0 (cc is)), (λ lost. ap Err (by.1 lost)))
