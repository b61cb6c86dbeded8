-- An engine whose disk only reads something: it is as it was.
use Rattle.std.specs.Prelude.{IfOk, IfSome}
use Rattle.std.proofs.Common.{◌≡◌, List, Option, None, Some, Result, Ok, Err, false, sym, subst, ◌∙◌}
use Rattle.im_base_types.specs.Changes.{Effect}
use Rattle.im_base_types.specs.Lives.{Shown}
use Rattle.im_base_disk.specs.declared.disk.Disk.{Ghosts}
use Rattle.im_base_disk.specs.Disk.{Files}
use Rattle.im_base_disk.specs.Runs.{Reads}
use Rattle.im_base_disk.proofs.Runs.{reads_none, reads_on, started}
use Rattle.im_base_two_logs.proofs.Runs.{unnamed}
use Rattle.im_page_writer.specs.declared.page_writer.PageWriter.{PageWriter}
use Rattle.im_page_writer.specs.PageWriter.{Evicted}
use Rattle.im_page_flush.proofs.Flushing.{goes_read}
use Rattle.im_theory_log.specs.Histories.{Base}
use Rattle.im_theory_machine.specs.View.{View}
use Rattle.im_engine.specs.declared.engine.Engine.{Engine}
use Rattle.im_engine.specs.Copied.{CopyKept, IsStill, OnlyDisk}
use Rattle.im_engine.specs.Running.{IsRunning, IsLife}
use Rattle.im_engine.specs.Stands.{Allowed}
use Rattle.im_engine.proofs.Looked.{still_runs}
use Rattle.im_engine.proofs.Named.{allowed_nameless}

-- a disk that is as it was
pub same_reads : {D : Type 0} (d : Ghosts D) (old new : D) → new ≡ old → Reads d old new
same_reads {D = D} d old new same = subst (λ (x : D). Reads d old x) (sym same) (reads_none d old)

-- a fact of what is handed out that follows from three others
pub whole_copy : {A E : Type 0} (r : Result (Option A) E) (P Q R S : A → Type 0) → IfOk r (λ o. IfSome o P) → IfOk r (λ o. IfSome o Q) → IfOk r (λ o. IfSome o R)
    → ((x : A) → P x → Q x → R x → S x) → IfOk r (λ o. IfSome o S)
whole_copy (Ok (Some x)) P Q R S p q r then = then x p q r
whole_copy (Ok None) P Q R S p q r then = tt
whole_copy (Err e) P Q R S p q r then = tt

module _ {D : Type 0} (d : Ghosts D) (before : List Effect) (s : Shown) (v : View) (old new : Engine D d) (only : OnlyDisk d old new) (only_now : (c : Files) → d.left_since old.disk (d.moment old.disk) c → d.may_leave old.disk c) where
  -- the disk of an engine that works, works
  alive : {b : Base} → IsRunning d b before s v old → d.failed old.disk ≡ false
  alive r =
      let opened = old.ready.opened r.stands.working in
      opened.ready.reading.working (opened.working (old.ready.works r.stands.working))

  evicted : {b : Base} (r : IsRunning d b before s v old) → Evicted d b r.base r.now old.disk new.writer new.disk
  evicted {b = b} r = subst (λ (w : PageWriter). Evicted d b r.base r.now old.disk w new.disk) (sym only.writer) (record {
    now = r.now;
    on = record {
      working = r.stands.working;
      goes = goes_read d b r.base r.now old.writer.log old.writer.table old.writer.pool old.disk new.disk only_now r.stands.writing only.reads (only.device ∙ alive r);
      known = r.stands.known;
    };
  })

  -- the life goes on
  pub copy_kept : IsLife d before s v old → CopyKept d before s v old new
  copy_kept life = record {
    life = record {
      stops = λ c left. life.stops c (only.reads.outcomes c left);
      failed = life.failed ∙ sym only.failed;
      lived = life.lived;
      running = λ on.
          let works : old.failed ≡ false = sym only.failed ∙ on in
          ((life.running works).0, still_runs d before s v old new life works (evicted (life.running works).1) only.txns only.locks only.under);
    };
    stops = unnamed d (Allowed before s) (allowed_nameless before s) old.disk new.disk
        (reads_on d old.disk old.disk new.disk (Allowed before s) (started d old.disk (Allowed before s) (λ told c left. life.stops c (only_now c left))) only.reads);
  }

pub still_as : {D : Type 0} (d : Ghosts D) (old new : Engine D d) → OnlyDisk d old new → ((c : Files) → d.left_since old.disk (d.moment old.disk) c → d.may_leave old.disk c) → IsStill d old new
still_as d old new only only_now = record { only = only; kept = λ before s v life. copy_kept d before s v old new only only_now life }
