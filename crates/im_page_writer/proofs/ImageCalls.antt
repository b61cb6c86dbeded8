-- A call of the writer that adds Images to its log, and is refused.
use Rattle.std.proofs.Common.{◌≡◌, ℕ, Bool, false, true, Some, sym, ◌∙◌}
use Rattle.std.specs.Prelude.{Result, IsErrAnd}
use Rattle.im_base_types.specs.declared.fault.Fault.{Fault}
use Rattle.im_base_types.specs.declared.fault.Fault.TheVariants.{Device, LogFull}
use Rattle.im_theory_log.specs.Histories.{Base}
use Rattle.im_theory_log.specs.Writer.{Writer}
use Rattle.im_base_disk.specs.declared.disk.Disk.{Ghosts}
use Rattle.im_log.specs.declared.log_file.LogFile.{LogFile}
use Rattle.im_page_file.specs.Imaging.{ImagingEnds, Imaging}
use Rattle.im_page_file.specs.LogEnds.{fault_of}
use Rattle.im_page_writer.specs.declared.page_writer.PageWriter.{PageWriter}
use Rattle.im_page_writer.specs.Outcome.{Breaks, Ends, Outcome}
use Rattle.im_page_writer.specs.PageWriter.{StandsAs}
use Rattle.im_page_flush.specs.Writing.{LeavesGrown}
use Rattle.im_page_writer.proofs.Outcomes.{handed_on}

module _ {D : Type 0} (d : Ghosts D) where
  broke_end : (asks : Writer → Type 0) (m : Fault → Bool) (v : PageWriter) (old : D) (w : PageWriter) (new : D) → Breaks d asks v old w new → (log : LogFile) (e : Fault) → ImagingEnds d log w.log new (Some e) → Ends d asks m v old w new (Some e)
  broke_end asks m v old w new breaks log LogFull one = (breaks, one.0, one.1, one.2)
  broke_end asks m v old w new breaks log Device one = (breaks, one)
  broke_end asks m v old w new breaks log e one = absurd one

  -- such a call within a call of the writer, which is refused so
  pub imaging_broke : {A : Type 0} {asks : Writer → Type 0} {m : Fault → Bool} {v : PageWriter} {old : D} {w : PageWriter} {new : D} {log : LogFile} {f : Fault} (r : Result A Fault) → IsErrAnd r (λ e. e ≡ f) → Imaging d log w.log new (Some f) → v.failed ≡ false → w.failed ≡ true
      → ((b : Base) (base : ℕ) (s : Writer) → StandsAs d b base s v old → asks s → LeavesGrown d b base s old new) → w.pool.frames ≡ v.pool.frames → Outcome d asks m v old w new (fault_of r)
  imaging_broke {A} {asks} {m} {v} {old} {w} {new} {log} {f} r is one began fails stops frames =
      handed_on d r is (record {
        ready = record {
          opened = λ works. absurd (let clash : true ≡ false = sym fails ∙ works in cc clash);
          works = λ works. absurd (let clash : true ≡ false = sym fails ∙ works in cc clash);
          few = λ works. absurd (let clash : true ≡ false = sym fails ∙ works in cc clash);
          still = one.still;
        };
        frames = frames;
        ends = broke_end asks m v old w new (record { began = began; broken = fails; stops = stops }) log f one.ends;
      })
