-- A writer that differs from another only in what its pages are not read from.
use Rattle.std.proofs.Common.{◌≡◌, ℕ, Bool, Option, None, Some, sym, ◌∙◌, ap, subst}
use Rattle.im_base_types.specs.declared.fault.Fault.{Fault}
use Rattle.im_base_types.specs.declared.fault.Fault.TheVariants.{Device, Failed, LogFull}
use Rattle.im_theory_log.specs.Histories.{Base}
use Rattle.im_theory_log.specs.Writer.{Writer}
use Rattle.im_base_disk.specs.declared.disk.Disk.{Ghosts}
use Rattle.im_log.specs.declared.log_file.LogFile.{LogFile}
use Rattle.im_page_table.specs.DirtyTable.{TableView}
use Rattle.im_page_file.specs.LogEnds.{EndsNoSooner}
use Rattle.im_page_pool.specs.Pool.{PoolView}
use Rattle.im_page_writer.specs.declared.page_writer.PageWriter.{PageWriter}
use Rattle.im_page_writer.specs.declared.known.Known.{Known}
use Rattle.im_page_writer.specs.Outcome.{Breaks, Ends, Outcome, Stays}
use Rattle.im_page_writer.specs.PageWriter.{StandsAs}
use Rattle.im_page_writer.specs.Synced.{IsKnown}
use Rattle.im_page_flush.specs.Writing.{IsWriting}

module _ {D : Type 0} (d : Ghosts D) (v u : PageWriter) (old : D) (failed : u.failed ≡ v.failed) (log : u.log ≡ v.log) (table : u.table ≡ v.table) (pool : u.pool ≡ v.pool) (known : u.known ≡ v.known) where
  same_stands : (b : Base) (base : ℕ) (s : Writer) → StandsAs d b base s v old → StandsAs d b base s u old
  same_stands b base s is = record {
    working = failed ∙ is.working;
    known = subst (λ (x : Known). IsKnown s x) (sym known) is.known;
    writing = subst (λ (x : PoolView). IsWriting d b base s u.log u.table x old) (sym pool)
        (subst (λ (x : TableView). IsWriting d b base s u.log x v.pool old) (sym table) (subst (λ (x : LogFile). IsWriting d b base s x v.table v.pool old) (sym log) is.writing));
  }

  module _ (asks : Writer → Type 0) (m : Fault → Bool) (w : PageWriter) (new : D) where
    same_stays : Stays d asks u old w new → Stays d asks v old w new
    same_stays one = record {
      began = sym failed ∙ one.began;
      works = one.works;
      alive = one.alive;
      later = subst (λ (x : LogFile). EndsNoSooner x w.log) log one.later;
      goes = λ b base s is asked. one.goes b base s (same_stands b base s is) asked;
    }

    same_breaks : Breaks d asks u old w new → Breaks d asks v old w new
    same_breaks one = record { began = sym failed ∙ one.began; broken = one.broken; stops = λ b base s is asked. one.stops b base s (same_stands b base s is) asked }

    same_ends : (why : Option Fault) → Ends d asks m u old w new why → Ends d asks m v old w new why
    same_ends None one = same_stays one
    same_ends (Some Failed) one = (sym failed ∙ one.0, one.1)
    same_ends (Some Device) one = (same_breaks one.0, one.1)
    same_ends (Some LogFull) one = (same_breaks one.0, one.1, one.2, one.3)
    same_ends (Some e) one = (one.0, same_stays one.1)

    -- a call ends as from the other
    pub outcome_as : (why : Option Fault) → Outcome d asks m u old w new why → Outcome d asks m v old w new why
    outcome_as why one = record { ready = one.ready; frames = one.frames ∙ ap (λ (x : PoolView). x.frames) pool; ends = same_ends why one.ends }
