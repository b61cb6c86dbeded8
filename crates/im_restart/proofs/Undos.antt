-- Steps of undo, put together.
use Rattle.std.proofs.Common.{ℕ, Bool, Result}
use Rattle.im_base_types.specs.declared.fault.Fault.{Fault}
use Rattle.im_theory_log.specs.Histories.{Base, History}
use Rattle.im_theory_log.specs.Writer.{Writer}
use Rattle.im_theory_log.proofs.Fronts.{rises}
use Rattle.im_base_disk.specs.declared.disk.Disk.{Ghosts}
use Rattle.im_base_disk.specs.Disk.{Files}
use Rattle.im_base_disk.specs.Runs.{LeavesOnly, Reads}
use Rattle.im_base_disk.proofs.Runs.{reads_on}
use Rattle.im_log.proofs.Above.{front_none}
use Rattle.im_page_writer.specs.declared.page_writer.PageWriter.{PageWriter}
use Rattle.im_page_writer.specs.PageWriter.{StandsAs}
use Rattle.im_page_writer.proofs.Outcomes.{sound_also}
use Rattle.im_theory_tree.specs.Theory.{page_tree}
use Rattle.im_restart.specs.Restart.{IsLeftUndoing}
use Rattle.im_restart.specs.LoserChains.{AreChains, ChainMap, PutKept, SparesOthers, and_also}
use Rattle.im_restart.specs.Undoing.{AllUndone, Ended, EndKept, IsUndoing, Stepped, StepKept, UndoGoes, UndoKept}
use Rattle.im_restart.proofs.Losers.{chains_ended, chains_longer}
use Rattle.im_restart.proofs.Others.{spares_none, spares_then}
use Rattle.im_restart.proofs.Steps.{left_then, undo_start, undo_then}

module _ {D : Type 0} (d : Ghosts D) (b : Base) (base : ℕ) (all : History) where
  -- the map of the others' chains after calls in a row
  pub chains_then : (s : Writer) (t : ℕ) (out : ℕ → Bool) (chains : ChainMap) (old : D) (now : Writer) (w : PageWriter) (disk : D) → IsUndoing b all s → UndoGoes d b base all s old now w disk → SparesOthers t s.log now.log
      → AreChains (and_also t out) chains s.log → AreChains (and_also t out) chains now.log
  chains_then s t out chains old now w disk is goes others are =
      chains_longer b page_tree t out chains s.log now.log is.can.lawful (rises b page_tree s.log is.can.lawful) (rises b page_tree now.log goes.undoing.can.lawful) goes.on others are

  pub step_end : (s : Writer) (t : ℕ) (out : ℕ → Bool) (chains : ChainMap) (old : D) (w : PageWriter) (new : D) (result : Result Unit Fault) → IsUndoing b all s → AreChains (and_also t out) chains s.log
      → EndKept d b base all s t old w new result → StepKept d b base all s t out old w chains new result
  step_end s t out chains old w new result is are k = record {
    sound = sound_also result (λ u. Ended d b base all s t old w new) (λ u. Stepped d b base all s t out old w chains new) k.sound
        (λ u e. record { now = e.now; goes = e.goes; others = e.others; are = chains_ended t out chains e.now.log (chains_then s t out chains old e.now w new is e.goes e.others are) e.ended });
    stops = k.stops;
  }

  pub step_put : (s : Writer) (t : ℕ) (out : ℕ → Bool) (chains : ChainMap) (w : PageWriter) (disk : D) (result : Result Unit Fault) → ((c : Files) → d.left_since disk (d.moment disk) c → d.may_leave disk c)
      → StandsAs d b base s w disk → IsUndoing b all s → PutKept out s.log chains result → StepKept d b base all s t out disk w chains disk result
  step_put s t out chains w disk result only_now stands is k =
      let start = undo_start d b base all s w disk only_now stands is in
      record {
        sound = sound_also result (λ u. AreChains out chains s.log) (λ u. Stepped d b base all s t out disk w chains disk) k (λ u are. record { now = s; goes = start; others = spares_none t s.log; are = are });
        stops = start.stops;
      }

  -- a step after calls in a row
  pub step_then : (s : Writer) (t : ℕ) (out : ℕ → Bool) (old : D) (now : Writer) (w : PageWriter) (mid : D) (x : PageWriter) (chains : ChainMap) (new : D) (result : Result Unit Fault) → UndoGoes d b base all s old now w mid
      → SparesOthers t s.log now.log → StepKept d b base all now t out mid x chains new result → StepKept d b base all s t out old x chains new result
  step_then s t out old now w mid x chains new result goes others k = record {
    sound = sound_also result (λ u. Stepped d b base all now t out mid x chains new) (λ u. Stepped d b base all s t out old x chains new) k.sound
        (λ u e. record { now = e.now; goes = undo_then d b base all s old now w mid e.now x new goes e.goes; others = spares_then t s.log now.log e.now.log others e.others; are = e.are });
    stops = left_then d b base all old mid new goes.stops k.stops;
  }

  -- calls that only read
  pub undo_read : (s : Writer) (w x : PageWriter) (old new : D) → ((c : Files) → d.left_since old (d.moment old) c → d.may_leave old c) → StandsAs d b base s w old → IsUndoing b all s → Reads d old new → StandsAs d b base s x new
      → UndoGoes d b base all s old s x new
  undo_read s w x old new only_now stands is reads after = record {
    stands = after;
    undoing = is;
    stops = reads_on d old old new (IsLeftUndoing b base all) (undo_start d b base all s w old only_now stands is).stops reads;
    on = front_none s.log;
  }

  pub read_stops : (s : Writer) (w : PageWriter) (old new : D) → ((c : Files) → d.left_since old (d.moment old) c → d.may_leave old c) → StandsAs d b base s w old → IsUndoing b all s → Reads d old new → LeavesOnly d old new (IsLeftUndoing b base all)
  read_stops s w old new only_now stands is reads = reads_on d old old new (IsLeftUndoing b base all) (undo_start d b base all s w old only_now stands is).stops reads

  -- all of undo after calls in a row
  pub undo_behind : (s : Writer) (old : D) (now : Writer) (w : PageWriter) (mid : D) (x : PageWriter) (new : D) (result : Result Unit Fault) → UndoGoes d b base all s old now w mid → UndoKept d b base all now mid x new result
      → UndoKept d b base all s old x new result
  undo_behind s old now w mid x new result goes k = record {
    sound = sound_also result (λ u. AllUndone d b base all now mid x new) (λ u. AllUndone d b base all s old x new) k.sound (λ u e. record { now = e.now; goes = undo_then d b base all s old now w mid e.now x new goes e.goes; ended = e.ended });
    stops = left_then d b base all old mid new goes.stops k.stops;
  }
