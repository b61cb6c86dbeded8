-- Redo from one of its calls to the next, and what a stop within a call leaves.
use Rattle.std.proofs.Common.{◌≡◌, ℕ, inr, List, ◌++◌, [], ◌∷◌, Option, None, Some, refl, sym, subst, ◌∙◌, ap}
use Rattle.im_base_types.specs.Pages.{Page}
use Rattle.im_base_types.specs.Records.{Logged}
use Rattle.im_theory_log.specs.Histories.{Base, History, IsFront, IsRecordOf}
use Rattle.im_theory_log.specs.Copies.{GrowsByImages}
use Rattle.im_theory_log.specs.Writer.{Writer}
use Rattle.im_theory_log.specs.WriterSteps.{opened}
use Rattle.im_theory_log.proofs.Histories.{front_of_front, front_self}
use Rattle.im_log_record.specs.Entry.{Entry}
use Rattle.im_log_record.specs.Reading.{entry_of}
use Rattle.im_log.specs.Reading.{SpellsRecord}
use Rattle.im_log.specs.Spelled.{logged_at}
use Rattle.im_base_disk.specs.declared.disk.Disk.{Ghosts}
use Rattle.im_base_disk.specs.Runs.{Reads}
use Rattle.im_base_disk.proofs.Runs.{reads_on}
use Rattle.im_page_writer.specs.declared.page_writer.PageWriter.{PageWriter}
use Rattle.im_page_table.specs.Growth.{Keeps}
use Rattle.im_page_writer.specs.PageWriter.{GoesOn, StandsAs}
use Rattle.im_page_file.specs.Stands.{IsCovered, LeavesCovered}
use Rattle.im_page_flush.specs.Writing.{LeavesGrown}
use Rattle.im_page_file.proofs.Standing.{covered_then}
use Rattle.im_page_table.proofs.Growing.{grown_front, grows_none, grows_then}
use Rattle.im_restart_redo.specs.Redo.{LeavesRedoing}
use Rattle.im_restart_redo.specs.Within.{IsWithinRedo}

-- a record of the log that redo began with is one of the longer log
pub record_still : (b : Base) (begun log : History) (r : Logged) → GrowsByImages b begun log → IsRecordOf r begun → IsRecordOf r log
record_still b begun log r grows has = subst (λ (l : History). IsRecordOf r l) (sym grows.is) (behind grows.images)
  where
    behind : (images : History) → IsRecordOf r (images ++ begun)
    behind [] = has
    behind (s ∷ images) = inr (behind images)

-- what was read of a record, decoded, is the record
pub read_is : (r : Logged) (bytes : List ℕ) (entry : Entry) → SpellsRecord r bytes → entry_of bytes ≡ Some entry → logged_at r.lsn entry ≡ r
read_is r bytes entry spells is = (let same : Some spells.entry ≡ Some entry = sym spells.is ∙ is in ap (λ (e : Entry). logged_at r.lsn e) (sym (cc same))) ∙ spells.same

-- and cannot be refused
pub read_some : (r : Logged) (bytes : List ℕ) → SpellsRecord r bytes → entry_of bytes ≡ None → ⊥
read_some r bytes spells none = let clash : Some spells.entry ≡ None = sym spells.is ∙ none in cc clash

-- before the first call
pub within_opened : {D : Type 0} (d : Ghosts D) (b : Base) (base : ℕ) (begun : History) (from : D) (file : ℕ → Option Page) (w : PageWriter) (disk : D) → GoesOn d b base (opened b begun file) from (opened b begun file) w disk
    → IsWithinRedo d b base begun from (opened b begun file) w disk
within_opened d b base begun from file w disk on = record {
  stands = record { working = on.working; writing = on.goes.writing; known = on.known };
  stops = on.goes.stops;
  log = grows_none b begun;
  durable = front_self begun;
  point = refl;
  going = refl;
}

module _ {D : Type 0} (d : Ghosts D) (b : Base) (base : ℕ) (begun : History) (from : D) (s : Writer) (w : PageWriter) (mid : D) (so : IsWithinRedo d b base begun from s w mid) where
  -- a stop so far
  pub leaves_now : LeavesRedoing d b base begun from mid
  leaves_now = record { high = s.log; grows = so.log; stops = so.stops }

  -- a stop within a read
  pub leaves_read : (new : D) → Reads d mid new → LeavesRedoing d b base begun from new
  leaves_read new reads = record { high = s.log; grows = so.log; stops = reads_on d from mid new (IsCovered b base begun s.log) so.stops reads }

  -- a stop within a call that adds Images
  pub leaves_more : (new : D) → LeavesGrown d b base s mid new → LeavesRedoing d b base begun from new
  leaves_more new more = record {
    high = more.high;
    grows = grows_then b begun s.log more.high so.log more.grows;
    stops = covered_then d b base begun s.log s.durable more.high from mid new so.stops more.stops so.durable (grown_front b s.log more.high more.grows);
  }

  -- after a read
  pub within_read : (v : PageWriter) (new : D) → StandsAs d b base s v new → Reads d mid new → IsWithinRedo d b base begun from s v new
  within_read v new stands reads = record {
    stands = stands;
    stops = reads_on d from mid new (IsCovered b base begun s.log) so.stops reads;
    log = so.log;
    durable = so.durable;
    point = so.point;
    going = so.going;
  }

  -- after a call that added Images, and then changed pages alone
  pub within_more : (before t : Writer) (v : PageWriter) (new : D) → Keeps b s before → LeavesCovered d b base s.durable before.log mid new → StandsAs d b base t v new
      → t.log ≡ before.log → t.durable ≡ before.durable → t.point ≡ before.point → t.redo_end ≡ before.redo_end → IsWithinRedo d b base begun from t v new
  within_more before t v new keeps stops stands log durable point redo_end = record {
    stands = stands;
    stops = subst (λ (l : History). LeavesCovered d b base begun l from new) (sym log)
        (covered_then d b base begun s.log s.durable before.log from mid new so.stops stops so.durable (grown_front b s.log before.log keeps.log));
    log = subst (λ (l : History). GrowsByImages b begun l) (sym log) (grows_then b begun s.log before.log so.log keeps.log);
    durable = subst (λ (l : History). IsFront begun l) (sym durable) (front_of_front begun s.durable before.durable so.durable keeps.durable);
    point = point ∙ keeps.point ∙ so.point;
    going = redo_end ∙ keeps.redo_end ∙ so.going;
  }
