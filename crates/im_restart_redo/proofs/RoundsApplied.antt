-- The records of a segment, as redo comes to them.
use Rattle.std.proofs.Common.{◌≡◌, inl, inr, ℕ, suc, zero, ◌-◌, ◌<◌, ◌≤◌, List, [], ◌∷◌, ◌++◌, length, take, drop, Bool, true, false, Option, refl, sym, ◌∙◌, ap, subst, arith, append_assoc}
use Rattle.std.specs.Prelude.{if◌then◌else◌}
use Rattle.im_base_types.specs.Pages.{Page}
use Rattle.im_base_types.specs.Records.{Logged}
use Rattle.im_theory_log.specs.Histories.{Base, History, IsRecordOf, Rises, changes_page}
use Rattle.im_theory_log.specs.Copies.{onto}
use Rattle.im_theory_log.specs.RedoPoints.{redo_point}
use Rattle.im_theory_log.specs.Writer.{WriterKept}
use Rattle.im_theory_log.proofs.Histories.{front_of_front, rises_in}
use Rattle.im_base_disk.specs.declared.disk.Disk.{Ghosts}
use Rattle.im_base_disk.specs.Runs.{Reads}
use Rattle.im_log.specs.Reading.{SpellsRecord}
use Rattle.im_log.specs.Span.{IsSpanOf, IsWhole}
use Rattle.im_log.specs.Spelled.{record_size}
use Rattle.im_page_rounds.specs.Hand.{StandIn}
use Rattle.im_page_rounds.specs.Rounds.{AreFrom, changing}
use Rattle.im_page_rounds.proofs.Rounds.{onto_has}
use Rattle.im_page_writer.specs.declared.page_writer.PageWriter.{PageWriter}
use Rattle.im_page_writer.specs.PageWriter.{StandsAs}
use Rattle.im_restart_redo.specs.Redo.{applied_in, first_lsn, lsns_from}
use Rattle.im_restart_redo.specs.Applying.{HasPassed, IsApplying}
use Rattle.im_restart_redo.specs.Changes.{record_lsns}
use Rattle.im_restart_redo.specs.Rounds.{AreWhole, IsWholeAt}
use Rattle.im_restart_redo.specs.Window.{AreAlsoOf}
use Rattle.im_restart_redo.proofs.Passing.{count_same, passed_all}
use Rattle.im_restart_redo.proofs.Within.{record_still, within_read}
use Rattle.im_restart_redo.proofs.Runs.{run_of}

-- ---- the records of a run, in a part of the log

abbrev pub AreRecords : History → List Logged → Type 0
AreRecords all [] = Unit {0}
AreRecords all (r ∷ rs) = IsRecordOf r all × AreRecords all rs

in_front : (rs : List Logged) (f : History) (r : Logged) → IsRecordOf r f → IsRecordOf r (onto rs f)
in_front [] f r has = has
in_front (x ∷ rs) f r has = in_front rs (x ∷ f) r (inr has)

pub records_onto : (rs : List Logged) (f : History) → AreRecords (onto rs f) rs
records_onto [] f = tt
records_onto (r ∷ rs) f = (in_front rs (r ∷ f) r (inl refl), records_onto rs (r ∷ f))

in_longer : (after h : History) (r : Logged) → IsRecordOf r h → IsRecordOf r (after ++ h)
in_longer [] h r has = has
in_longer (x ∷ after) h r has = inr (in_longer after h r has)

pub records_longer : (after h : History) (rs : List Logged) → AreRecords h rs → AreRecords (after ++ h) rs
records_longer after h [] all = tt
records_longer after h (r ∷ rs) all = (in_longer after h r all.0, records_longer after h rs all.1)

pub records_changing : (h : History) (rs : List Logged) → AreRecords h rs → AreRecords h (changing rs)
records_changing h [] all = tt
records_changing h (r ∷ rs) all = by (changes_page r.what) (records_changing h rs all.1)
  where
    by : (t : Bool) → AreRecords h (changing rs) → AreRecords h (if t then r ∷ changing rs else changing rs)
    by true rest = (all.0, rest)
    by false rest = rest

pub stand_in : (all : History) (from : ℕ) (span : List ℕ) (cs : List Logged) (lsns : List ℕ) → record_lsns cs ≡ lsns → AreRecords all cs → IsSpanOf all from span → AreWhole from span lsns → StandIn from span lsns cs
stand_in all from span [] [] is records shows whole = tt
stand_in all from span [] (l ∷ lsns) is records shows whole = absurd (cc is)
stand_in all from span (r ∷ cs) [] is records shows whole = absurd (cc is)
stand_in all from span (r ∷ cs) (l ∷ lsns) is records shows whole =
    let one : r.lsn ≡ l = cc is in
    let rest : record_lsns cs ≡ lsns = cc is in
    let spelled = subst (λ (n : ℕ). from ≤ n → IsWhole (drop (n - from) span) → SpellsRecord r (take (record_size (drop (n - from) span)) (drop (n - from) span))) one (shows r records.0) whole.0.low whole.0.whole in
    (record { lsn_is = sym one; low = whole.0.low; whole = whole.0.whole; spelled = spelled }, stand_in all from span cs lsns rest records.1 shows whole.1)

-- one record more stands there as a whole
pub whole_more : (from : ℕ) (span lsns : List ℕ) (l : ℕ) → AreWhole from span lsns → IsWholeAt from span l → AreWhole from span (lsns ++ l ∷ [])
whole_more from span [] l all one = (one, tt)
whole_more from span (x ∷ lsns) l all one = (all.0, whole_more from span lsns l all.1 one)

onto_front : (rs : List Logged) (f g : History) → onto rs f ++ g ≡ onto rs (f ++ g)
onto_front [] f g = refl
onto_front (r ∷ rs) f g = onto_front rs (r ∷ f) g

-- ---- a read

-- redo stands after a read as before
pub applying_read : {D : Type 0} (d : Ghosts D) (b : Base) (base : ℕ) (begun : History) (file : ℕ → Option Page) (from : D) (lsns : List ℕ) (count : ℕ) (w : PageWriter) (disk : D) (so : IsApplying d b base begun file lsns count from w disk) (t : PageWriter) (new : D)
    → StandsAs d b base so.passed.now t new → Reads d disk new → IsApplying d b base begun file lsns count from t new
applying_read d b base begun file from lsns count w disk so t new stands reads = record {
  newer = so.newer;
  front = so.front;
  split = so.split;
  left_is = so.left_is;
  passed = record { now = so.passed.now; within = within_read d b base begun from so.passed.now w disk so.passed.within t new stands reads; had = so.passed.had; lsns = so.passed.lsns };
  counted = so.counted;
}

-- the log has all records that redo began with
pub begun_still : {D : Type 0} (d : Ghosts D) (b : Base) (base : ℕ) (begun : History) (file : ℕ → Option Page) (from : D) (lsns : List ℕ) (count : ℕ) (w : PageWriter) (disk : D) (so : IsApplying d b base begun file lsns count from w disk) → AreAlsoOf begun so.passed.now.log
begun_still d b base begun file from lsns count w disk so r has = record_still b begun so.passed.now.log r so.passed.within.log has

-- ---- a segment

module _ {D : Type 0} (d : Ghosts D) (b : Base) (base : ℕ) (begun : History) (file : ℕ → Option Page) (from : D) (lsns : List ℕ) (count : ℕ) (w : PageWriter) (disk : D) (so : IsApplying d b base begun file lsns count from w disk) where
  -- So many records, from the first on, with the state that has gone past all before them.
  pub record SegmentNext (n : ℕ) : Type 0 where
    pub after : History
    pub rs : List Logged
    pub front : History
    pub split : after ++ onto rs front ≡ begun
    pub above : AreFrom (redo_point begun) rs
    pub rest : drop n lsns ≡ lsns_from (redo_point begun) after
    pub passed : HasPassed d b base begun file front from w disk
    pub counted : count ≡ applied_in (first_lsn b begun file) (redo_point begun) front
    pub these : record_lsns (changing rs) ≡ take n lsns
    pub records : AreRecords begun (changing rs)

  kept : WriterKept b so.passed.now
  kept = so.passed.within.stands.writing.stands.kept

  pub begun_rises : Rises b begun
  begun_rises = rises_in b begun so.passed.now.log (front_of_front begun so.passed.now.durable so.passed.now.log so.passed.within.durable kept.front) kept.rises

  pub segment_next : (n : ℕ) → n < length lsns → SegmentNext (suc n)
  segment_next n lt =
      let run = run_of b (redo_point begun) lsns so.newer so.front (subst (λ (h : History). Rises b h) (sym so.split) begun_rises) n lt so.left_is in
      let front : History = run.before ++ so.front in
      let split : run.after ++ onto run.rs front ≡ begun =
      ap (λ (h : History). run.after ++ h) (sym (onto_front run.rs run.before so.front)) ∙ sym (append_assoc run.after (onto run.rs run.before) so.front) ∙ ap (λ (h : History). h ++ so.front) run.split ∙ so.split in
      let (more, is) = onto_has run.rs front in
      record {
        after = run.after;
        rs = run.rs;
        front = front;
        split = split;
        above = run.above;
        rest = run.rest;
        passed = passed_all d b base begun file from w disk (run.after ++ more) run.before so.front (append_assoc run.after more front ∙ ap (λ (h : History). run.after ++ h) is ∙ split) run.none so.passed;
        counted = so.counted ∙ sym (count_same (first_lsn b begun file) (redo_point begun) run.before so.front run.none);
        these = run.these;
        records = records_changing begun run.rs (subst (λ (h : History). AreRecords h run.rs) split (records_longer run.after (onto run.rs front) run.rs (records_onto run.rs front)));
      }

  -- the records that were planned
  pub planned_next : (n : ℕ) → 0 < n → n ≤ length lsns → SegmentNext n
  planned_next zero some le = absurd (omega (arith, some))
  planned_next (suc n) some le = segment_next n (omega (arith, le))
