-- Calls in a row within one turn.
use Rattle.std.proofs.Common.{◌≡◌, ◌≢◌, ℕ, true, [], Some, refl, sym, ◌∙◌, ap, subst, Bool, false}
use Rattle.std.specs.Prelude.{Result, Ok, Err}
use Rattle.im_base_types.specs.declared.fault.Fault.{Fault}
use Rattle.im_base_types.specs.declared.fault.Fault.TheVariants.{Memory}
use Rattle.im_theory_log.specs.Histories.{Base}
use Rattle.im_theory_log.specs.Lawful.{IsLawful}
use Rattle.im_theory_log.specs.Structure.{open_smo}
use Rattle.im_base_types.specs.Records.{Logged}
use Rattle.im_theory_log.specs.Transactions.{net, to_undo}
use Rattle.im_theory_log.specs.Writer.{Writer}
use Rattle.im_base_disk.specs.declared.disk.Disk.{Ghosts}
use Rattle.im_base_disk.specs.Disk.{Files}
use Rattle.im_base_disk.specs.Runs.{Reads}
use Rattle.im_base_disk.proofs.Runs.{reads_on, weakened}
use Rattle.im_log_record.specs.Entry.{Entry, End, prev_of, transaction_of}
use Rattle.im_log.specs.Spelled.{logged_at}
use Rattle.im_page_writer.specs.declared.page_writer.PageWriter.{PageWriter}
use Rattle.im_page_file.specs.Stands.{IsCovered, LeavesCovered}
use Rattle.im_page_writer.specs.PageWriter.{Evicted, GoesOn, LoggedOnly, StandsAs}
use Rattle.im_page_writer.specs.Outcome.{fault_of, AreLoaded, Logs}
use Rattle.im_page_flush.proofs.Goings.{leaves_so_far}
use Rattle.im_page_writer.proofs.Cited.{stands_on, goes_on_start, goes_on_then}
use Rattle.im_theory_tree.specs.Theory.{page_tree}
use Rattle.im_theory_tree.proofs.TheoryLaws.{page_tree_laws}
use Rattle.im_restart_analysis.specs.declared.rows.Loser.{Loser}
use Rattle.im_smo_pages.specs.Kept.{mild_to_take}
use Rattle.im_restart_analysis.specs.Losers.{is_loser}
use Rattle.im_restart_analysis.specs.Undo.{Ends, IsNext}
use Rattle.im_engine_rollback.specs.Going.{IsNextAt}
use Rattle.im_restart_analysis.proofs.Undoing.{undo_goes_on}
use Rattle.im_restart_undo.specs.GoingBeside.{IsGoingBeside}
use Rattle.im_restart_undo.specs.Undoing.{CompensateKept, IsGoing, IsToUndo, LeavesUndo, LeftByUndo}
use Rattle.im_restart_undo.proofs.Closed.{closed_beside}
use Rattle.im_restart_undo.proofs.Growth.{grows_none, left_both, left_images, left_then, loser_of, loser_still}
use Rattle.im_engine_rollback.specs.declared.undone.Undone.{Undone}
use Rattle.im_engine_rollback.specs.declared.undone.Undone.TheVariants.{More, Ended}
use Rattle.im_engine_rollback.specs.Ends.{may_be_full, TurnOutcome}
use Rattle.im_engine_rollback.proofs.Ends.{never_capacity, never_failed, never_memory}
use Rattle.im_engine_rollback.specs.EndsBeside.{EndedBeside, EndIfUndoneBesideKept, WentOnBeside}
use Rattle.im_engine_rollback.specs.Turns.{EndedNow, EndIfUndoneKept, WentOn, HasMore, TakeKept, Took, TurnKept}

module _ {D : Type 0} (d : Ghosts D) (b : Base) (base : ℕ) where
  -- calls that only read
  pub read_on : (s : Writer) (w x : PageWriter) (old new : D) → ((c : Files) → d.left_since old (d.moment old) c → d.may_leave old c) → StandsAs d b base s w old → Reads d old new → StandsAs d b base s x new → GoesOn d b base s old s x new
  read_on s w x old new only_now stands reads after =
      let start = goes_on_start d b base s w old only_now stands in
      record { working = after.working; goes = record { writing = after.writing; stops = reads_on d old old new (IsCovered b base s.durable s.log) start.goes.stops reads; keeps = start.goes.keeps }; known = after.known }

  pub read_stops_beside : (s : Writer) (e t last undo_next : ℕ) (w : PageWriter) (old new : D) → ((c : Files) → d.left_since old (d.moment old) c → d.may_leave old c) → IsGoingBeside d b base s e t last undo_next w old → Reads d old new → LeavesUndo d b base s t old new
  read_stops_beside s e t last undo_next w old new only_now g reads =
      reads_on d old old new (LeftByUndo d b base s t) (left_images d b base s t old old g.lawful (leaves_so_far d b base s old s w.log w.table w.pool old (goes_on_start d b base s w old only_now g.stands).goes)) reads

  pub read_stops : (s : Writer) (e t last undo_next : ℕ) (w : PageWriter) (old new : D) → ((c : Files) → d.left_since old (d.moment old) c → d.may_leave old c) → IsGoing d b base s e t last undo_next w old → Reads d old new → LeavesUndo d b base s t old new
  read_stops s e t last undo_next w old new only_now g reads = read_stops_beside s e t last undo_next w old new only_now (closed_beside d b base s e t last undo_next w old g) reads

  -- and where none was made
  pub none_stops : (s : Writer) (e t last undo_next : ℕ) (w : PageWriter) (old : D) → ((c : Files) → d.left_since old (d.moment old) c → d.may_leave old c) → IsGoingBeside d b base s e t last undo_next w old → LeavesUndo d b base s t old old
  none_stops s e t last undo_next w old only_now g = left_images d b base s t old old g.lawful (leaves_so_far d b base s old s w.log w.table w.pool old (goes_on_start d b base s w old only_now g.stands).goes)

  -- the transaction is as it was after calls that only read
  pub beside_read : (s : Writer) (e t last undo_next : ℕ) (w x : PageWriter) (old new : D) → IsGoingBeside d b base s e t last undo_next w old → StandsAs d b base s x new → IsGoingBeside d b base s e t last undo_next x new
  beside_read s e t last undo_next w x old new g after = record { stands = after; over = g.over; lawful = g.lawful; outside = g.outside; owner = g.owner; unfinished = g.unfinished; row = g.row }

  pub going_read : (s : Writer) (e t last undo_next : ℕ) (w x : PageWriter) (old new : D) → IsGoing d b base s e t last undo_next w old → StandsAs d b base s x new → IsGoing d b base s e t last undo_next x new
  going_read s e t last undo_next w x old new g after = record { stands = after; over = g.over; can = g.can; owner = g.owner; unfinished = g.unfinished; row = g.row }

  -- a record that joined the log's buffer is not left by a stop
  pub left_covered : (s : Writer) (t : ℕ) (old new : D) → IsLawful b page_tree s.log → LeavesCovered d b base s.durable s.log old new → LeavesUndo d b base s t old new
  left_covered s t old new law stops =
      weakened d old new (IsCovered b base s.durable s.log) (LeftByUndo d b base s t) stops (λ told c is. record { high = s.log; lawful = law; grows = grows_none t s.log; covered = is })

  -- an End
  pub ended_so : (s : Writer) (e t last undo_next lsn : ℕ) (old : D) (start w : PageWriter) (new : D) → IsGoingBeside d b base s e t last undo_next start old → is_loser t s.log ≡ true → to_undo t s.log ≡ [] → LoggedOnly d b base s (End t last) lsn w new → EndedBeside d b base s e t last w new
  ended_so s e t last undo_next lsn old start w new g loser none logged =
      let r : Logged = logged_at lsn (End t last) in
      let ends : Ends b t s.log r = record { linked = record { rises = logged.high; owner = refl; prev = sym (ap (λ (x : Loser). x.last) g.row) }; what = refl; leads = refl } in
      let after = (undo_goes_on page_tree page_tree_laws).ends_beside b s.log t r g.lawful loser none ends in
      record { now = _; lsn = lsn; log = refl; ended = after.2; stands = logged.stands; over = g.over; lawful = after.0; going_on = after.1; durable = logged.grows }

  -- where none is open, an End leaves none open
  pub ended_now : (s : Writer) (e t last : ℕ) (w : PageWriter) (disk : D) → open_smo s.log ≡ [] → EndedBeside d b base s e t last w disk → EndedNow d b base s e t last w disk
  ended_now s e t last w disk closed end = record {
    now = end.now;
    lsn = end.lsn;
    log = end.log;
    ended = end.ended;
    stands = end.stands;
    over = end.over;
    can = record { lawful = end.lawful; closed = end.going_on ∙ closed };
    durable = end.durable;
  }

  pub went_closed : (ends : Bool) (s : Writer) (e t last undo_next : ℕ) (w : PageWriter) (disk : D) (undone : Undone) → open_smo s.log ≡ [] → WentOnBeside d b base ends s e t last undo_next w disk undone → WentOn d b base ends s e t last undo_next w disk undone
  went_closed true s e t last undo_next w disk (More l n) closed is = is
  went_closed true s e t last undo_next w disk Ended closed is = (is.0, ended_now s e t last w disk closed is.1)
  went_closed false s e t last undo_next w disk (More l n) closed is = is
  went_closed false s e t last undo_next w disk Ended closed is = is

  pub end_closed : (ends : Bool) (s : Writer) (e t last undo_next : ℕ) (old : D) (w : PageWriter) (new : D) (result : Result Undone Fault) → open_smo s.log ≡ [] → EndIfUndoneBesideKept d b base ends s e t last undo_next old w new result → EndIfUndoneKept d b base ends s e t last undo_next old w new result
  end_closed ends s e t last undo_next old w new (Ok undone) closed k = record { sound = went_closed ends s e t last undo_next w new undone closed k.sound; stops = k.stops }
  end_closed ends s e t last undo_next old w new (Err f) closed k = record { sound = k.sound; stops = k.stops }

  -- a change that was taken back after calls that only read
  pub took_behind : (s : Writer) (e t m n : ℕ) (old mid : D) (w : PageWriter) (new : D) → LeavesUndo d b base s t old mid → Took d b base s e t m n mid w new → Took d b base s e t m n old w new
  took_behind s e t m n old mid w new stops took =
      let taken = took.taken in
      record {
        entry = took.entry;
        next = took.next;
        taken = record {
          now = taken.now;
          goes = record { going = taken.goes.going; point = taken.goes.point; durable = taken.goes.durable; grows = taken.goes.grows; stops = left_both d b base s t old mid new stops taken.goes.stops };
          lsn = taken.lsn;
          stack = taken.stack;
          map = taken.map;
          once = taken.once;
        };
        leads = took.leads;
      }

  -- and one before calls that only read
  abbrev took_still : (s : Writer) (e t m n : ℕ) (old : D) (v : PageWriter) (mid : D) (w : PageWriter) (new : D) (took : Took d b base s e t m n old v mid) → LeavesUndo d b base s t old new → StandsAs d b base took.taken.now w new → Took d b base s e t m n old w new
  took_still s e t m n old v mid w new took stops stands =
      let taken = took.taken in
      let going = taken.goes.going in
      record {
        entry = took.entry;
        next = took.next;
        taken = record {
          now = taken.now;
          goes = record { going = record { stands = stands; over = going.over; can = going.can; owner = going.owner; unfinished = going.unfinished; row = going.row }; point = taken.goes.point; durable = taken.goes.durable; grows = taken.goes.grows; stops = stops };
          lsn = taken.lsn;
          stack = taken.stack;
          map = taken.map;
          once = taken.once;
        };
        leads = took.leads;
      }

  pub took_before : (s : Writer) (e t m n : ℕ) (old : D) (v : PageWriter) (mid : D) (w : PageWriter) (new : D) (took : Took d b base s e t m n old v mid) → LeavesUndo d b base s t old new → StandsAs d b base took.taken.now w new
      → (l k : ℕ) → l ≡ m → k ≡ n → net t took.taken.now.log ≢ [] → HasMore d b base s e t l k old w new
  took_before s e t m n old v mid w new took stops stands l k is at left =
      subst (λ (x : ℕ). HasMore d b base s e t x k old w new) (sym is)
      (subst (λ (x : ℕ). HasMore d b base s e t m x old w new) (sym at) (record { took = took_still s e t m n old v mid w new took stops stands; left = left }))

  pub took_on : (s : Writer) (e t m n : ℕ) (old : D) (v : PageWriter) (mid : D) (w : PageWriter) (new : D) (took : Took d b base s e t m n old v mid) → LeavesUndo d b base s t old new → StandsAs d b base took.taken.now w new
      → (l k : ℕ) → l ≡ m → k ≡ n → Took d b base s e t l k old w new
  took_on s e t m n old v mid w new took stops stands l k is at =
      subst (λ (x : ℕ). Took d b base s e t x k old w new) (sym is) (subst (λ (x : ℕ). Took d b base s e t m x old w new) (sym at) (took_still s e t m n old v mid w new took stops stands))

  -- what stands at the LSN is to be taken back
  pub to_undo_so : (s : Writer) (t l : ℕ) (entry : Entry) (at : IsNextAt t l s.log) → logged_at l entry ≡ at.found → IsToUndo d b base s t entry
  to_undo_so s t l entry at same = record { lsn = l; next = subst (λ (x : Logged). IsNext t s.log x) (sym same) at.next }

  -- the one record of a transaction, as a record of its own transaction
  pub taken_as : (s : Writer) (e t last undo_next : ℕ) (entry : Entry) (start : PageWriter) (old : D) (w : PageWriter) (new : D) (result : Result ℕ Fault) → transaction_of entry ≡ t
      → (IsGoing d b base s e (transaction_of entry) last undo_next start old → IsToUndo d b base s (transaction_of entry) entry → CompensateKept d b base s e (transaction_of entry) entry old w new result)
      → IsGoing d b base s e t last undo_next start old → IsToUndo d b base s t entry → CompensateKept d b base s e t entry old w new result
  taken_as s e t last undo_next entry start old w new result mine kept =
      subst (λ (n : ℕ). IsGoing d b base s e n last undo_next start old → IsToUndo d b base s n entry → CompensateKept d b base s e n entry old w new result) mine kept

  module _ (s : Writer) (e t : ℕ) (old : D) (v : PageWriter) (mid : D) (on : GoesOn d b base s old s v mid) (loaded : AreLoaded s) (left : LeavesUndo d b base s t old mid) (entry : Entry) (to : IsToUndo d b base s t entry) (w : PageWriter) (new : D) where
    evicted_memory : (f : Fault) → f ≡ Memory → Logs d true mild_to_take v mid w new (Some f) → Evicted d b base s old w new
    evicted_memory f is one =
        let here : Logs d true mild_to_take v mid w new (Some Memory) = subst (λ (e : Fault). Logs d true mild_to_take v mid w new (Some e)) is one in
        let ev = here.ends.1.goes b base s (stands_on d b base s old s v mid on) loaded in
        record { now = ev.now; on = goes_on_then d b base s old s v mid on ev.now w new ev.on }

    -- a compensation after calls that only read
    pub take_refused : (f : Fault) → Logs d true mild_to_take v mid w new (Some f) → CompensateKept d b base s e t entry mid w new (Err f) → TakeKept d b base s e t old w new (Err f)
    take_refused f one k = record {
      sound = k.sound;
      stops = left_both d b base s t old mid new left k.stops;
      again = λ is. evicted_memory f is one;
      short = λ is. record { entry = entry; next = to; lacks = k.short is };
      used_up = λ is. record { entry = entry; next = to; used_up = k.used_up is };
      begun = k.begun;
    }

    pub take_done : (l n : ℕ) → n ≡ prev_of entry → CompensateKept d b base s e t entry mid w new (Ok l) → TakeKept d b base s e t old w new (Ok (l, n))
    take_done l n leads k = record {
      sound = took_behind s e t l n old mid w new left (record { entry = entry; next = to; taken = k.sound; leads = leads });
      stops = left_both d b base s t old mid new left k.stops;
      again = tt;
      short = tt;
      used_up = tt;
      begun = tt;
    }

  -- a turn that was refused as its one change was, after calls that only read
  pub turn_refused : (ends : Bool) (s : Writer) (e t : ℕ) (old : D) (v : PageWriter) (mid : D) → GoesOn d b base s old s v mid → LeavesUndo d b base s t old mid → (w : PageWriter) (new : D) (f : Fault) → TakeKept d b base s e t mid w new (Err f)
      → TurnKept d b base ends s e t old w new (Err f)
  turn_refused ends s e t old v mid on left w new f k = record {
    sound = k.sound;
    stops = left_both d b base s t old mid new left k.stops;
    again = λ is. let ev = k.again is in record { now = ev.now; on = goes_on_then d b base s old s v mid on ev.now w new ev.on };
    short = k.short;
    used_up = k.used_up;
    begun = k.begun;
  }

  -- a transaction whose change was taken back has a record, and is not finished
  pub loser_on : (s : Writer) (e t m n l last undo_next : ℕ) (start : PageWriter) (old : D) (mid : D) (w : PageWriter) (disk : D) → IsGoing d b base s e t last undo_next start old → IsNextAt t l s.log
      → (took : Took d b base s e t m n mid w disk) → is_loser t took.taken.now.log ≡ true
  loser_on s e t m n l last undo_next start old mid w disk g at took =
      let goes = took.taken.goes in
      loser_still t s.log took.taken.now.log goes.grows (loser_of t s.log at.found g.owner g.unfinished at.next) goes.going.unfinished

  -- undo of the transaction goes on where the change led
  pub going_on : (s : Writer) (e t m n : ℕ) (old : D) (w : PageWriter) (disk : D) (took : Took d b base s e t m n old w disk) → IsGoing d b base took.taken.now e t m n w disk
  going_on s e t m n old w disk took = subst (λ (x : ℕ). IsGoing d b base took.taken.now e t m x w disk) (sym took.leads) took.taken.goes.going

  -- calls after a change that was taken back
  pub turn_then : (ends : Bool) (s : Writer) (e t m n : ℕ) (old : D) (v : PageWriter) (mid : D) (took : Took d b base s e t m n old v mid) (w : PageWriter) (new : D) (result : Result Undone Fault) → TurnOutcome d may_be_full v w new (fault_of result)
      → EndIfUndoneKept d b base ends took.taken.now e t m n mid w new result → TurnKept d b base ends s e t old w new result
  turn_then ends s e t m n old v mid took w new result one k = by ends result one k
    where
      stops : LeavesUndo d b base took.taken.now t mid new → LeavesUndo d b base s t old new
      stops later = left_then d b base s e t m (prev_of took.entry) old took.taken.now v mid took.taken.goes new later

      by : (last : Bool) (r : Result Undone Fault) → TurnOutcome d may_be_full v w new (fault_of r) → EndIfUndoneKept d b base last took.taken.now e t m n mid w new r → TurnKept d b base last s e t old w new r
      by false (Ok (More l i)) one kept = record {
        sound = took_on s e t m n old v mid w new took (stops kept.stops) kept.sound.2 l i kept.sound.0 kept.sound.1;
        stops = stops kept.stops;
        again = tt;
        short = tt;
        used_up = tt;
        begun = tt;
      }
      by false (Ok Ended) one kept = absurd kept.sound
      by true (Ok (More l i)) one kept = record {
        sound = took_before s e t m n old v mid w new took (stops kept.stops) kept.sound.3 l i kept.sound.0 kept.sound.1 kept.sound.2;
        stops = stops kept.stops;
        again = tt;
        short = tt;
        used_up = tt;
        begun = tt;
      }
      by true (Ok Ended) one kept = record {
        sound = record { last = m; undo_next = n; between = v; mid = mid; took = took; none = kept.sound.0; end = kept.sound.1 };
        stops = stops kept.stops;
        again = tt;
        short = tt;
        used_up = tt;
        begun = tt;
      }
      by last (Err f) one kept = record {
        sound = kept.sound;
        stops = stops kept.stops;
        again = never_memory d {A = Undone} _ (Err f) refl one;
        short = never_memory d {A = Undone} _ (Err f) refl one;
        used_up = never_capacity d {A = Undone} _ (Err f) refl one;
        begun = never_failed d {A = Undone} _ (Err f) refl one;
      }
