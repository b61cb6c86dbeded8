-- The undo of a key record in the tree as it is now, and pages after a record.
use Rattle.std.proofs.Common.{◌≡◌, ◌≢◌, ℕ, [], ◌∷◌, ◌++◌, Bool, true, false, Result, Err, inl, inr, refl, sym, ◌∙◌, ap, subst}
use Rattle.std.specs.Prelude.{◌&&◌, not, nat_le, if◌then◌else◌}
use Rattle.std.proofs.lemmas.Bool.{and_parts, cases_eq}
use Rattle.std.proofs.Math.Path.{fun_ext}
use Rattle.im_base_types.specs.declared.file_id.FileId.TheVariants.{Log}
use Rattle.im_base_types.specs.declared.fault.Fault.{Fault}
use Rattle.im_base_types.specs.declared.fault.Fault.TheVariants.{Capacity, Failed, Memory, NotAStore}
use Rattle.im_base_types.specs.Pages.{Page}
use Rattle.im_base_types.specs.Records.{What, InsertKey, DeleteKey, UndoInsert, UndoDelete, Smo, UndoSmo, DummyClr, Commit, End, Image, Checkpoint, Unreadable, Logged}
use Rattle.im_theory_log.specs.Histories.{Base, History, page_after, page_at}
use Rattle.im_theory_log.specs.Copies.{GrowsByImages}
use Rattle.im_theory_log.specs.Structure.{settled, taken_back}
use Rattle.im_theory_log.specs.Transactions.{is_end, is_finished, last_of}
use Rattle.im_theory_log.specs.Writer.{PageState, Writer}
use Rattle.im_page_table.specs.KnownCopies.{changed_page_as}
use Rattle.im_theory_log.proofs.Cited.{fronts_lawful, images_pages}
use Rattle.im_base_disk.specs.declared.disk.Disk.{Ghosts}
use Rattle.im_base_disk.specs.Runs.{LeavesOnly}
use Rattle.im_base_disk.proofs.Runs.{weakened}
use Rattle.im_log_record.specs.Entry.{Entry, prev_of}
use Rattle.im_log.proofs.Above.{front_then}
use Rattle.im_log.specs.Spelled.{logged_at}
use Rattle.im_log.specs.Whats.{what_of}
use Rattle.im_log.proofs.Creations.{not_both}
use Rattle.im_page_writer.specs.declared.page_writer.PageWriter.{PageWriter}
use Rattle.im_page_writer.specs.PageWriter.{StandsAs}
use Rattle.im_page_writer.proofs.Outcomes.{sound_also}
use Rattle.im_theory_tree.specs.Good.{AllOf}
use Rattle.im_theory_tree.specs.Levels.{Pages}
use Rattle.im_theory_tree.specs.Theory.{page_tree}
use Rattle.im_restart_analysis.specs.Losers.{has_record, is_loser}
use Rattle.im_restart_analysis.proofs.Losers.{loser_number, loser_unfinished, same_loser, still_loser}
use Rattle.im_restart_undo.specs.Records as undone
use Rattle.im_restart_undo.specs.Records.{IsOfUndo}
use Rattle.im_restart_undo.specs.Undoing as undoing
use Rattle.im_restart_undo.specs.Undoing.{CanNotSplit, IsGoing, LeavesUndo, LeftByUndo, TakenBack, UsesUp}
use Rattle.im_restart_undo.proofs.Growth as growth
use Rattle.im_restart_undo.proofs.Growth.{going_page}
use Rattle.im_restart.specs.declared.chains.Chain.{Chain}
use Rattle.im_restart.specs.Undone.{AreUndo, GrowsByRestart, IsUndo}
use Rattle.im_restart.specs.Restart.{IsLeftUndoing, RunsOut}
use Rattle.im_restart.specs.LoserChains.{IsToUndo}
use Rattle.im_restart.specs.Undoing.{Compensated, CompensateKept, IsUndoing}
use Rattle.im_restart.proofs.Growth.{grows_front, grows_then}
use Rattle.im_restart.specs.UndoOrder.{GoesFirst}
use Rattle.im_restart.proofs.Orders.{order_key, order_left}
use Rattle.im_restart.proofs.Others.{spares_key}

-- ---- pages

pub page_longer : (b : Base) (old new : History) (p : ℕ) → GrowsByImages b old new → page_at b new p ≡ page_at b old p
page_longer b old new p by = ap (λ (l : History). page_at b l p) by.is ∙ images_pages b by.images old p by.all

pub page_changed : (known : Bool) (r : Logged) (is : Bool) (x : PageState) (g : Page) → x.page ≡ g → (if is then changed_page_as known r x else x).page ≡ (if is then page_after r.lsn r.what g else g)
page_changed known r true x g same = ap (λ (h : Page). page_after r.lsn r.what h) same
page_changed known r false x g same = same

-- ---- the records with which one record is taken back

-- each is one of a restart, and the transaction stays a loser
record IsOfRestart (t : ℕ) (more older : History) : Type 0 where
  pub all : AreUndo more older
  pub loser : is_loser t (more ++ older) ≡ true

own : (t : ℕ) (r : Logged) (log : History) → r.txn ≡ t → is_loser t log ≡ true → is_loser r.txn log ≡ true
own t r log is loser = ap (λ (u : ℕ). is_loser u log) is ∙ loser

is_undo : (t : ℕ) (r : Logged) (log : History) (w : What) → is_loser t log ≡ true → IsOfUndo t r w → IsUndo r log w
is_undo t r log (UndoInsert k i) loser is = own t r log is loser
is_undo t r log (UndoDelete k i) loser is = own t r log is loser
is_undo t r log (Smo was now) loser is = own t r log is loser
is_undo t r log DummyClr loser is = own t r log is loser
is_undo t r log (Image c) loser is = is
is_undo t r log (InsertKey k i) loser is = is
is_undo t r log (DeleteKey k i) loser is = is
is_undo t r log (UndoSmo now) loser is = absurd is
is_undo t r log Commit loser is = is
is_undo t r log End loser is = absurd is
is_undo t r log (Checkpoint n a dirty) loser is = is
is_undo t r log Unreadable loser is = is

no_end : (t : ℕ) (r : Logged) (w : What) → IsOfUndo t r w → is_end w ≡ false
no_end t r (UndoInsert k i) is = refl
no_end t r (UndoDelete k i) is = refl
no_end t r (Smo was now) is = refl
no_end t r DummyClr is = refl
no_end t r (Image c) is = refl
no_end t r (InsertKey k i) is = refl
no_end t r (DeleteKey k i) is = refl
no_end t r (UndoSmo now) is = refl
no_end t r Commit is = absurd is
no_end t r End is = absurd is
no_end t r (Checkpoint n a dirty) is = refl
no_end t r Unreadable is = refl

has_older : (t : ℕ) (log : History) → is_loser t log ≡ true → has_record t log ≡ true
has_older t log loser = (and_parts (has_record t log) (not (is_finished t log)) (and_parts (nat_le 1 t) (has_record t log && not (is_finished t log)) loser).1).0

-- a record more leaves a loser one, where it does not end it
stays_loser : (t : ℕ) (r : Logged) (log : History) → is_end r.what ≡ false → is_loser t log ≡ true → is_loser t (r ∷ log) ≡ true
stays_loser t r log goes loser = elim (cases_eq r.txn t) [
  | inl mine ↦ still_loser r log t mine (loser_number t log loser) goes (loser_unfinished t log loser)
  | inr other ↦ same_loser r log t other ∙ loser
]

are_of_restart : (t : ℕ) (more older : History) → AllOf (λ (r : Logged). IsOfUndo t r r.what) more → is_loser t older ≡ true → IsOfRestart t more older
are_of_restart t [] older all loser = record { all = tt; loser = loser }
are_of_restart t (r ∷ more) older all loser =
    let rest = are_of_restart t more older all.1 loser in
    record {
      all = (is_undo t r (more ++ older) r.what rest.loser all.0, rest.all);
      loser = stays_loser t r (more ++ older) (no_end t r r.what all.0) rest.loser;
    }

-- the log that a restart found grew by them
pub grows_key : (all old new : History) (t : ℕ) → GrowsByRestart all old → is_loser t old ≡ true → undone.GrowsByUndo t old new → GrowsByRestart all new
grows_key all old new t grown loser by = grows_then all old new grown (record { more = by.more; is = by.is; all = (are_of_restart t by.more old by.all loser).all })

-- ---- one record taken back

-- an answer for want of memory is no refusal as no store
answered_cause : (f answer : Fault) → (f ≡ Failed → answer ≡ Memory) → (f ≢ Failed → answer ≡ f) → f ≢ NotAStore → answer ≢ NotAStore
answered_cause f answer memory others cause is = cause (sym (others (λ failed. (let clash : Memory ≡ NotAStore = sym (memory failed) ∙ is in cc clash))) ∙ is)

module _ {D : Type 0} (d : Ghosts D) (b : Base) (base : ℕ) (all : History) where
  -- what a stop leaves
  pub left_key : (s : Writer) (t : ℕ) (old new : D) → IsUndoing b all s → is_loser t s.log ≡ true → GoesFirst t s.log → LeavesUndo d b base s t old new → LeavesOnly d old new (IsLeftUndoing b base all)
  left_key s t old new is loser first stops =
      weakened d old new (LeftByUndo d b base s t) (IsLeftUndoing b base all) stops
      (λ told c by.
      let on = by.covered in
      record {
        left = on.log.left;
        has = record { log = inr on.log.has; bare = λ unmade. absurd (not_both (c Log) on.log.has.made unmade); covers = on.pages; newest = inl on.older };
        grown = grows_front all on.log.left by.high (grows_key all s.log by.high t is.grown loser by.grows) (front_then all s.durable on.log.left is.found on.log.longer) on.log.shorter;
        order = order_left all s.log on.log.left by.high t is.order first by.grows (front_then all s.durable on.log.left is.found on.log.longer) on.log.shorter;
        lawful = fronts_lawful b page_tree on.log.left by.high on.log.shorter by.lawful;
      })

  module _ (s : Writer) (c : Chain) (said : Entry) (w : PageWriter) (old : D) (stands : StandsAs d b base s w old) (is : IsUndoing b all s) (to : IsToUndo s.log c said) where
    goes_first : GoesFirst c.transaction s.log
    goes_first = record { next = logged_at to.lsn said; rest = to.next.rest; stack = to.next.stack; latest = to.latest }

    going : IsGoing d b base s is.redo_end c.transaction c.last c.undo_next w old
    going = record {
      stands = stands;
      over = is.over;
      can = is.can;
      owner = loser_number c.transaction s.log to.loser;
      unfinished = loser_unfinished c.transaction s.log to.loser;
      row = sym (ap (λ (l : ℕ). record { last = l; undo_next = c.undo_next }) to.last ∙ ap (λ (n : ℕ). record { last = last_of c.transaction s.log; undo_next = n }) to.undo);
    }

    done : (last : ℕ) (x : PageWriter) (new : D) → TakenBack d b base s is.redo_end c.transaction said last old x new → Compensated d b base all s c.transaction (prev_of said) last old x new
    done last x new back =
        let now : Writer = back.now in
        let goes = back.goes in
        record {
          now = now;
          goes = record {
            stands = goes.going.stands;
            undoing = record {
              redo_end = is.redo_end;
              over = goes.going.over;
              grown = grows_key all s.log now.log c.transaction is.grown to.loser goes.grows;
              order = order_key b all s.log now.log c.transaction (logged_at to.lsn said) is.order to.next to.latest goes.grows back.once goes.going.can.lawful;
              found = front_then all s.durable now.durable is.found goes.durable;
              can = goes.going.can;
              pages = going_page d b base now is.redo_end c.transaction last (prev_of said) x new goes.going;
            };
            stops = left_key s c.transaction old new is to.loser goes_first goes.stops;
            on = growth.grown_front c.transaction s.log now.log goes.grows;
          };
          others = spares_key c.transaction s.log now.log goes.grows;
          loser = growth.loser_still c.transaction s.log now.log goes.grows to.loser goes.going.unfinished;
          row = goes.going.row;
        }

    -- what undo of a key record keeps, and that is what it keeps for a restart
    abbrev pub KeepsKey : ℕ → PageWriter → D → Result ℕ Fault → Type 0
    KeepsKey t x new result = (e : ℕ) → IsGoing d b base s e t c.last c.undo_next w old → undoing.IsToUndo d b base s t said → undoing.CompensateKept d b base s e t said old x new result

    pub compensated_so : (t : ℕ) (x : PageWriter) (new : D) (result : Result ℕ Fault) → t ≡ c.transaction → KeepsKey t x new result → CompensateKept d b base all s c.transaction (prev_of said) old x new result
    compensated_so t x new result same keeps =
        let k = subst (λ (u : ℕ). KeepsKey u x new result) same keeps is.redo_end going (record { lsn = to.lsn; next = to.next }) in
        record {
          sound = sound_also result (λ last. TakenBack d b base s is.redo_end c.transaction said last old x new) (λ last. Compensated d b base all s c.transaction (prev_of said) last old x new) k.sound (λ last back. done last x new back);
          stops = left_key s c.transaction old new is to.loser goes_first k.stops;
        }

    -- and where it was refused, however that is answered
    pub refused_so : (t : ℕ) (x : PageWriter) (new : D) (f answer : Fault) → t ≡ c.transaction → (f ≡ Failed → answer ≡ Memory) → (f ≢ Failed → answer ≡ f) → KeepsKey t x new (Err f)
        → CompensateKept d b base all s c.transaction (prev_of said) old x new (Err answer)
    refused_so t x new f answer same memory others keeps =
        let k = compensated_so t x new (Err f) same keeps in
        record { sound = answered_cause f answer memory others k.sound; stops = k.stops }

    -- what the pages say
    abbrev pages_now : Pages
    pages_now = λ p. (s.pages p).page.body

    -- and refused for numbers
    pub runs_out : (t : ℕ) (x : PageWriter) (new : D) (f answer : Fault) → t ≡ c.transaction → (answer ≡ Capacity → f ≡ Capacity) → KeepsKey t x new (Err f) → answer ≡ Capacity → RunsOut b all
    runs_out t x new f answer same numbers keeps full =
        let k = subst (λ (u : ℕ). KeepsKey u x new (Err f)) same keeps is.redo_end going (record { lsn = to.lsn; next = to.next }) in
        by (what_of said) refl (k.used_up (numbers full))
      where
        pages_are : pages_now ≡ settled b s.log
        pages_are = fun_ext (λ (p : ℕ). ap (λ (g : Page). g.body) (is.pages p) ∙ ap (λ (l : History). taken_back l p (page_at b s.log p).body) (sym is.can.closed))

        by : (kind : What) → what_of said ≡ kind → UsesUp pages_now kind → RunsOut b all
        by (DeleteKey k i) kind_is lacks = record {
          now = s.log;
          grown = is.grown;
          lawful = is.can.lawful;
          closed = is.can.closed;
          owner = c.transaction;
          loser = to.loser;
          next = logged_at to.lsn said;
          older = to.next.rest;
          stack = to.next.stack;
          key = k;
          rid = i;
          dropped = kind_is;
          full = subst (λ (pages : Pages). CanNotSplit pages k) pages_are lacks;
        }
        by (InsertKey k i) kind_is lacks = absurd lacks
        by (UndoInsert k i) kind_is lacks = absurd lacks
        by (UndoDelete k i) kind_is lacks = absurd lacks
        by (Smo was now) kind_is lacks = absurd lacks
        by (UndoSmo now) kind_is lacks = absurd lacks
        by DummyClr kind_is lacks = absurd lacks
        by Commit kind_is lacks = absurd lacks
        by End kind_is lacks = absurd lacks
        by (Image copy) kind_is lacks = absurd lacks
        by (Checkpoint n a dirty) kind_is lacks = absurd lacks
        by Unreadable kind_is lacks = absurd lacks
