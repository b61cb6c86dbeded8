-- Calls of undo in a row, and single records of undo.
use Rattle.std.proofs.Common.{◌≡◌, ◌<◌, ℕ, [], ◌∷◌, Option, None, inl, inr, refl, sym, ◌∙◌, subst, arith}
use Rattle.std.specs.Prelude.{◌==◌}
use Rattle.std.proofs.lemmas.Bool.{cond-false, ne_eqb}
use Rattle.im_base_types.specs.declared.file_id.FileId.TheVariants.{Log}
use Rattle.im_base_types.specs.Records.{Logged}
use Rattle.im_theory_log.specs.Tree.{Tree, TreeLaws}
use Rattle.im_theory_log.specs.Histories.{Base, History, IsFront, Rises, end_of}
use Rattle.im_theory_log.specs.Transactions.{reads_on, to_undo, undo_reads}
use Rattle.im_theory_log.specs.Lawful.{IsLawful}
use Rattle.im_theory_log.specs.Writer.{Writer}
use Rattle.im_theory_log.proofs.Cited.{fronts_lawful, rises, page_same, lawful_images}
use Rattle.im_base_disk.specs.declared.disk.Disk.{Ghosts}
use Rattle.im_base_disk.specs.Disk.{Files}
use Rattle.im_base_disk.specs.Runs.{LeavesOnly}
use Rattle.im_base_disk.proofs.Runs.{then_on, weakened}
use Rattle.im_log_record.specs.Entry.{End}
use Rattle.im_log.specs.Spelled.{logged_at}
use Rattle.im_log.proofs.Above.{front_none, front_one, front_then}
use Rattle.im_log.proofs.Creations.{not_both}
use Rattle.im_page_writer.specs.declared.page_writer.PageWriter.{PageWriter}
use Rattle.im_page_file.specs.Stands.{IsCovered, LeavesCovered}
use Rattle.im_page_flush.specs.Writing.{LeavesGrown}
use Rattle.im_page_writer.specs.PageWriter.{LoggedOnly, StandsAs}
use Rattle.im_page_flush.proofs.Goings.{goes_start}
use Rattle.im_restart_analysis.specs.Undo.{ComesTo, Ends, IsUndoable}
use Rattle.im_restart_analysis.proofs.Undoing.{undo_goes_on}
use Rattle.im_theory_tree.specs.Theory.{page_tree}
use Rattle.im_theory_tree.proofs.TheoryLaws.{page_tree_laws}
use Rattle.im_restart.specs.declared.chains.Chain.{Chain}
use Rattle.im_restart.specs.Undone.{GrowsByRestart}
use Rattle.im_restart.specs.UndoOrder.{IsInOrder}
use Rattle.im_restart.specs.Restart.{IsLeftUndoing}
use Rattle.im_restart.specs.LoserChains.{GoesOnAt}
use Rattle.im_restart.specs.Undoing.{Ended, IsUndoing, UndoGoes}
use Rattle.im_restart.proofs.Growth.{grows_front, grows_images, grows_one}
use Rattle.im_restart.proofs.Orders.{order_front, order_images, order_one}
use Rattle.im_restart.proofs.Others.{spares_one}

-- ---- reading from 0

reads_none : (b : Base) (log : History) → Rises b log → undo_reads 0 log ≡ None
reads_none b [] up = refl
reads_none b (r ∷ older) up =
    let high : end_of b older < r.lsn = up.1 in
    cond-false (r.lsn == 0) (reads_on r r.what (undo_reads r.undo_next older)) (undo_reads 0 older) (ne_eqb r.lsn 0 (λ e. absurd (omega (arith, e, high)))) ∙ reads_none b older up.0

-- what reading from where undo goes on comes to
pub comes_to : (b : Base) (tree : Tree) → TreeLaws tree → (log : History) (c : Chain) (l : ℕ) → IsUndoable b tree log → GoesOnAt c l log → ComesTo c.transaction log (undo_reads l log)
comes_to b tree laws log c l can goes =
    subst (λ (o : Option Logged). ComesTo c.transaction log o) (sym goes.same) ((undo_goes_on tree laws).reads b log c.transaction can goes.loser)

pub nothing_left : (b : Base) (tree : Tree) → TreeLaws tree → (log : History) (c : Chain) → IsUndoable b tree log → GoesOnAt c 0 log → to_undo c.transaction log ≡ []
nothing_left b tree laws log c can goes =
    subst (λ (o : Option Logged). ComesTo c.transaction log o) (reads_none b log (rises b tree log can.lawful)) (comes_to b tree laws log c 0 can goes)

module _ {D : Type 0} (d : Ghosts D) (b : Base) (base : ℕ) (all : History) where
  -- what a stop leaves between two fronts of the log
  pub left_covered : (low high : History) (old new : D) → LeavesCovered d b base low high old new → IsFront all low → GrowsByRestart all high → IsInOrder all high → IsLawful b page_tree high → LeavesOnly d old new (IsLeftUndoing b base all)
  left_covered low high old new stops found grown order law =
      weakened d old new (IsCovered b base low high) (IsLeftUndoing b base all) stops
      (λ told c is. record {
        left = is.log.left;
        has = record { log = inr is.log.has; bare = λ unmade. absurd (not_both (c Log) is.log.has.made unmade); covers = is.pages; newest = inl is.older };
        grown = grows_front all is.log.left high grown (front_then all low is.log.left found is.log.longer) is.log.shorter;
        order = inl (order_front all is.log.left high order (front_then all low is.log.left found is.log.longer) is.log.shorter);
        lawful = fronts_lawful b page_tree is.log.left high is.log.shorter law;
      })

  pub left_here : (s : Writer) (old new : D) → IsUndoing b all s → LeavesCovered d b base s.durable s.log old new → LeavesOnly d old new (IsLeftUndoing b base all)
  left_here s old new is stops = left_covered s.durable s.log old new stops is.found is.grown is.order is.can.lawful

  -- and with Images more
  pub left_grown : (s : Writer) (old new : D) → IsUndoing b all s → LeavesGrown d b base s old new → LeavesOnly d old new (IsLeftUndoing b base all)
  left_grown s old new is grown =
      left_covered s.durable grown.high old new grown.stops is.found (grows_images b all s.log grown.high is.grown grown.grows) (order_images b all s.log grown.high is.order grown.grows)
      (subst (λ (l : History). IsLawful b page_tree l) (sym grown.grows.is) (lawful_images b page_tree grown.grows.images s.log grown.grows.all is.can.lawful))

  pub left_then : (old mid new : D) → LeavesOnly d old mid (IsLeftUndoing b base all) → LeavesOnly d mid new (IsLeftUndoing b base all) → LeavesOnly d old new (IsLeftUndoing b base all)
  left_then old mid new first next = then_on d old mid new (IsLeftUndoing b base all) (IsLeftUndoing b base all) first next (λ told c is. is)

  -- ---- calls in a row

  pub undo_start : (s : Writer) (w : PageWriter) (disk : D) → ((c : Files) → d.left_since disk (d.moment disk) c → d.may_leave disk c) → StandsAs d b base s w disk → IsUndoing b all s → UndoGoes d b base all s disk s w disk
  undo_start s w disk only_now stands is = record {
    stands = stands;
    undoing = is;
    stops = left_here s disk disk is (goes_start d b base s w.log w.table w.pool disk only_now stands.writing).stops;
    on = front_none s.log;
  }

  pub undo_then : (s : Writer) (old : D) (t : Writer) (w : PageWriter) (mid : D) (u : Writer) (x : PageWriter) (new : D) → UndoGoes d b base all s old t w mid → UndoGoes d b base all t mid u x new → UndoGoes d b base all s old u x new
  undo_then s old t w mid u x new first next = record {
    stands = next.stands;
    undoing = next.undoing;
    stops = left_then old mid new first.stops next.stops;
    on = front_then s.log t.log u.log first.on next.on;
  }

  -- ---- an End

  pub ended_so : (s : Writer) (c : Chain) (lsn : ℕ) (old : D) (w : PageWriter) (new : D) → IsUndoing b all s → GoesOnAt c 0 s.log → LeavesCovered d b base s.durable s.log old new
      → LoggedOnly d b base s (End c.transaction c.last) lsn w new → Ended d b base all s c.transaction old w new
  ended_so s c lsn old w new is goes stops logged =
      let r : Logged = logged_at lsn (End c.transaction c.last) in
      let none : to_undo c.transaction s.log ≡ [] = nothing_left b page_tree page_tree_laws s.log c is.can goes in
      let ends : Ends b c.transaction s.log r = record { linked = record { rises = logged.high; owner = refl; prev = goes.last }; what = refl; leads = refl } in
      let after = (undo_goes_on page_tree page_tree_laws).ends b s.log c.transaction r is.can goes.loser none ends in
      let grown : GrowsByRestart all (r ∷ s.log) = grows_one all s.log r is.grown (record { loser = goes.loser; none = none; page = refl }) in
      record {
        now = _;
        goes = record {
          stands = logged.stands;
          undoing = record {
            redo_end = is.redo_end;
            over = is.over;
            grown = grown;
            order = order_one all s.log r is.order refl;
            found = front_then all s.durable logged.durable is.found logged.grows;
            can = after.0;
            pages = λ p. is.pages p ∙ sym (page_same b r s.log (λ g. refl) p);
          };
          stops = left_here s old new is stops;
          on = front_one r s.log;
        };
        others = spares_one c.transaction r s.log after.1.others;
        ended = after.1.ended;
      }
