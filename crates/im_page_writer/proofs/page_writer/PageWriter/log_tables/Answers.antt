use Rattle.std.proofs.Common.{◌≡◌, List, refl, subst, rules}
use Rattle.im_base_types.specs.declared.tables.DirtyPage.{DirtyPage}
use Rattle.im_theory_log.specs.WriterSteps.{Lists, appended, forgotten}
use Rattle.im_log_record.specs.Entry.{Checkpoint}
use Rattle.im_page_writer.specs.Checkpoints.{checkpoint_at}
use Rattle.im_log.specs.Kept.{Appended}
use Rattle.im_page_table.specs.DirtyTable.{dirty_pages}
use Rattle.im_page_writer.proofs.Checkpointing.{forgets, none_copied, tables_logged}
use Rattle.im_page_file.proofs.Standing.{log_stops}
use Rattle.im_page_table.proofs.DurableCopies.{durable_forgotten}
use Rattle.im_page_writer.proofs.SyncedPages.{synced_more}
use Rattle.im_page_writer.proofs.LogCalls.{append_only, log_broke}
use Rattle.im_page_writer.proofs.page_writer.PageWriter.log_tables.Goals as goal

pub returns-in_err-lsn-clause-kept : goal.returns-in_err-lsn-clause-kept
returns-in_err-lsn-clause-kept g c few b base s e is over synced =
    let w = c.args.self.now in
    let table = c.forget.new.self in
    let f = forgets g.D.Disk b base s w.log w.table table w.pool c.args.disk.now is.writing c.forget.ensures.entry in
    let k = c.in_err-lsn.ensures.kept base s.log s.durable is.writing.stands.log_is in
    record { ok = search rules; stops = log_stops g.D.Disk b base (forgotten s) w.log table c.args.disk.now f.stands c.append_tables.new.disk k.stops }

pub returns-clause-kept : goal.returns-clause-kept
returns-clause-kept g c few b base s e is over synced =
    let w = c.args.self.now in
    let table = c.forget.new.self in
    let old = c.args.disk.now in
    let new = c.append_tables.new.disk in
    let lsn = c.in_ok-lsn.lsn in
    let dirty = dirty_pages w.table in
    let f = forgets g.D.Disk b base s w.log w.table table w.pool old is.writing c.forget.ensures.entry in
    let k = c.in_ok-lsn.ensures.kept base s.log s.durable is.writing.stands.log_is in
    let rows = c.copy_rows.ensures.rows few in
    let same : c.as_slice.result.now ≡ dirty = search (rules, rows) in
    let done = subst (λ (rows : List DirtyPage). Appended g.D.Disk base s.log s.durable (Checkpoint c.args.next c.args.active.now rows) lsn old c.append_tables.new.log new) same k.ok in
    let lists = subst (λ (rows : List DirtyPage). Lists s.pages rows) rows (c.copy_rows.ensures.lists few s.pages is.writing.entries) in
    record {
      ok = record {
        durable = done.now_durable;
        grows = done.grows;
        stands = record {
          working = refl;
          known = record { from = tt; synced = synced_more (checkpoint_at lsn c.args.next c.args.active.now dirty) s (record (appended (checkpoint_at lsn c.args.next c.args.active.now dirty) (forgotten s)) { durable = done.now_durable }) w.known.synced refl refl is.known.synced; copies = λ none. durable_forgotten (record (appended (checkpoint_at lsn c.args.next c.args.active.now dirty) (forgotten s)) { durable = done.now_durable }) (λ p. none_copied (s.pages p).entry) };
          writing = tables_logged g.D.Disk b base s e c.args.next c.args.active.now dirty lsn w.log c.append_tables.new.log table w.pool old new f over done lists synced c.append_tables.ensures.outcome.ready c.append_tables.ensures.outcome.changes;
        };
        high = done.rises b is.writing.based;
        lists = lists;
      };
      stops = log_stops g.D.Disk b base (forgotten s) w.log table old f.stands new k.stops;
    }

pub returns-in_err-lsn-clause-outcome : goal.returns-in_err-lsn-clause-outcome
returns-in_err-lsn-clause-outcome g c =
    log_broke g.D.Disk c.from_residual.result c.from_residual.ensures.1 (append_only _) c.requires.working refl (c.requires.ready.works c.requires.working) c.in_err-lsn.ensures.outcome (search rules) refl
