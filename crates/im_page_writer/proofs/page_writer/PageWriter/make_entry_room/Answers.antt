use Rattle.std.proofs.Common.{◌≡◌, ◌<◌, length, false, true, refl, subst, sym, ◌∙◌, rules, arith}
use Rattle.im_theory_log.specs.WriterSteps.{synced}
use Rattle.im_page_table.specs.DirtyTable.{TableView}
use Rattle.im_page_writer.specs.PageWriter.{next_written}
use Rattle.im_page_flush.proofs.Goings.{leaves_last}
use Rattle.im_page_file.proofs.LogEnds.{ends_as}
use Rattle.im_page_writer.proofs.LoggedChanges.{ok_with}
use Rattle.im_page_table.proofs.Growing.{on_ok}
use Rattle.im_page_writer.proofs.Outcomes.{behind, idle_any, none_still, stands_on, step_flushes}
use Rattle.im_page_writer.specs.Outcome.{AsksNothing}
use Rattle.im_page_writer.proofs.TableRoom.{next_synced, room_left}
use Rattle.im_page_writer.proofs.Sized.{least, sized_as}
use Rattle.im_page_writer.proofs.Writers.{goes_on_start, goes_on_then}
use Rattle.im_page_writer.proofs.page_writer.PageWriter.make_entry_room.Goals as goal

pub returns-then-not-is_full-clause-outcome : goal.returns-then-not-is_full-clause-outcome
returns-then-not-is_full-clause-outcome g c = idle_any g.D.Disk g.met.D.Disk.only_now c.args.self.now c.args.disk.now (search rules) c.requires.ready

pub returns-then-not-is_full-clause-kept : goal.returns-then-not-is_full-clause-kept
returns-then-not-is_full-clause-kept g c b base s is =
    let w = c.args.self.now in
    let old = c.args.disk.now in
    let never : length w.table.entries ≡ w.table.most → ⊥ = λ full. let clash : false ≡ true = sym c.if-not-is_full.true ∙ c.is_full.ensures.full.1 full in cc clash in
    record { now = s; on = goes_on_start g.D.Disk b base s w old (g.met.D.Disk.only_now old) is; room = omega (arith, never, c.is_full.ensures.within); synced = λ full. absurd (never full); next = λ full. absurd (never full) }

pub returns-clause-outcome : goal.returns-clause-outcome
returns-clause-outcome g c =
    let e = c.sync_pages.ensures in
    let mid = c.flush_first.new.self in
    let disk = c.flush_first.new.disk in
    behind g.D.Disk AsksNothing none_still c.in_ok-flush_first.ensures.outcome
    (step_flushes g.D.Disk c.sync_pages.result e.outcome e.room (ends_as mid.log c.sync_pages.new.self.log e.log)
    (λ b base s is. on_ok c.sync_pages.result _ _ (e.kept b base s is).ok (λ on. record { now = synced s; on = on }))
    (λ b base s is. leaves_last g.D.Disk b base s disk s mid.log mid.table mid.pool disk (goes_on_start g.D.Disk b base s mid disk (g.met.D.Disk.only_now disk) is).goes c.sync_pages.new.disk (e.kept b base s is).stops))

pub returns-clause-kept : goal.returns-clause-kept
returns-clause-kept g c b base s is =
    let v = c.args.self.now in
    let first = c.in_ok-flush_first.ensures.kept b base s is in
    let t = first.now in
    let mid = c.flush_first.new.self in
    let writing = first.on.goes.writing in
    let sync = c.sync_pages.ensures.kept b base t (stands_on g.D.Disk b base s c.args.disk.now t mid c.flush_first.new.disk first.on) in
    let left = room_left mid.table t.pages c.law_pages_differ.ensures writing.entries v mid.pool s.pages is.writing.entries (λ p. (first.on.goes.keeps.pages p).written) c.is_full.ensures.within (least v)
    writing.pooled c.in_ok-flush_first.ensures.held c.len-held.ensures.within first.next in
    let size = sized_as v mid c.in_ok-flush_first.ensures.held.frames in
    ok_with c.sync_pages.result _ _ _ sync.ok c.sync_pages.ensures.table (λ on table. record {
      now = synced t;
      on = goes_on_then g.D.Disk b base s c.args.disk.now t mid c.flush_first.new.disk first.on (synced t) c.sync_pages.new.self c.sync_pages.new.disk on;
      room = subst (λ (t : TableView). length t.entries < t.most) (sym table) (omega (arith, left, size));
      synced = λ full p. refl;
      next = λ full. next_synced (next_written v) t.pages first.next;
    })
