use Rattle.std.proofs.Common.{refl, subst, rules, arith}
use Rattle.im_theory_log.specs.WriterSteps.{synced}
use Rattle.im_page_writer.specs.Checkpoints.{TablesLogged}
use Rattle.im_page_table.specs.DirtyTable.{TableView, dirty_pages, synced_entries}
use Rattle.im_page_writer.proofs.Checkpointing.{checkpointed, fits_synced, force_left, listed, record_left, sync_left}
use Rattle.im_page_writer.proofs.Outcomes.{stands_on}
use Rattle.im_base_disk.proofs.Costs.{most_as, most_then}
use Rattle.im_page_writer.proofs.page_writer.PageWriter.take_checkpoint.Goals as goal

pub returns-in_err-sync_pages-clause-kept : goal.returns-in_err-sync_pages-clause-kept
returns-in_err-sync_pages-clause-kept g c fits b base s e is over =
    let dirty = dirty_pages (synced_entries c.args.self.now.table) in
    record { ok = search rules; stops = sync_left g.D.Disk b base s c.args.next c.args.active.now dirty c.args.disk.now c.sync_pages.new.disk (c.in_err-sync_pages.ensures.kept b base s is).stops }

pub returns-in_err-lsn-clause-kept : goal.returns-in_err-lsn-clause-kept
returns-in_err-lsn-clause-kept g c fits b base s e is over =
    let dirty = dirty_pages (synced_entries c.args.self.now.table) in
    let old = c.args.disk.now in
    let w = c.sync_pages.new.self in
    let mid = c.sync_pages.new.disk in
    let one = (c.in_ok-sync_pages.ensures.kept b base s is).ok in
    let k = c.in_err-lsn.ensures.kept (fits_synced c.args.self.now.table c.sync_pages.new.self.table fits c.in_ok-sync_pages.ensures.table) b base (synced s) e (stands_on g.D.Disk b base s old (synced s) w mid one) over (λ p. refl) in
    record { ok = search rules; stops = record_left g.D.Disk b base s c.args.next c.args.active.now dirty old w mid one c.log_tables.new.disk k.stops }

pub returns-in_err-force-clause-kept : goal.returns-in_err-force-clause-kept
returns-in_err-force-clause-kept g c fits b base s e is over =
    let next = c.args.next in
    let active = c.args.active.now in
    let dirty = dirty_pages (synced_entries c.args.self.now.table) in
    let old = c.args.disk.now in
    let w = c.sync_pages.new.self in
    let mid = c.sync_pages.new.disk in
    let x = c.log_tables.new.self in
    let behind = c.log_tables.new.disk in
    let lsn = c.in_ok-lsn.lsn in
    let one = (c.in_ok-sync_pages.ensures.kept b base s is).ok in
    let k = c.in_ok-lsn.ensures.kept (fits_synced c.args.self.now.table c.sync_pages.new.self.table fits c.in_ok-sync_pages.ensures.table) b base (synced s) e (stands_on g.D.Disk b base s old (synced s) w mid one) over (λ p. refl) in
    let two = subst (λ (t : TableView). TablesLogged g.D.Disk b base (synced s) next active (dirty_pages t) lsn x behind) c.in_ok-sync_pages.ensures.table k.ok in
    let last = c.in_err-force.ensures.kept b base (listed g.D.Disk b base s next active dirty old w mid one lsn x behind two k.stops) two.stands in
    record { ok = search rules; stops = force_left g.D.Disk b base s next active dirty old w mid one lsn x behind two k.stops c.force.new.disk last.stops }

pub returns-clause-kept : goal.returns-clause-kept
returns-clause-kept g c fits b base s e is over =
    let next = c.args.next in
    let active = c.args.active.now in
    let dirty = dirty_pages (synced_entries c.args.self.now.table) in
    let old = c.args.disk.now in
    let w = c.sync_pages.new.self in
    let mid = c.sync_pages.new.disk in
    let x = c.log_tables.new.self in
    let behind = c.log_tables.new.disk in
    let lsn = c.in_ok-lsn.lsn in
    let one = (c.in_ok-sync_pages.ensures.kept b base s is).ok in
    let k = c.in_ok-lsn.ensures.kept (fits_synced c.args.self.now.table c.sync_pages.new.self.table fits c.in_ok-sync_pages.ensures.table) b base (synced s) e (stands_on g.D.Disk b base s old (synced s) w mid one) over (λ p. refl) in
    let two = subst (λ (t : TableView). TablesLogged g.D.Disk b base (synced s) next active (dirty_pages t) lsn x behind) c.in_ok-sync_pages.ensures.table k.ok in
    let last = c.in_ok-force.ensures.kept b base (listed g.D.Disk b base s next active dirty old w mid one lsn x behind two k.stops) two.stands in
    record {
      ok = checkpointed g.D.Disk b base s next active dirty old w mid one lsn x behind two k.stops c.force.new.self c.force.new.disk last.ok;
      stops = force_left g.D.Disk b base s next active dirty old w mid one lsn x behind two k.stops c.force.new.disk last.stops;
    }

pub returns-in_err-sync_pages-clause-few : goal.returns-in_err-sync_pages-clause-few
returns-in_err-sync_pages-clause-few g c = most_as g.D.Disk 0 1 4 5 c.args.disk.now c.sync_pages.new.disk (omega arith) (omega arith) c.sync_pages.ensures.few

pub returns-in_err-lsn-clause-few : goal.returns-in_err-lsn-clause-few
returns-in_err-lsn-clause-few g c =
    most_as g.D.Disk 2 3 4 5 c.args.disk.now c.log_tables.new.disk (omega arith) (omega arith)
    (most_then g.D.Disk 0 1 2 2 c.args.disk.now c.sync_pages.new.disk c.log_tables.new.disk c.sync_pages.ensures.few c.log_tables.ensures.few)

pub returns-in_err-force-clause-few : goal.returns-in_err-force-clause-few
returns-in_err-force-clause-few g c =
    most_then g.D.Disk 2 3 2 2 c.args.disk.now c.log_tables.new.disk c.force.new.disk
    (most_then g.D.Disk 0 1 2 2 c.args.disk.now c.sync_pages.new.disk c.log_tables.new.disk c.sync_pages.ensures.few c.log_tables.ensures.few) c.force.ensures.few

pub returns-clause-few : goal.returns-clause-few
returns-clause-few g c =
    most_then g.D.Disk 2 3 2 2 c.args.disk.now c.log_tables.new.disk c.force.new.disk
    (most_then g.D.Disk 0 1 2 2 c.args.disk.now c.sync_pages.new.disk c.log_tables.new.disk c.sync_pages.ensures.few c.log_tables.ensures.few) c.force.ensures.few
