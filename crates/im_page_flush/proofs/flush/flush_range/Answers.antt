use Rattle.std.proofs.Common.{rules, subst, sym, ◌≤◌, ◌-◌, ℕ, List, ◌≡◌, ◌+◌, true}
use Rattle.im_page_flush.specs.Writing.{lsn_for, MayWriteHere}
use Rattle.im_page_flush.proofs.Goings.{leaves_last}
use Rattle.im_page_flush.proofs.Flushing.{flushed_then, may_write}
use Rattle.im_page_file.proofs.ImageCalls.{imaging_lost, imaging_refused}
use Rattle.im_page_table.specs.DirtyTable.{has_room}
use Rattle.im_page_flush.proofs.Costs.{costs_flushed}
use Rattle.im_page_flush.proofs.flush.flush_range.Goals as goal

pub returns-in_err-log_images-clause-outcome : goal.returns-in_err-log_images-clause-outcome
returns-in_err-log_images-clause-outcome g c = imaging_refused g.D.Disk c.from_residual.result c.from_residual.ensures.1 c.in_err-log_images.ensures.outcome

pub returns-in_err-write_out-clause-outcome : goal.returns-in_err-write_out-clause-outcome
returns-in_err-write_out-clause-outcome g c =
    let e = c.in_err-write_out.ensures.answers in
    imaging_lost g.D.Disk c.from_residual-in_err-write_out.result c.from_residual-in_err-write_out.ensures.1 e.device e.noted

pub returns-clause-outcome : goal.returns-clause-outcome
returns-clause-outcome g c =
    let one = c.in_ok-log_images.ensures.outcome in
    record { still = λ works. c.write_out.ensures.ready c.log_images.new.log (one.still one.ends.1) works; ends = (one.ends.0, c.in_ok-write_out.ensures.answers.noted, one.ends.2) }

pub returns-in_err-log_images-clause-kept : goal.returns-in_err-log_images-clause-kept
returns-in_err-log_images-clause-kept g c b base s w all = record { ok = search rules; stops = (c.in_err-log_images.ensures.kept b base s w all).stops }

pub returns-in_err-write_out-clause-kept : goal.returns-in_err-write_out-clause-kept
returns-in_err-write_out-clause-kept g c b base s w all =
    let so = (c.in_ok-log_images.ensures.kept b base s w all).ok in
    let asks = subst (λ (l : List ℕ). (q : ℕ) → c.args.first ≤ q → q ≤ c.args.last → MayWriteHere b so.now c.args.table.now c.args.pool.now q (lsn_for l (q - c.args.first))) (sym c.deref.ensures.value)
    (may_write g.D.Disk b base s c.args.first c.args.last c.log_images.new.lsns.items c.args.disk.now c.log_images.new.log c.args.table.now c.args.pool.now c.log_images.new.disk so all) in
    let done = c.in_err-write_out.ensures.kept b base so.now c.log_images.new.log so.goes.writing so.all asks in
    record { ok = search rules; stops = leaves_last g.D.Disk b base s c.args.disk.now so.now c.log_images.new.log c.args.table.now c.args.pool.now c.log_images.new.disk so.goes c.write_out.new.disk done.stops }

pub returns-clause-kept : goal.returns-clause-kept
returns-clause-kept g c b base s w all =
    let so = (c.in_ok-log_images.ensures.kept b base s w all).ok in
    let asks = subst (λ (l : List ℕ). (q : ℕ) → c.args.first ≤ q → q ≤ c.args.last → MayWriteHere b so.now c.args.table.now c.args.pool.now q (lsn_for l (q - c.args.first))) (sym c.deref.ensures.value)
    (may_write g.D.Disk b base s c.args.first c.args.last c.log_images.new.lsns.items c.args.disk.now c.log_images.new.log c.args.table.now c.args.pool.now c.log_images.new.disk so all) in
    let done = c.in_ok-write_out.ensures.kept b base so.now c.log_images.new.log so.goes.writing so.all asks in
    record {
      ok = flushed_then g.D.Disk b base s so.now c.args.first c.args.last c.args.disk.now c.log_images.new.disk c.write_out.new.disk c.log_images.new.log c.log_images.new.log c.args.table.now c.write_out.new.table c.args.pool.now
          c.write_out.new.pool so.goes done.ok;
      stops = leaves_last g.D.Disk b base s c.args.disk.now so.now c.log_images.new.log c.args.table.now c.args.pool.now c.log_images.new.disk so.goes c.write_out.new.disk done.stops;
    }

pub returns-clause-stays : goal.returns-clause-stays
returns-clause-stays g c alone some = c.in_ok-write_out.ensures.stays alone some

pub returns-clause-costs : goal.returns-clause-costs
returns-clause-costs g c =
    costs_flushed g.D.Disk (c.args.last + 1 - c.args.first) ((c.args.first ≡ c.args.last) × (has_room c.args.first c.args.table.now ≡ true)) c.args.disk.now c.log_images.new.disk c.write_out.new.disk c.in_ok-log_images.ensures.forces c.in_ok-write_out.ensures.costs
