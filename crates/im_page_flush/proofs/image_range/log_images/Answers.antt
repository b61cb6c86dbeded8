use Rattle.std.proofs.Common.{rules, ◌+◌, ◌-◌}
use Rattle.im_page_file.proofs.Standing.{log_stops}
use Rattle.im_page_flush.proofs.Goings.{leaves_last, leaves_so_far}
use Rattle.im_page_flush.proofs.Imaging.{goes_forced, images_durable}
use Rattle.im_page_file.proofs.ImageCalls.{force_lost, imaging_refused, imaging_then}
use Rattle.im_page_file.proofs.LogEnds.{ends_forced}
use Rattle.im_base_disk.proofs.Costs.{forces_by, forces_then}
use Rattle.im_page_flush.proofs.image_range.log_images.Goals as goal

pub returns-in_err-append_images-clause-outcome : goal.returns-in_err-append_images-clause-outcome
returns-in_err-append_images-clause-outcome g c = imaging_refused g.D.Disk c.from_residual.result c.from_residual.ensures.1 c.in_err-append_images.ensures.outcome

pub returns-in_err-force-clause-outcome : goal.returns-in_err-force-clause-outcome
returns-in_err-force-clause-outcome g c =
    let one = c.in_ok-append_images.ensures.outcome in
    imaging_refused g.D.Disk c.from_residual-in_err-force.result c.from_residual-in_err-force.ensures.1
    (imaging_then g.D.Disk one (force_lost g.D.Disk one.ends.0 c.in_err-force.ensures.outcome))

pub returns-clause-outcome : goal.returns-clause-outcome
returns-clause-outcome g c =
    let one = c.in_ok-append_images.ensures.outcome in
    let e = c.in_ok-force.ensures in
    let works = one.ends.0 in
    imaging_then g.D.Disk one (record {
      still = λ alive. e.outcome.ready;
      ends = (e.outcome.ends.1, e.outcome.ends.2, ends_forced c.append_images.new.log c.force.new.self e.place (λ none. ((e.none none).1 works).1) e.outcome.generation);
    })

pub returns-in_err-append_images-clause-kept : goal.returns-in_err-append_images-clause-kept
returns-in_err-append_images-clause-kept g c b base s w all = record { ok = search rules; stops = (c.in_err-append_images.ensures.kept b base s w all).stops }

pub returns-in_err-force-clause-kept : goal.returns-in_err-force-clause-kept
returns-in_err-force-clause-kept g c b base s w all =
    let so = (c.in_ok-append_images.ensures.kept b base s w all).ok in
    let forced = c.in_err-force.ensures.kept base so.now.log so.now.durable so.goes.writing.stands.log_is in
    record {
      ok = search rules;
      stops = leaves_last g.D.Disk b base s c.args.disk.now so.now c.append_images.new.log c.args.table.now c.args.pool.now c.append_images.new.disk so.goes c.force.new.disk
          (log_stops g.D.Disk b base so.now c.append_images.new.log c.args.table.now c.append_images.new.disk so.goes.writing.stands c.force.new.disk forced.stops);
    }

pub returns-clause-kept : goal.returns-clause-kept
returns-clause-kept g c b base s w all =
    let so = (c.in_ok-append_images.ensures.kept b base s w all).ok in
    let forced = c.in_ok-force.ensures.kept base so.now.log so.now.durable so.goes.writing.stands.log_is in
    let goes = goes_forced g.D.Disk b base so.now c.append_images.new.log c.force.new.self c.args.table.now c.args.pool.now c.append_images.new.disk c.force.new.disk so.goes.writing forced.ok.log c.force.ensures.outcome.ready c.force.ensures.outcome.changes forced.stops forced.ok.file.generation in
    let all_durable = images_durable g.D.Disk b base s c.args.first c.args.last c.append_images.new.lsns.items c.args.disk.now c.append_images.new.log c.force.new.self c.args.table.now c.args.pool.now c.append_images.new.disk c.force.new.disk so goes in
    record { ok = all_durable; stops = leaves_so_far g.D.Disk b base s c.args.disk.now all_durable.now c.force.new.self c.args.table.now c.args.pool.now c.force.new.disk all_durable.goes }

pub returns-clause-forces : goal.returns-clause-forces
returns-clause-forces g c =
    forces_then g.D.Disk (c.args.last + 1 - c.args.first) 1 c.args.disk.now c.append_images.new.disk c.force.new.disk c.in_ok-append_images.ensures.forces
    (forces_by g.D.Disk c.append_images.new.log.used c.append_images.new.disk c.force.new.disk c.in_ok-force.ensures.costs (λ nothing. (c.force.ensures.none nothing).0))
