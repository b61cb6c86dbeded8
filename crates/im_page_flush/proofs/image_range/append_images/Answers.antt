use Rattle.std.proofs.Common.{◌+◌, List, ℕ, sym, subst, arith, rules, ◌-◌}
use Rattle.im_base_types.specs.declared.file_id.FileId.TheVariants.{Log}
use Rattle.im_base_disk.proofs.Runs.{changes_reads, changes_then, reads_none}
use Rattle.im_page_flush.specs.Writing.{ImagesTo}
use Rattle.im_page_flush.proofs.Goings.{leaves_last, leaves_so_far}
use Rattle.im_page_file.proofs.LogEnds.{ends_same, ends_then}
use Rattle.im_page_flush.proofs.Imaging.{image_still, images_more, images_start}
use Rattle.im_page_file.proofs.ImageCalls.{imaging_none, imaging_refused, imaging_then}
use Rattle.im_base_disk.proofs.Costs.{forces_more, forces_none, forces_then}
use Rattle.im_page_flush.proofs.image_range.append_images.Goals as goal

pub loop-number-init : goal.loop-number-init
loop-number-init g c = record {
  low = omega arith;
  ready = c.requires.ready;
  working = c.requires.working;
  alive = (imaging_none g.D.Disk c.args.log.now c.args.disk.now c.requires.ready c.requires.working).ends.1;
  room = omega (arith, c.requires.room, c.clear.ensures);
  changes = changes_reads g.D.Disk Log c.args.disk.now c.args.disk.now (reads_none g.D.Disk c.args.disk.now);
  forces = forces_none g.D.Disk (c.args.first - c.args.first) c.args.disk.now;
  later = ends_same c.args.log.now;
  kept = λ b base s w all.
      subst (λ (l : List ℕ). ImagesTo g.D.Disk b base s c.args.first c.args.first l c.args.disk.now c.args.log.now c.args.table.now c.args.pool.now c.args.disk.now) (search rules)
      (images_start g.D.Disk b base s c.args.first c.args.disk.now c.args.log.now c.args.table.now c.args.pool.now (g.met.D.Disk.only_now c.args.disk.now) w);
}

pub loop-number-preserved : goal.loop-number-preserved
loop-number-preserved g c =
    let l = c.loop-number in
    record {
      low = omega (arith, l.invariant.low);
      ready = c.in_ok-lsn.ensures.outcome.still c.in_ok-lsn.ensures.outcome.ends.1;
      working = c.in_ok-lsn.ensures.outcome.ends.0;
      alive = c.in_ok-lsn.ensures.outcome.ends.1;
      room = c.push_lsn.ensures.room;
      changes = changes_then g.D.Disk Log c.args.disk.now l.disk c.append_one.new.disk l.invariant.changes c.append_one.ensures.changes;
      forces = forces_more g.D.Disk (l.number - c.args.first + 1) (l.number + 1 - c.args.first) c.args.disk.now c.append_one.new.disk (omega (arith, l.invariant.low))
          (forces_then g.D.Disk (l.number - c.args.first) 1 c.args.disk.now l.disk c.append_one.new.disk l.invariant.forces c.in_ok-lsn.ensures.forces);
      later = ends_then c.args.log.now l.log c.append_one.new.log l.invariant.later c.in_ok-lsn.ensures.outcome.ends.2;
      kept = λ b base s w all.
          let so = l.invariant.kept b base s w all in
          let asked = image_still b s so.now c.args.pool.now l.number so.goes.keeps (all l.number l.invariant.low (omega (arith, c.loop-number-test.true))) in
          let done = c.in_ok-lsn.ensures.kept b base so.now so.goes.writing asked in
          subst (λ (lsns : List ℕ). ImagesTo g.D.Disk b base s c.args.first (l.number + 1) lsns c.args.disk.now c.append_one.new.log c.args.table.now c.args.pool.now c.append_one.new.disk) (sym c.push_lsn.ensures.items)
          (images_more g.D.Disk b base s c.args.first c.args.disk.now l.number l.lsns.items l.log c.args.table.now c.args.pool.now l.disk l.invariant.low so c.in_ok-lsn.lsn c.append_one.new.log c.append_one.new.disk done.ok asked);
    }

pub returns-in_err-lsn-clause-kept : goal.returns-in_err-lsn-clause-kept
returns-in_err-lsn-clause-kept g c b base s w all =
    let l = c.loop-number in
    let so = l.invariant.kept b base s w all in
    let asked = image_still b s so.now c.args.pool.now l.number so.goes.keeps (all l.number l.invariant.low (omega (arith, c.loop-number-test.true))) in
    let done = c.in_err-lsn.ensures.kept b base so.now so.goes.writing asked in
    record { ok = search rules; stops = leaves_last g.D.Disk b base s c.args.disk.now so.now l.log c.args.table.now c.args.pool.now l.disk so.goes c.append_one.new.disk done.stops }

pub returns-clause-kept : goal.returns-clause-kept
returns-clause-kept g c b base s w all =
    let l = c.loop-number in
    let so = l.invariant.kept b base s w all in
    record {
      ok = subst (λ (n : ℕ). ImagesTo g.D.Disk b base s c.args.first n l.lsns.items c.args.disk.now l.log c.args.table.now c.args.pool.now l.disk) (omega (arith, c.loop-number-test.false, c.requires.order)) so;
      stops = leaves_so_far g.D.Disk b base s c.args.disk.now so.now l.log c.args.table.now c.args.pool.now l.disk so.goes;
    }

pub returns-in_err-lsn-clause-outcome : goal.returns-in_err-lsn-clause-outcome
returns-in_err-lsn-clause-outcome g c =
    let i = c.loop-number.invariant in
    imaging_refused g.D.Disk c.from_residual.result c.from_residual.ensures.1 (imaging_then g.D.Disk {first = c.loop-number.disk} (record { still = λ works. i.ready; ends = (i.working, i.alive, i.later) }) c.in_err-lsn.ensures.outcome)

pub returns-clause-outcome : goal.returns-clause-outcome
returns-clause-outcome g c = let i = c.loop-number.invariant in record { still = λ works. i.ready; ends = (i.working, i.alive, i.later) }

pub returns-clause-forces : goal.returns-clause-forces
returns-clause-forces g c =
    let l = c.loop-number in
    forces_more g.D.Disk (l.number - c.args.first) (c.args.last + 1 - c.args.first) c.args.disk.now l.disk (omega (arith, c.loop-number-test.false, c.requires.order)) l.invariant.forces
