use Rattle.im_page_table.proofs.Growing.{if_ok}
use Rattle.im_page_flush.proofs.Goings.{goes_start}
use Rattle.im_page_flush.proofs.Imaging.{image_copies, known_copies}
use Rattle.im_page_file.proofs.ImageCalls.{imaging_none}
use Rattle.im_base_disk.proofs.Costs.{forces_none}
use Rattle.im_page_flush.proofs.image_range.append_one.Goals as goal

pub returns-in-Some-clause-outcome : goal.returns-in-Some-clause-outcome
returns-in-Some-clause-outcome g c = imaging_none g.D.Disk c.args.log.now c.args.disk.now c.requires.ready c.requires.working

pub returns-in-Some-clause-kept : goal.returns-in-Some-clause-kept
returns-in-Some-clause-kept g c b base s w may =
    let done = known_copies g.D.Disk b base s c.args.number c.args.table.now c.args.pool.now c.args.disk.now c.in-Some.lsn c.args.log.now (g.met.D.Disk.only_now c.args.disk.now) w c.in-Some.ensures.some in
    record { ok = done; stops = (goes_start g.D.Disk b base s c.args.log.now c.args.table.now c.args.pool.now c.args.disk.now (g.met.D.Disk.only_now c.args.disk.now) w).stops }

pub returns-in-None-clause-kept : goal.returns-in-None-clause-kept
returns-in-None-clause-kept g c b base s w may =
    let k = c.append_page.ensures.kept b base s c.args.table.now w may in
    record {
      ok = if_ok c.append_page.result _ _ k.ok (λ lsn is. image_copies g.D.Disk b base s c.args.number c.args.table.now c.args.pool.now c.args.disk.now lsn c.append_page.new.log c.append_page.new.disk w.stands.kept may is);
      stops = k.stops;
    }

pub returns-in-Some-clause-forces : goal.returns-in-Some-clause-forces
returns-in-Some-clause-forces g c = forces_none g.D.Disk 1 c.args.disk.now
