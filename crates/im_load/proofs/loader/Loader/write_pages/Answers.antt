use Rattle.im_base_types.specs.declared.file_id.FileId.TheVariants.{Pages}
use Rattle.im_load.proofs.Endings.{pages_written}
use Rattle.im_load.proofs.Goings.{goes_then}
use Rattle.im_load.proofs.loader.Loader.write_pages.Goals as goal

pub returns-in_err-write_meta-clause-run : goal.returns-in_err-write_meta-clause-run
returns-in_err-write_meta-clause-run g c = goes_then g.D.Disk c.args.disk.now c.write_held.new.disk c.write_meta.new.disk c.in_ok-write_held.ensures.run c.write_meta.ensures.run

pub returns-clause-run : goal.returns-clause-run
returns-clause-run g c = goes_then g.D.Disk c.args.disk.now c.write_held.new.disk c.write_meta.new.disk c.in_ok-write_held.ensures.run c.write_meta.ensures.run

pub returns-clause-written : goal.returns-clause-written
returns-clause-written g c es t told =
    let s = c.args.self.now in
    pages_written s.leaf s.above.items s.count g.D.Disk.tells (g.D.Disk.seen c.args.disk.now Pages) es t (g.D.Disk.seen c.write_held.new.disk Pages) (g.D.Disk.seen c.write_meta.new.disk Pages)
    (c.in_ok-write_held.ensures.written es t told) (c.in_ok-write_meta.ensures.written told)
