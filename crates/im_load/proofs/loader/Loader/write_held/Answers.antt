use Rattle.im_base_types.specs.declared.file_id.FileId.TheVariants.{Pages}
use Rattle.im_load.proofs.Endings.{leaf_written}
use Rattle.im_load.proofs.Goings.{goes_then}
use Rattle.im_load.proofs.loader.Loader.write_held.Goals as goal

pub returns-in_err-write_levels-clause-run : goal.returns-in_err-write_levels-clause-run
returns-in_err-write_levels-clause-run g c = goes_then g.D.Disk c.args.disk.now c.write_leaf.new.disk c.write_levels.new.disk c.in_ok-write_leaf.ensures.run c.write_levels.ensures.run

pub returns-clause-run : goal.returns-clause-run
returns-clause-run g c = goes_then g.D.Disk c.args.disk.now c.write_leaf.new.disk c.write_levels.new.disk c.in_ok-write_leaf.ensures.run c.write_levels.ensures.run

pub returns-clause-written : goal.returns-clause-written
returns-clause-written g c es t told =
    let s = c.args.self.now in
    let file = g.D.Disk.seen c.args.disk.now Pages in
    c.in_ok-write_levels.ensures.written file es t
    (λ known. leaf_written s.leaf s.above.items s.count g.D.Disk.tells file es t known (g.D.Disk.seen c.write_leaf.new.disk Pages) (c.in_ok-write_leaf.ensures.written known)) told
