use Rattle.im_base_types.specs.declared.file_id.FileId.TheVariants.{Pages}
use Rattle.im_load.proofs.Fillings.{filled_put, page_put}
use Rattle.im_load.proofs.writing.write_page.Goals as goal

pub returns-clause-written : goal.returns-clause-written
returns-clause-written g c told =
    let d = g.D.Disk in
    let filled = c.in_ok-fill.ensures.filled told in
    filled_put (d.seen c.args.disk.now Pages) (d.seen c.fill.new.disk Pages) (d.seen c.write.new.disk Pages) c.args.number c.args.page.now filled
    (page_put (d.seen c.fill.new.disk Pages) (d.seen c.write.new.disk Pages) c.bytes-bytes.result.now c.args.number c.args.page.now filled.long c.bytes-bytes.ensures.len c.bytes-bytes.ensures.page (c.in_ok-write.ensures.written told))
