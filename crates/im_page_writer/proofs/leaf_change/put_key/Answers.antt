use Rattle.std.proofs.Common.{insert}
use Rattle.im_page_pool.specs.Pool.{page_at}
use Rattle.im_page_writer.proofs.LeafChanges.{three_sets}
use Rattle.im_page_writer.proofs.leaf_change.put_key.Goals as goal
use Rattle.im_page_rounds.proofs.OnePage.{put_is}

pub returns-in-Ok : goal.returns-in-Ok
returns-in-Ok c =
    let p = page_at c.args.pool.now c.args.frame.number in
    three_sets c.args.frame c.args.lsn (insert p.body.entries c.args.i (c.args.key.now, c.args.rid)) _ c.args.pool.now c.insert.new.self c.set_marked.new.self c.set_lsn.new.self c.in-Ok.ensures.ok c.set_marked.ensures c.set_lsn.ensures
    (put_is p c.args.lsn c.args.key.now c.args.rid c.args.i c.requires.place.place)
