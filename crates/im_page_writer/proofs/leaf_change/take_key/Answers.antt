use Rattle.std.proofs.Common.{remove}
use Rattle.im_page_pool.specs.Pool.{page_at}
use Rattle.im_page_writer.proofs.LeafChanges.{three_sets}
use Rattle.im_page_writer.proofs.leaf_change.take_key.Goals as goal
use Rattle.im_page_rounds.proofs.OnePage.{take_is}

pub returns : goal.returns
returns c =
    let p = page_at c.args.pool.now c.args.frame.number in
    three_sets c.args.frame c.args.lsn (remove p.body.entries c.args.i) _ c.args.pool.now c.remove.new.self c.set_marked.new.self c.set_lsn.new.self c.remove.ensures c.set_marked.ensures c.set_lsn.ensures
    (take_is p c.args.lsn c.args.key.now c.args.rid c.args.i c.requires.place.rises c.requires.place.within c.requires.place.here)
