use Rattle.std.proofs.Common.{rules, arith}
use Rattle.im_log_gate.proofs.Seals.{filled_more, laid_more}
use Rattle.im_log_gate.proofs.put.seal.Goals as goal

pub returns-clause-closed : goal.returns-clause-closed
returns-clause-closed c more bs filled =
    laid_more c.args.room.now c.write_length.new.room c.args.start c.args.end _ c.from.result c.requires.some c.requires.most c.requires.room (omega arith) c.write_length.ensures.room c.write_length.ensures.written bs filled (search (rules, more))

pub returns-clause-open : goal.returns-clause-open
returns-clause-open c more bs filled =
    filled_more c.args.room.now c.write_length.new.room c.args.start c.args.end _ c.from.result c.requires.some c.requires.most c.requires.room (omega arith) c.write_length.ensures.room c.write_length.ensures.written bs filled (search (rules, more))
