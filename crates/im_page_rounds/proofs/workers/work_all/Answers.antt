use Rattle.std.proofs.Common.{length, get_or}
use Rattle.im_page_rounds.specs.Workers.{Worked}
use Rattle.im_page_rounds.proofs.Together.{worked_as}
use Rattle.im_page_rounds.proofs.workers.work_all.Goals as goal

pub returns-clause-taken : goal.returns-clause-taken
returns-clause-taken g c k w rs pages changed lt stand these among all =
    let at = (c.for_each_mut.ensures k w lt).1 in
    let worked : Worked (length c.args.workers.now) k c.args.numbers.now c.args.from c.args.span.now c.args.lsns.now (get_or c.args.workers.now k w) (get_or c.for_each_mut.new.s k w) = worked_as at.argument_is at.left at.call in
    worked.taken rs pages changed stand these among all
