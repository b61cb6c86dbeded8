use Rattle.im_base_admission.proofs.Least.{begins_by}
use Rattle.im_base_admission.proofs.table.may_begin.Goals as goal

pub returns : goal.returns
returns c =
    begins_by c.args.going.now c.args.first c.args.asker.now c.whose-first.result c.came_for.result c.oldest-oldest.result c.has_own.result c.may_go_on.result c.if-has_own.false
    c.has_own.ensures c.whose-first.ensures c.came_for.ensures c.oldest-oldest.ensures c.may_go_on.ensures
