use Rattle.std.proofs.lemmas.Bool.{ltb-true, lt-ltb}
use Rattle.im_base_admission.proofs.Least.{owns_by}
use Rattle.im_base_admission.proofs.table.has_own.Goals as goal

pub returns : goal.returns
returns c =
    let by = owns_by c.args.thread c.args.going.now c.own.result c.own.ensures in
    ((λ found. by.0 (ltb-true 0 c.own.result found)), (λ owns. lt-ltb 0 c.own.result (by.1 owns)))
