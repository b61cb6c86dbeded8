use Rattle.std.proofs.Common.{◌≡◌, Some}
use Rattle.std.specs.Ordering.{nat_cmp}
use Rattle.std.specs.BTreeMap.{get, Updates}
use Rattle.im_restart_analysis.proofs.CopyLsns.{put_back, inserted}
use Rattle.im_restart_analysis.proofs.notes.restore.Goals as goal

pub returns-in-None : goal.returns-in-None
returns-in-None c was lsn sorted before put =
    put_back was c.args.copies.now c.remove.new.self c.args.page lsn c.args.before sorted c.remove.ensures.ordered before put
    (λ q. rw c.in-None.is (c.remove.ensures.updates.0 q))

pub returns-in-Some : goal.returns-in-Some
returns-in-Some c was lsn sorted before put =
    let found : get nat_cmp c.args.copies.now c.args.page ≡ Some lsn = put.1 in
    let done : Updates nat_cmp c.args.copies.now c.insert.new.self c.args.page (Some c.in-Some.lsn) = inserted c.insert.result _ _ lsn c.insert.ensures.updates c.insert.ensures.absent found in
    put_back was c.args.copies.now c.insert.new.self c.args.page lsn c.args.before sorted c.insert.ensures.ordered before put
    (λ q. rw c.in-Some.is (done.0 q))
