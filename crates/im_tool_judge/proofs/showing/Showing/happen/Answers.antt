use Rattle.std.proofs.Common.{refl}
use Rattle.im_tool_judge.proofs.Shows.{happened}
use Rattle.im_tool_judge.proofs.showing.Showing.happen.Goals as goal

pub returns : goal.returns
returns c s shown = happened c.args.self.now _ s (record { txn = c.args.txn; what = c.args.what }) shown refl refl c.in_ok-push.ensures.items
