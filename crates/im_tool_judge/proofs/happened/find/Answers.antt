use Rattle.std.proofs.Common.{◌≡◌, ◌≢◌, rules, arith}
use Rattle.std.proofs.lemmas.Grind.{common_steps}
use Rattle.im_tool_judge.proofs.Shows.{found_own, found_other}
use Rattle.im_tool_judge.proofs.happened.find.Goals as goal

pub loop-event-preserved-then-event-txn : goal.loop-event-preserved-then-event-txn
loop-event-preserved-then-event-txn c =
    let differ : c.args.txn ≢ c.event-item.result.txn = λ same. first_of (cc, grind (arith, common_steps), search rules) in
    found_other c.loop-event.found c.args.txn c.args.events.now c.loop-event.event-index c.event-item.result c.loop-event-test.true c.event-item.is differ c.loop-event.invariant

pub loop-event-preserved : goal.loop-event-preserved
loop-event-preserved c =
    let same : c.args.txn ≡ c.event-item.result.txn = first_of (grind (arith, common_steps), search rules) in
    found_own c.loop-event.found _ c.args.txn c.args.events.now c.loop-event.event-index c.event-item.result c.loop-event-test.true c.event-item.is same c.loop-event.invariant c.in_ok-found.ensures
