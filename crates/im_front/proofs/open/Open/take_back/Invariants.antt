use Rattle.std.proofs.Common.{◌≡◌}
use Rattle.im_base_types.specs.Answers as answers
use Rattle.im_base_types.specs.declared.fault.Fault.{Fault}
use Rattle.im_base_steps.specs.declared.reply.Reply.TheVariants as replies
use Rattle.im_base_steps.specs.Calls.{told_by}
use Rattle.im_front.specs.Acknowledged.{IsSpent}
use Rattle.im_front.specs.Writing.{IsTakenBack, CameToNothing}
use Rattle.im_front.proofs.open.Open.take_back.Given as goal

abbrev pub invariant-loop : goal.invariant-loop
invariant-loop g l =
    ((goal.iterator-loop g).can_next l.iterator' × (goal.iterator-loop g).is_finite l.iterator') × (told_by l.reply ≡ answers.RolledBack → IsTakenBack g.E.Store.made l.t) × ((fault : Fault) → l.reply ≡ replies.Refused fault → CameToNothing g.E.Store (IsSpent g.E.Store) fault)
