use Rattle.std.proofs.Common.{inl, inr, ap}
use Rattle.im_base_types.specs.Answers as answers
use Rattle.im_base_steps.specs.declared.step.Step.TheVariants as steps
use Rattle.im_base_steps.specs.Replies.{is_full}
use Rattle.im_front.specs.Acknowledged.{IsSpent}
use Rattle.im_front.proofs.Acknowledging.{unmade}
use Rattle.im_front.proofs.open.Open.take_back.Goals as goal

pub loop-init : goal.loop-init
loop-init g c = (
  (tt, tt),
  (λ told. record { reply = c.call-reply.result; told = told; step = inl (c.call-reply.ensures.made (ap (λ (r : answers.Reply). is_full r) told)) }),
  (λ fault is. unmade g.E.Store (IsSpent g.E.Store) (steps.Rollback c.args.t) c.call-reply.result fault is c.call-reply.ensures.made c.call-reply.ensures.full),
)

pub loop-preserved : goal.loop-preserved
loop-preserved g c = (
  (tt, tt),
  (λ told. record { reply = c.call-reply-in_default.result; told = told; step = inr (c.call-reply-in_default.ensures.made (ap (λ (r : answers.Reply). is_full r) told)) }),
  (λ fault is. unmade g.E.Store (IsSpent g.E.Store) (steps.Continue c.args.t) c.call-reply-in_default.result fault is c.call-reply-in_default.ensures.made c.call-reply-in_default.ensures.full),
)
