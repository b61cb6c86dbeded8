use Rattle.std.proofs.Common.{subst, ◌∙◌}
use Rattle.im_base_steps.specs.declared.step.Step.{Step}
use Rattle.im_base_steps.specs.Calls.{asked_by, told_by}
use Rattle.im_base_steps.specs.Replies.{Suits}
use Rattle.im_front.specs.Acknowledged.{IsFullFor}
use Rattle.im_front.proofs.Acknowledging.{full_for}
use Rattle.im_front.proofs.front.Front.call.Goals as goal

pub returns-then-not-is_blocked-clause-made : goal.returns-then-not-is_blocked-clause-made
returns-then-not-is_blocked-clause-made g c room memory = record { was = _; now = _; step_made = subst (λ (s : Step). g.E.Store.made c.deref_mut.result.now.engine s c.step-reply.result c.step-reply.new.self.engine) c.loop.invariant.2 (c.step-reply.ensures.made room memory) }

pub returns-then-not-is_blocked-clause-suits : goal.returns-then-not-is_blocked-clause-suits
returns-then-not-is_blocked-clause-suits g c room memory = subst (λ (s : Step). Suits (asked_by s) (told_by c.step-reply.result)) c.loop.invariant.2 (c.step-reply.ensures.suits room memory)

pub returns-then-not-is_blocked-clause-spent : goal.returns-then-not-is_blocked-clause-spent
returns-then-not-is_blocked-clause-spent g c full =
    subst (λ (s : Step). IsFullFor g.E.Store (asked_by s)) c.loop.invariant.2
    (full_for g.E.Store _ c.deref_mut.result.now c.deref.result.now (c.deref.ensures ∙ c.step-reply.ensures.same full) c.law_holds_always.ensures.was (c.step-reply.ensures.full.0 full))
