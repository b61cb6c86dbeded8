use Rattle.std.proofs.Common.{◌<◌, inl, inr, refl, sym, subst, ◌∙◌}
use Rattle.im_base_types.specs.Answers as answers
use Rattle.im_base_steps.specs.declared.step.Step.TheVariants as steps
use Rattle.im_front.specs.Acknowledged.{point_in, IsFullFor}
use Rattle.im_front.proofs.Acknowledging.{not_forced_whole, refused_whole, full_for}
use Rattle.im_front.proofs.front.Front.settle_all.Goals as goal

pub returns-then-is_settled-clause-forced : goal.returns-then-is_settled-clause-forced
returns-then-is_settled-clause-forced g c =
    let same = c.deref-in-loop.ensures ∙ sym c.deref.ensures in record {
      point = point_in c.deref.result.now;
      held = c.law_holds_always.ensures.was.held;
      more = subst (λ s. c.args.forces < s.forces) same (c.is_settled.ensures.0 c.if-is_settled.true);
    }

pub returns-in-Refused-clause-causes : goal.returns-in-Refused-clause-causes
returns-in-Refused-clause-causes g c =
    not_forced_whole g.E.Store (IsFullFor g.E.Store answers.Force) c.in-Refused.fault (refused_whole g.E.Store.made (IsFullFor g.E.Store answers.Force) steps.Force c.step-reply.result c.in-Refused.fault c.in-Refused.is
    (λ room has. record { was = _; now = _; step_made = c.step-reply.ensures.made room has })
    (λ full. full_for g.E.Store answers.Force c.deref_mut.result.now c.deref-in-loop-3.result.now (c.deref-in-loop-3.ensures ∙ c.step-reply.ensures.same full) c.law_holds_always-in-loop.ensures.was (c.step-reply.ensures.full.0 full)))

pub returns-then-pace-clause-causes : goal.returns-then-pace-clause-causes
returns-then-pace-clause-causes g c =
    let same = c.deref-in-loop-2.ensures ∙ sym c.deref.ensures in
    inl (inr (inl (
      refl,
      record {
        point = point_in c.deref.result.now;
        held = c.law_holds_always.ensures.was.held;
        broken = subst (λ s. g.E.Store.broken s.engine) same (c.pace-in-loop.ensures.failed.0 c.if-pace.true);
      },
    )))
