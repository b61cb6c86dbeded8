use Rattle.std.proofs.Common.{◌≡◌, true≢false, false, ap}
use Rattle.im_base_types.specs.Answers as answers
use Rattle.im_base_steps.specs.declared.step.Step.TheVariants as steps
use Rattle.im_base_steps.specs.Calls.{told_by, is_blocked}
use Rattle.im_base_steps.specs.Replies.{is_full, lacks_memory}
use Rattle.im_front.specs.Acknowledged.{point_in, IsFullFor, IsLast}
use Rattle.im_front.specs.Acknowledged.IsAcknowledged.{at_once}
use Rattle.im_front.proofs.Acknowledging.{not_acknowledged_whole, refused_whole}
use Rattle.im_front.proofs.held.Held.make_commit.Goals as goal

pub returns-in-Committed-clause-comes : goal.returns-in-Committed-clause-comes
returns-in-Committed-clause-comes g c =
    at_once c.step-reply.result (ap told_by c.in-Committed.is) (record { was = _; now = _; step_made = c.step-reply.ensures.made (ap (λ r. is_full (told_by r)) c.in-Committed.is) (ap (λ r. lacks_memory (told_by r)) c.in-Committed.is) })

pub returns-in-More-clause-comes : goal.returns-in-More-clause-comes
returns-in-More-clause-comes g c =
    let more = c.in-More.is in
    let full : is_full (told_by c.step-reply.result) ≡ false = ap (λ r. is_full (told_by r)) more in
    let blocked : is_blocked (told_by c.step-reply.result) ≡ false = ap (λ r. is_blocked (told_by r)) more in
    let memory : lacks_memory (told_by c.step-reply.result) ≡ false = ap (λ r. lacks_memory (told_by r)) more in
    let last : IsLast g.E.Store c.args.t (point_in c.step-reply.new.self) = record { held = c.law_holds_always.ensures.was.held; older = _; reply = c.step-reply.result; told = ap told_by more; last = c.step-reply.ensures.adds blocked full memory } in
    record { point = point_in c.step-reply.new.self; last = last; so_many = c.forces.ensures }

pub returns-in-Refused-clause-comes : goal.returns-in-Refused-clause-comes
returns-in-Refused-clause-comes g c =
    not_acknowledged_whole g.E.Store (IsFullFor g.E.Store answers.Force) c.args.t c.in-Refused.fault (refused_whole g.E.Store.made ⊥ (steps.Commit c.args.t) c.step-reply.result c.in-Refused.fault c.in-Refused.is
    (λ room has. record { was = _; now = _; step_made = c.step-reply.ensures.made room has })
    (λ full. true≢false (c.step-reply.ensures.full.0 full).1))
