use Rattle.std.proofs.Common.{◌≡◌, false, ap, subst}
use Rattle.im_base_steps.specs.declared.step.Step.TheVariants as steps
use Rattle.im_base_steps.specs.Calls.{told_by, is_blocked}
use Rattle.im_base_steps.specs.Replies.{is_full}
use Rattle.im_front.specs.Acknowledged.{point_of, IsForced, IsLast, IsSpent}
use Rattle.im_front.specs.Acknowledged.IsAcknowledged.{at_once, by_force}
use Rattle.im_front.proofs.Acknowledging.{not_acknowledged, refused_plain, spent}
use Rattle.im_front.proofs.open.Kept.make_commit.Goals as goal

pub returns-in-Committed : goal.returns-in-Committed
returns-in-Committed g c = at_once c.step-reply.result (ap told_by c.in-Committed.is) (record { was = _; now = _; step_made = c.step-reply.ensures.made (ap (λ r. is_full (told_by r)) c.in-Committed.is) })

pub returns-in-More : goal.returns-in-More
returns-in-More g c forced =
    let more = c.in-More.is in
    let full : is_full (told_by c.step-reply.result) ≡ false = ap (λ r. is_full (told_by r)) more in
    let blocked : is_blocked (told_by c.step-reply.result) ≡ false = ap (λ r. is_blocked (told_by r)) more in
    let last : IsLast g.E.Store c.args.t (point_of c.step-reply.new.self) = record { held = c.law_holds_always.ensures.held; older = _; reply = c.step-reply.result; told = ap told_by more; last = c.step-reply.ensures.adds blocked full } in
    by_force _ last (subst (λ (n : _). IsForced g.E.Store n) c.forces.ensures forced)

pub returns-in-Refused : goal.returns-in-Refused
returns-in-Refused g c =
    not_acknowledged g.E.Store (IsSpent g.E.Store) c.args.t c.in-Refused.fault (refused_plain g.E.Store.made (IsSpent g.E.Store) (steps.Commit c.args.t) c.step-reply.result c.in-Refused.fault c.in-Refused.is
    (λ room. record { was = _; now = _; step_made = c.step-reply.ensures.made room })
    (λ full. spent g.E.Store _ c.step-reply.new.self (c.step-reply.ensures.same full) c.law_holds_always.ensures.held (c.step-reply.ensures.full.0 full)))
