use Rattle.std.proofs.Common.{rules, ◌≡◌, length, true, false, true≢false, List, [], ◌∷◌, ◌++◌, sym, ap, ◌∙◌, subst, arith, length-append}
use Rattle.im_base_types.specs.Lives.{nothing_shown}
use Rattle.im_base_types.specs.Answers as answers
use Rattle.im_base_steps.specs.declared.step.Step.{Step}
use Rattle.im_base_steps.specs.declared.reply.Reply.{Reply}
use Rattle.im_base_steps.specs.Calls.{asked_by, told_by, is_blocked}
use Rattle.im_front.specs.Events.{shown_in}
use Rattle.im_base_steps.specs.Replies.{is_full, waits_after}
use Rattle.im_front.specs.Held.{IsTallied, Stands, after_reply, forces_in}
use Rattle.im_front.specs.Made.{WereMade}
use Rattle.im_front.specs.Made.AreMade.{one_more, blocked}
use Rattle.im_front.specs.Locked.{LockedState, none, seen_of}
use Rattle.im_front.proofs.Replies.{blocked_counts}
use Rattle.im_front.proofs.Steps.{stands_push, stands_blocked, tallied_as, tallied_push}
use Rattle.im_front.proofs.Growing.{alive_from, forces_push, seen_of-push}
use Rattle.im_front.proofs.open.Kept.step.Goals as goal

pub invariant_of-self : goal.invariant_of-self
invariant_of-self g c =
    let i = c.self.invariant in
    let trace = seen_of c.self.inside.trace.steps in
    let b : is_blocked (told_by c.step-reply.result) ≡ true = sym c.is_blocked.ensures ∙ c.if-is_blocked.true in
    let alive = alive_from g.E.Store.life g.E.Store.tells c.self.inside.trace.steps c.self.inside.engine i.0 in
    let same = blocked_counts (asked_by c.args.step.now) (told_by c.step-reply.result) (g.E.Store.waiting c.self.inside.engine) (g.E.Store.actives c.self.inside.engine) (g.E.Store.waiting c.step-reply.new.self) (g.E.Store.actives c.step-reply.new.self) b (c.step-reply.ensures.counted alive) in (
      (λ tells.
          let h = i.0 tells in
          let made = c.step-reply.ensures.kept h.1.before (shown_in nothing_shown h.1.events) h.1.view h.1.life_is in
          (h.0, stands_blocked g.E.Store.life h.0 trace c.self.inside.engine h.1 c.step-reply.new.self (asked_by c.args.step.now) (told_by c.step-reply.result) made b)),
      tallied_as trace (g.E.Store.actives c.self.inside.engine) (g.E.Store.waiting c.self.inside.engine) 0 none c.self.inside.counts i.1 (g.E.Store.actives c.step-reply.new.self) (g.E.Store.waiting c.step-reply.new.self) same.0 same.1,
      i.2,
      i.3,
      i.4,
      i.5 ∙ sym same.1,
      i.6,
      i.7,
      (i.8.0, blocked c.self.inside.trace.steps c.self.inside.engine c.step-reply.new.self c.args.step.now c.step-reply.result i.8.1 c.step-reply.ensures.made b),
    )

pub returns-then-is_blocked-clause-run : goal.returns-then-is_blocked-clause-run
returns-then-is_blocked-clause-run g c base was =
    let h = subst (λ (s : LockedState g.row.E.Denot). Stands g.E.Store.life base (seen_of s.trace) s.engine) (sym c.self.view_is) was in
    let b : is_blocked (told_by c.step-reply.result) ≡ true = sym c.is_blocked.ensures ∙ c.if-is_blocked.true in
    let made = c.step-reply.ensures.kept h.before (shown_in nothing_shown h.events) h.view h.life_is in
    stands_blocked g.E.Store.life base (seen_of c.self.inside.trace.steps) c.self.inside.engine h c.step-reply.new.self (asked_by c.args.step.now) (told_by c.step-reply.result) made b

pub publish-requires-clause-sound : goal.publish-requires-clause-sound
publish-requires-clause-sound g c =
    let i = c.self.invariant in
    let alive = alive_from g.E.Store.life g.E.Store.tells c.self.inside.trace.steps c.self.inside.engine i.0 in
    let tallied = tallied_push (seen_of c.self.inside.trace.steps) (g.E.Store.actives c.self.inside.engine) (g.E.Store.waiting c.self.inside.engine) 0 none c.self.inside.counts i.1 (g.E.Store.actives c.step-reply.new.self) (g.E.Store.waiting c.step-reply.new.self) c.counted-now.result (asked_by c.args.step.now)
    (told_by c.step-reply.result) (c.step-reply.ensures.reply alive) (c.step-reply.ensures.counted alive) (c.counted-now.ensures ∙ ap (λ n. after_reply n c.self.inside.counts (asked_by c.args.step.now) (told_by c.step-reply.result)) i.5) in
    let b = tallied.balanced in
    omega arith

pub invariant_of-self-2 : goal.invariant_of-self-2
invariant_of-self-2 g c =
    let i = c.self.invariant in
    let steps = c.self.inside.trace.steps in
    let trace = seen_of steps in
    let alive = alive_from g.E.Store.life g.E.Store.tells steps c.self.inside.engine i.0 in
    let tallied = tallied_push trace (g.E.Store.actives c.self.inside.engine) (g.E.Store.waiting c.self.inside.engine) 0 none c.self.inside.counts i.1 (g.E.Store.actives c.step-reply.new.self) (g.E.Store.waiting c.step-reply.new.self) c.counted-now.result (asked_by c.args.step.now)
    (told_by c.step-reply.result) (c.step-reply.ensures.reply alive) (c.step-reply.ensures.counted alive) (c.counted-now.ensures ∙ ap (λ n. after_reply n c.self.inside.counts (asked_by c.args.step.now) (told_by c.step-reply.result)) i.5) in
    let last : Step × Reply = (c.args.step.now, c.step-reply.result) in
    let grown : c.with.result.steps ≡ steps ++ last ∷ [] = c.with.ensures in
    let seen : seen_of c.with.result.steps ≡ trace ++ (asked_by c.args.step.now, told_by c.step-reply.result) ∷ [] = ap seen_of grown ∙ seen_of-push steps c.args.step.now c.step-reply.result in
    let longer = ap length grown ∙ length-append steps (last ∷ []) in (
      (λ tells.
          let h = i.0 tells in
          let made = c.step-reply.ensures.kept h.1.before (shown_in nothing_shown h.1.events) h.1.view h.1.life_is in
          let stands = stands_push g.E.Store.life h.0 trace c.self.inside.engine h.1 c.step-reply.new.self (asked_by c.args.step.now) (told_by c.step-reply.result) made in
          (h.0, subst (λ (l : List (answers.Step × answers.Reply)). Stands g.E.Store.life h.0 l c.step-reply.new.self) (sym seen) stands)),
      subst (λ (l : List (answers.Step × answers.Reply)). IsTallied l (g.E.Store.actives c.step-reply.new.self) (g.E.Store.waiting c.step-reply.new.self) 0 none c.counted-now.result) (sym seen) tallied,
      omega (arith, i.2, longer),
      c.publish.ensures.cell ∙ i.3,
      c.publish.ensures.wrote,
      c.waits_after.ensures ∙ ap (λ n. waits_after n (asked_by c.args.step.now) (told_by c.step-reply.result)) i.5 ∙ sym (c.step-reply.ensures.counted alive).1,
      subst (λ (l : List (answers.Step × answers.Reply)). c.forces_after.result ≡ forces_in l) (sym seen)
          (omega (arith, c.forces_after.ensures.count, i.6, forces_push trace (asked_by c.args.step.now) (told_by c.step-reply.result))),
      omega (arith, c.forces_after.ensures.few, i.7, longer),
      subst (λ (l : List (Step × Reply)). WereMade g.E.Store l c.step-reply.new.self) (sym grown)
          (i.8.0, one_more steps c.self.inside.engine c.step-reply.new.self c.args.step.now c.step-reply.result i.8.1 c.step-reply.ensures.made),
    )

pub returns-clause-adds : goal.returns-clause-adds
returns-clause-adds g c _ _ =
    let last : Step × Reply = (c.args.step.now, c.step-reply.result) in
    let grown : c.with.result.steps ≡ c.self.inside.trace.steps ++ last ∷ [] = c.with.ensures in
    grown ∙ ap (λ (s : LockedState g.row.E.Denot). s.trace ++ last ∷ []) c.self.view_is

pub returns-clause-blocked : goal.returns-clause-blocked
returns-clause-blocked g c b = absurd (true≢false (sym b ∙ (sym c.is_blocked.ensures ∙ c.if-is_blocked.false)))

pub returns-clause-same : goal.returns-clause-same
returns-clause-same g c f =
    let alive = alive_from g.E.Store.life g.E.Store.tells c.self.inside.trace.steps c.self.inside.engine c.self.invariant.0 in
    absurd (true≢false (sym f ∙ (c.step-reply.ensures.reply alive).room))

pub returns-clause-run : goal.returns-clause-run
returns-clause-run g c base was =
    let h = subst (λ (s : LockedState g.row.E.Denot). Stands g.E.Store.life base (seen_of s.trace) s.engine) (sym c.self.view_is) was in
    let steps = c.self.inside.trace.steps in
    let last : Step × Reply = (c.args.step.now, c.step-reply.result) in
    let grown : c.with.result.steps ≡ steps ++ last ∷ [] = c.with.ensures in
    let seen : seen_of c.with.result.steps ≡ seen_of steps ++ (asked_by c.args.step.now, told_by c.step-reply.result) ∷ [] = ap seen_of grown ∙ seen_of-push steps c.args.step.now c.step-reply.result in
    let made = c.step-reply.ensures.kept h.before (shown_in nothing_shown h.events) h.view h.life_is in
    let stands = stands_push g.E.Store.life base (seen_of steps) c.self.inside.engine h c.step-reply.new.self (asked_by c.args.step.now) (told_by c.step-reply.result) made in
    subst (λ (l : List (answers.Step × answers.Reply)). Stands g.E.Store.life base l c.step-reply.new.self) (sym seen) stands

pub returns-clause-full : goal.returns-clause-full
returns-clause-full g c =
    let alive = alive_from g.E.Store.life g.E.Store.tells c.self.inside.trace.steps c.self.inside.engine c.self.invariant.0 in
    let room : is_full (told_by c.step-reply.result) ≡ false = (c.step-reply.ensures.reply alive).room in (
      (λ f. absurd (true≢false (sym f ∙ room))),
      (λ q. absurd (true≢false (sym (search rules) ∙ c.if-is_spent.false))),
    )

pub returns-then-is_blocked-clause-suits : goal.returns-then-is_blocked-clause-suits
returns-then-is_blocked-clause-suits g c _ = (c.step-reply.ensures.reply (alive_from g.E.Store.life g.E.Store.tells c.self.inside.trace.steps c.self.inside.engine c.self.invariant.0)).suits

pub returns-clause-suits : goal.returns-clause-suits
returns-clause-suits g c _ = (c.step-reply.ensures.reply (alive_from g.E.Store.life g.E.Store.tells c.self.inside.trace.steps c.self.inside.engine c.self.invariant.0)).suits
