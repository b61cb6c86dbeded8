use Rattle.std.proofs.Common.{rules, ◌≡◌, length, true, false, true≢false, List, [], ◌∷◌, ◌++◌, sym, ap, ◌∙◌, subst, arith, inl, length-append}
use Rattle.im_base_types.specs.Lives.{nothing_shown}
use Rattle.im_base_types.specs.Answers.{Step, Reply}
use Rattle.im_base_steps.specs.declared.step.Step.{Step as Steps}
use Rattle.im_base_steps.specs.declared.reply.Reply.{Reply as Replies}
use Rattle.im_front.specs.declared.recorded.Recorded.{Recorded}
use Rattle.im_base_steps.specs.Calls.{asked_by, told_by, is_blocked}
use Rattle.im_front.specs.Traces.{trace_of}
use Rattle.im_front.specs.Events.{shown_in}
use Rattle.im_base_steps.specs.Replies.{is_full, waits_after}
use Rattle.im_front.specs.Made.{WereMade}
use Rattle.im_front.specs.Made.AreMade.{one_more, blocked}
use Rattle.im_front.specs.Locked.{seen_of}
use Rattle.im_front.specs.Held.{State, IsTallied, Stands, WereKept, after_reply, forces_in, waits_in}
use Rattle.im_front.proofs.Replies.{few_entries, entry_asked, blocked_counts}
use Rattle.im_front.proofs.Growing.{forces_push, seen_of-push, kept_push}
use Rattle.im_front.proofs.Steps.{alive_of, stands_push, stands_blocked, tallied_as, tallied_push, trace_of-recorded, waits_in-push}
use Rattle.im_front.proofs.held.Held.step.Goals as goal

pub invariant_of-self-then-is_blocked : goal.invariant_of-self-then-is_blocked
invariant_of-self-then-is_blocked g c =
    let i = c.self.invariant in
    let b : is_blocked (told_by c.step-reply.result) ≡ true = sym c.is_blocked.ensures ∙ c.if-is_blocked.true in
    let alive = alive_of g.E.Store.life g.E.Store.tells c.self.inside.base.items (trace_of c.self.inside.trace.items) c.self.inside.engine i.0 in
    let same = blocked_counts (asked_by c.args.step.now) (told_by c.step-reply.result) (g.E.Store.waiting c.self.inside.engine) (g.E.Store.actives c.self.inside.engine) (g.E.Store.waiting c.step-reply.new.self) (g.E.Store.actives c.step-reply.new.self) b (c.step-reply.ensures.counted alive) in
    let tallied = tallied_as (trace_of c.self.inside.trace.items) (g.E.Store.actives c.self.inside.engine) (g.E.Store.waiting c.self.inside.engine) c.self.inside.cut c.self.inside.kept c.self.inside.counts i.1 (g.E.Store.actives c.step-reply.new.self) (g.E.Store.waiting c.step-reply.new.self) same.0 same.1 in
    let long = ap length c.in-Some.ensures.kept in (
      (λ tells.
          let h = i.0 tells in
          let made = c.step-reply.ensures.kept h.before (shown_in nothing_shown h.events) h.view h.life_is in
          let stands = stands_blocked g.E.Store.life c.self.inside.base.items (trace_of c.self.inside.trace.items) c.self.inside.engine h c.step-reply.new.self (asked_by c.args.step.now) (told_by c.step-reply.result) made b in
          subst (λ (l : List Recorded). Stands g.E.Store.life c.self.inside.base.items (trace_of l) c.step-reply.new.self) (sym c.in-Some.ensures.kept) stands),
      subst (λ (l : List Recorded). IsTallied (trace_of l) (g.E.Store.actives c.step-reply.new.self) (g.E.Store.waiting c.step-reply.new.self) c.self.inside.cut c.self.inside.kept c.self.inside.counts) (sym c.in-Some.ensures.kept) tallied,
      omega (arith, i.2, long),
      i.3,
      i.4,
      i.5,
      i.6,
      i.7 ∙ sym same.1,
      i.8,
      omega (arith, i.9, long),
      (i.10.0, blocked c.self.inside.history.steps c.self.inside.engine c.step-reply.new.self c.args.step.now c.step-reply.result i.10.1 c.step-reply.ensures.made b),
      (λ tells.
          let h = i.11 tells in
          let made = c.step-reply.ensures.kept h.1.before (shown_in nothing_shown h.1.events) h.1.view h.1.life_is in
          (h.0, stands_blocked g.E.Store.life h.0 (seen_of c.self.inside.history.steps) c.self.inside.engine h.1 c.step-reply.new.self (asked_by c.args.step.now) (told_by c.step-reply.result) made b)),
      subst (λ (l : List Recorded). WereKept (seen_of c.self.inside.history.steps) c.self.inside.cut c.self.inside.kept (trace_of l)) (sym c.in-Some.ensures.kept) i.12,
      i.13,
    )

pub of-told-requires-clause-key : goal.of-told-requires-clause-key
of-told-requires-clause-key g c h =
    let alive = alive_of g.E.Store.life g.E.Store.tells c.self.inside.base.items (trace_of c.self.inside.trace.items) c.self.inside.engine c.self.invariant.0 in
    let most = entry_asked (asked_by c.args.step.now) (told_by c.step-reply.result) (c.step-reply.ensures.reply alive).suits h in
    omega (arith, most, c.in-Some.ensures.key)

pub of-told-requires-clause-entries : goal.of-told-requires-clause-entries
of-told-requires-clause-entries g c =
    let alive = alive_of g.E.Store.life g.E.Store.tells c.self.inside.base.items (trace_of c.self.inside.trace.items) c.self.inside.engine c.self.invariant.0 in
    let few = few_entries (asked_by c.args.step.now) (told_by c.step-reply.result) (c.step-reply.ensures.reply alive).suits in
    omega (arith, few, c.in-Some.ensures.entries)

pub publish-requires-clause-sound : goal.publish-requires-clause-sound
publish-requires-clause-sound g c =
    let i = c.self.invariant in
    let alive = alive_of g.E.Store.life g.E.Store.tells c.self.inside.base.items (trace_of c.self.inside.trace.items) c.self.inside.engine i.0 in
    let tallied = tallied_push (trace_of c.self.inside.trace.items) (g.E.Store.actives c.self.inside.engine) (g.E.Store.waiting c.self.inside.engine) c.self.inside.cut c.self.inside.kept c.self.inside.counts i.1 (g.E.Store.actives c.step-reply.new.self) (g.E.Store.waiting c.step-reply.new.self) c.counted-now.result (asked_by c.args.step.now)
    (told_by c.step-reply.result) (c.step-reply.ensures.reply alive) (c.step-reply.ensures.counted alive) (c.counted-now.ensures ∙ ap (λ n. after_reply n c.self.inside.counts (asked_by c.args.step.now) (told_by c.step-reply.result)) i.7) in
    let b = tallied.balanced in
    omega arith

pub invariant_of-self-2 : goal.invariant_of-self-2
invariant_of-self-2 g c =
    let i = c.self.invariant in
    let alive = alive_of g.E.Store.life g.E.Store.tells c.self.inside.base.items (trace_of c.self.inside.trace.items) c.self.inside.engine i.0 in
    let tallied = tallied_push (trace_of c.self.inside.trace.items) (g.E.Store.actives c.self.inside.engine) (g.E.Store.waiting c.self.inside.engine) c.self.inside.cut c.self.inside.kept c.self.inside.counts i.1 (g.E.Store.actives c.step-reply.new.self) (g.E.Store.waiting c.step-reply.new.self) c.counted-now.result (asked_by c.args.step.now)
    (told_by c.step-reply.result) (c.step-reply.ensures.reply alive) (c.step-reply.ensures.counted alive) (c.counted-now.ensures ∙ ap (λ n. after_reply n c.self.inside.counts (asked_by c.args.step.now) (told_by c.step-reply.result)) i.7) in
    let last : Recorded = record { step = c.in-Some.asked; reply = c.of-told.result } in
    let items : c.push_reserved.new.self.items ≡ c.self.inside.trace.items ++ last ∷ [] = c.push_reserved.ensures.items ∙ ap (λ (l : List Recorded). l ++ last ∷ []) c.in-Some.ensures.kept in
    let trace = trace_of-recorded c.self.inside.trace.items c.push_reserved.new.self.items last (asked_by c.args.step.now) (told_by c.step-reply.result) items c.in-Some.ensures.step c.of-told.ensures in
    let longer = ap length items ∙ length-append c.self.inside.trace.items (last ∷ []) in
    let all = c.self.inside.history.steps in
    let added : Steps × Replies = (c.args.step.now, c.step-reply.result) in
    let grown : c.with.result.steps ≡ all ++ added ∷ [] = c.with.ensures in
    let seen : seen_of c.with.result.steps ≡ seen_of all ++ (asked_by c.args.step.now, told_by c.step-reply.result) ∷ [] = ap seen_of grown ∙ seen_of-push all c.args.step.now c.step-reply.result in
    let waits = c.waits_after.ensures ∙ ap (λ n. waits_after n (asked_by c.args.step.now) (told_by c.step-reply.result)) i.13 in (
      (λ tells.
          let h = i.0 tells in
          let made = c.step-reply.ensures.kept h.before (shown_in nothing_shown h.events) h.view h.life_is in
          let stands = stands_push g.E.Store.life c.self.inside.base.items (trace_of c.self.inside.trace.items) c.self.inside.engine h c.step-reply.new.self (asked_by c.args.step.now) (told_by c.step-reply.result) made in
          subst (λ (l : List (Step × Reply)). Stands g.E.Store.life c.self.inside.base.items l c.step-reply.new.self) (sym trace) stands),
      subst (λ (l : List (Step × Reply)). IsTallied l (g.E.Store.actives c.step-reply.new.self) (g.E.Store.waiting c.step-reply.new.self) c.self.inside.cut c.self.inside.kept c.counted-now.result) (sym trace) tallied,
      omega (arith, c.add.ensures.total, i.2, longer),
      i.3,
      i.4,
      c.publish.ensures.cell ∙ i.5,
      c.publish.ensures.wrote,
      c.waits_after.ensures ∙ ap (λ n. waits_after n (asked_by c.args.step.now) (told_by c.step-reply.result)) i.7 ∙ sym (c.step-reply.ensures.counted alive).1,
      subst (λ (l : List (Step × Reply)). c.forces_after.result ≡ forces_in l) (sym seen)
          (omega (arith, c.forces_after.ensures.count, i.8, forces_push (seen_of all) (asked_by c.args.step.now) (told_by c.step-reply.result))),
      omega (arith, c.forces_after.ensures.few, i.9, longer),
      subst (λ (l : List (Steps × Replies)). WereMade g.E.Store l c.step-reply.new.self) (sym grown)
          (i.10.0, one_more all c.self.inside.engine c.step-reply.new.self c.args.step.now c.step-reply.result i.10.1 c.step-reply.ensures.made),
      (λ tells.
          let h = i.11 tells in
          let made = c.step-reply.ensures.kept h.1.before (shown_in nothing_shown h.1.events) h.1.view h.1.life_is in
          let stands = stands_push g.E.Store.life h.0 (seen_of all) c.self.inside.engine h.1 c.step-reply.new.self (asked_by c.args.step.now) (told_by c.step-reply.result) made in
          (h.0, subst (λ (l : List (Step × Reply)). Stands g.E.Store.life h.0 l c.step-reply.new.self) (sym seen) stands)),
      subst (λ (l : List (Step × Reply) × List (Step × Reply)). WereKept l.0 c.self.inside.cut c.self.inside.kept l.1) (λ i. (sym seen i, sym trace i)) (kept_push (seen_of all) (trace_of c.self.inside.trace.items) c.self.inside.cut c.self.inside.kept (asked_by c.args.step.now, told_by c.step-reply.result) i.12),
      waits ∙ sym (waits_in-push 0 (seen_of all) (asked_by c.args.step.now, told_by c.step-reply.result)) ∙ ap (waits_in 0) (sym seen),
    )

pub returns-clause-records : goal.returns-clause-records
returns-clause-records g c =
    let is = c.self.view_is in
    let last : Recorded = record { step = c.in-Some.asked; reply = c.of-told.result } in
    let items : c.push_reserved.new.self.items ≡ c.self.inside.trace.items ++ last ∷ [] = c.push_reserved.ensures.items ∙ ap (λ (l : List Recorded). l ++ last ∷ []) c.in-Some.ensures.kept in
    let trace = trace_of-recorded c.self.inside.trace.items c.push_reserved.new.self.items last (asked_by c.args.step.now) (told_by c.step-reply.result) items c.in-Some.ensures.step c.of-told.ensures
    ∙ ap (λ (s : State g.row.E.Denot). trace_of s.trace ++ (asked_by c.args.step.now, told_by c.step-reply.result) ∷ []) is in
    let unblocked : is_blocked (told_by c.step-reply.result) ≡ false = sym c.is_blocked.ensures ∙ c.if-is_blocked.false in
    let alive = alive_of g.E.Store.life g.E.Store.tells c.self.inside.base.items (trace_of c.self.inside.trace.items) c.self.inside.engine c.self.invariant.0 in
    let room : is_full (told_by c.step-reply.result) ≡ false = (c.step-reply.ensures.reply alive).room in
    record {
      base = (ap (λ (s : State g.row.E.Denot). s.base) is, ap (λ (s : State g.row.E.Denot). s.cut) is, ap (λ (s : State g.row.E.Denot). s.kept) is, ap (λ (s : State g.row.E.Denot). s.handed) is);
      adds = λ _ _ _. (trace, c.add.ensures.amount);
      blocked = λ b. absurd (true≢false (sym b ∙ unblocked));
      full = λ f. absurd (true≢false (sym f ∙ room));
      memory = λ _. inl (trace, c.add.ensures.amount);
      either = inl (trace, c.add.ensures.amount);
    }

pub returns-clause-adds : goal.returns-clause-adds
returns-clause-adds g c _ _ _ =
    let added : Steps × Replies = (c.args.step.now, c.step-reply.result) in
    let grown : c.with.result.steps ≡ c.self.inside.history.steps ++ added ∷ [] = c.with.ensures in
    grown ∙ ap (λ (s : State g.row.E.Denot). s.history ++ added ∷ []) c.self.view_is

pub returns-clause-full : goal.returns-clause-full
returns-clause-full g c =
    let alive = alive_of g.E.Store.life g.E.Store.tells c.self.inside.base.items (trace_of c.self.inside.trace.items) c.self.inside.engine c.self.invariant.0 in
    let room : is_full (told_by c.step-reply.result) ≡ false = (c.step-reply.ensures.reply alive).room in (
      (λ f. absurd (true≢false (sym f ∙ room))),
      (λ q. absurd (true≢false (sym (search rules) ∙ c.if-is_refused.false))),
    )

pub returns-then-is_blocked-clause-suits : goal.returns-then-is_blocked-clause-suits
returns-then-is_blocked-clause-suits g c _ _ = (c.step-reply.ensures.reply (alive_of g.E.Store.life g.E.Store.tells c.self.inside.base.items (trace_of c.self.inside.trace.items) c.self.inside.engine c.self.invariant.0)).suits

pub returns-clause-suits : goal.returns-clause-suits
returns-clause-suits g c _ _ = (c.step-reply.ensures.reply (alive_of g.E.Store.life g.E.Store.tells c.self.inside.base.items (trace_of c.self.inside.trace.items) c.self.inside.engine c.self.invariant.0)).suits

pub returns-clause-same : goal.returns-clause-same
returns-clause-same g c f =
    let alive = alive_of g.E.Store.life g.E.Store.tells c.self.inside.base.items (trace_of c.self.inside.trace.items) c.self.inside.engine c.self.invariant.0 in
    absurd (true≢false (sym f ∙ (c.step-reply.ensures.reply alive).room))
