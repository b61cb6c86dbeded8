use Rattle.std.proofs.Common.{◌≡◌, ◌+◌, [], length, ℕ, List, false, Ok, Err, sym, ap, ◌∙◌, subst, arith}
use Rattle.im_base_types.specs.declared.fault.Fault.TheVariants.{Failed, Busy}
use Rattle.std.specs.FinMap.{empty, entries}
use Rattle.im_base_types.specs.Changes.{apply_all}
use Rattle.im_base_types.specs.Lives.{nothing_shown}
use Rattle.im_front.specs.declared.recorded.Recorded.{Recorded}
use Rattle.im_front.specs.Traces.{trace_of}
use Rattle.im_front.specs.Events.{shown_in}
use Rattle.im_front.specs.Cuts.{ComesFirst}
use Rattle.im_front.specs.Made.AreMade.{looked}
use Rattle.im_front.specs.Locked.{seen_of}
use Rattle.im_front.specs.Held.{State, IsTallied, Stands, IsCut, WereKept}
use Rattle.im_front.proofs.Growing.{kept_cut}
use Rattle.im_front.proofs.Steps.{stands_cut, stands_life, stands_look, tallied_as, tallied_cut, none_waiting, rest_walk, is_cut, length-trace_of}
use Rattle.im_front.proofs.Cuts.{told_failed, told_busy, told_else}
use Rattle.im_front.proofs.held.Held.cut_trace.Goals as goal

pub invariant_of-self : goal.invariant_of-self
invariant_of-self g c =
    let i = c.self.invariant in (
      (λ tells.
          let h = i.0 tells in
          let look = c.in_err-base.ensures.kept h.before (shown_in nothing_shown h.events) h.view h.life_is in
          stands_look g.E.Store.life c.self.inside.base.items (trace_of c.self.inside.trace.items) c.self.inside.engine h c.entries.new.self look),
      tallied_as (trace_of c.self.inside.trace.items) (g.E.Store.actives c.self.inside.engine) (g.E.Store.waiting c.self.inside.engine) c.self.inside.cut c.self.inside.kept c.self.inside.counts i.1 (g.E.Store.actives c.entries.new.self) (g.E.Store.waiting c.entries.new.self) c.in_err-base.ensures.active
          c.in_err-base.ensures.waiting,
      i.2,
      i.3,
      i.4,
      i.5,
      i.6,
      i.7 ∙ sym c.in_err-base.ensures.waiting,
      i.8,
      i.9,
      (i.10.0, looked c.self.inside.history.steps c.self.inside.engine c.entries.new.self i.10.1 c.in_err-base.ensures.looked),
      (λ tells.
          let h = i.11 tells in
          let look = c.in_err-base.ensures.kept h.1.before (shown_in nothing_shown h.1.events) h.1.view h.1.life_is in
          (h.0, stands_look g.E.Store.life h.0 (seen_of c.self.inside.history.steps) c.self.inside.engine h.1 c.entries.new.self look)),
      i.12,
      i.13,
    )

pub invariant_of-self-2 : goal.invariant_of-self-2
invariant_of-self-2 g c =
    let i = c.self.invariant in
    let trace = trace_of c.self.inside.trace.items in
    let long = length-trace_of c.self.inside.trace.items in
    let cut : c.self.inside.cut + length (trace_of c.self.inside.trace.items) ≡ c.self.inside.cut + c.len-2.result = omega arith in
    let none_left = sym c.clear.ensures.items in
    let actives = g.E.Store.actives c.entries.new.self in
    let waiting = g.E.Store.waiting c.entries.new.self in
    let idle : actives ≡ 0 = c.in_ok-base.ensures.active ∙ sym c.active.ensures.count ∙ c.is_busy.ensures.free c.if-is_busy.false in
    let nobody = none_waiting waiting actives (g.met.E.Store.few c.entries.new.self) idle in
    let tallied = tallied_cut trace (g.E.Store.actives c.self.inside.engine) (g.E.Store.waiting c.self.inside.engine) c.self.inside.cut c.self.inside.kept c.self.inside.counts i.1 actives waiting c.in_ok-base.ensures.active nobody (omega arith) in
    let there : IsTallied [] actives waiting (c.self.inside.cut + c.len-2.result) c.self.inside.counts c.self.inside.counts = subst (λ (n : ℕ). IsTallied [] actives waiting n c.self.inside.counts c.self.inside.counts) cut tallied in (
      (λ tells.
          let h = i.0 tells in
          let list = c.in_ok-base.ensures.list h.before (shown_in nothing_shown h.events) h.view h.life_is in
          let running : h.view.failed ≡ false = sym (c.failed.ensures.machine h.before (shown_in nothing_shown h.events) h.view h.life_is) ∙ c.if-failed.false in
          let active = c.active.ensures.machine h.before (shown_in nothing_shown h.events) h.view h.life_is in
          let none : h.view.active ≡ 0 = sym active ∙ c.is_busy.ensures.free c.if-is_busy.false in
          let walk = rest_walk g.E.Store.life c.self.inside.base.items trace c.self.inside.engine h (c.law_isolation.ensures (apply_all empty h.before) h.first) running none in
          let settled = g.met.E.Store.settles h.before (shown_in nothing_shown h.events) h.view c.entries.new.self list.1 running none in
          let stands = stands_cut g.E.Store.life c.self.inside.base.items trace c.self.inside.engine h c.entries.new.self c.in_ok-base.field-0.items none settled (list.0 ∙ ap entries walk) in
          subst (λ (l : List Recorded). Stands g.E.Store.life c.in_ok-base.field-0.items (trace_of l) c.entries.new.self) none_left stands),
      subst (λ (l : List Recorded). IsTallied (trace_of l) actives waiting (c.self.inside.cut + c.len-2.result) c.self.inside.counts c.self.inside.counts) none_left there,
      (let empty_now = ap length c.clear.ensures.items in omega (arith, i.2, empty_now)),
      i.3,
      i.4,
      i.5,
      i.6,
      i.7 ∙ sym c.in_ok-base.ensures.waiting,
      i.8,
      (let empty_now = ap length c.clear.ensures.items in omega (arith, i.9, empty_now)),
      (i.10.0, looked c.self.inside.history.steps c.self.inside.engine c.entries.new.self i.10.1 c.in_ok-base.ensures.looked),
      (λ tells.
          let h = i.11 tells in
          let list = c.in_ok-base.ensures.list h.1.before (shown_in nothing_shown h.1.events) h.1.view h.1.life_is in
          (h.0, stands_life g.E.Store.life h.0 (seen_of c.self.inside.history.steps) c.self.inside.engine h.1 c.entries.new.self list.1)),
      subst (λ (l : List Recorded). WereKept (seen_of c.self.inside.history.steps) (c.self.inside.cut + c.len-2.result) c.self.inside.counts (trace_of l)) none_left
          (subst (λ (n : ℕ). WereKept (seen_of c.self.inside.history.steps) n c.self.inside.counts []) cut (
          kept_cut (seen_of c.self.inside.history.steps) trace c.self.inside.cut c.self.inside.kept c.self.inside.counts i.12 i.1.counted (sym i.1.waits ∙ sym c.in_ok-base.ensures.waiting ∙ nobody) (let balanced = there.balanced in omega (arith, balanced, idle))
          )),
      i.13,
    )

pub returns-clause-base : goal.returns-clause-base
returns-clause-base g c tells =
    let h = c.self.invariant.0 tells in
    let trace = trace_of c.self.inside.trace.items in
    let list = c.in_ok-base.ensures.list h.before (shown_in nothing_shown h.events) h.view h.life_is in
    let running : h.view.failed ≡ false = sym (c.failed.ensures.machine h.before (shown_in nothing_shown h.events) h.view h.life_is) ∙ c.if-failed.false in
    let active = c.active.ensures.machine h.before (shown_in nothing_shown h.events) h.view h.life_is in
    let none : h.view.active ≡ 0 = sym active ∙ c.is_busy.ensures.free c.if-is_busy.false in
    let walk = rest_walk g.E.Store.life c.self.inside.base.items trace c.self.inside.engine h (c.law_isolation.ensures (apply_all empty h.before) h.first) running none in
    let settled = g.met.E.Store.settles h.before (shown_in nothing_shown h.events) h.view c.entries.new.self list.1 running none in
    let is = is_cut g.E.Store.life c.self.inside.base.items trace c.self.inside.engine h c.in_ok-base.field-0.items running settled.0 (list.0 ∙ ap entries walk) in
    subst (λ (s : State g.row.E.Denot). IsCut s.base c.in_ok-base.field-0.items (trace_of s.trace)) c.self.view_is is

pub returns-then-failed-clause-first : goal.returns-then-failed-clause-first
returns-then-failed-clause-first g c =
    subst (λ (s : State g.row.E.Denot). ComesFirst g.E.Store s.engine (Err Failed)) c.self.view_is (told_failed g.E.Store c.self.inside.engine c.failed.result c.failed.ensures.machine c.if-failed.true)

pub returns-then-is_busy-clause-first : goal.returns-then-is_busy-clause-first
returns-then-is_busy-clause-first g c =
    subst (λ (s : State g.row.E.Denot). ComesFirst g.E.Store s.engine (Err Busy)) c.self.view_is (told_busy g.E.Store c.self.inside.engine c.failed.result c.failed.ensures.machine c.if-failed.false)

pub returns-clause-first : goal.returns-clause-first
returns-clause-first g c =
    subst (λ (s : State g.row.E.Denot). ComesFirst g.E.Store s.engine (Ok tt)) c.self.view_is (
    told_else g.E.Store c.self.inside.engine c.failed.result c.failed.ensures.machine c.if-failed.false c.active.result c.active.ensures.machine (c.is_busy.ensures.free c.if-is_busy.false) (Ok tt)
    (sym c.active.ensures.count ∙ c.is_busy.ensures.free c.if-is_busy.false)
    )
