use Rattle.std.proofs.Common.{sym, subst, ◌∙◌}
use Rattle.im_front.specs.Held.{State}
use Rattle.im_front.specs.Acknowledged.{WasIn}
use Rattle.im_front.proofs.Acknowledging.{both_ok, map_err}
use Rattle.im_front.proofs.front.Front.cut_trace.Goals as goal

pub returns-clause-causes : goal.returns-clause-causes
returns-clause-causes g c =
    let Holds : State g.row.E.Denot → Type 0 = λ s. WasIn g.E.Store s in
    let was = c.deref_mut.result.now in
    let now = c.cut_trace-done.new.self in
    let before : Holds was = subst Holds (c.deref.ensures ∙ sym c.deref_mut.ensures.value) c.law_holds_always.ensures.was in
    let after : Holds now = subst Holds c.deref-2.ensures c.law_holds_always-2.ensures.was in
    map_err c.cut_trace-done.result _ _ (λ fault why. record { was = was; now = now; both = (before, after); why = why }) c.cut_trace-done.ensures.cause

pub returns-clause-cut : goal.returns-clause-cut
returns-clause-cut g c =
    let Holds : State g.row.E.Denot → Type 0 = λ s. WasIn g.E.Store s in
    let was = c.deref_mut.result.now in
    let now = c.cut_trace-done.new.self in
    let before : Holds was = subst Holds (c.deref.ensures ∙ sym c.deref_mut.ensures.value) c.law_holds_always.ensures.was in
    let after : Holds now = subst Holds c.deref-2.ensures c.law_holds_always-2.ensures.was in
    both_ok c.cut_trace-done.result _ _ _ c.cut_trace-done.ensures.ok c.cut_trace-done.ensures.base
    (λ ok base. record { was = was; now = now; both = (before, after); emptied = (ok.0, ok.1, ok.2, c.cut_trace-done.ensures.same.0); base = base })
