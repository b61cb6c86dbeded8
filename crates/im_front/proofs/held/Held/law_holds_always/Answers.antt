use Rattle.std.proofs.Common.{rules, subst, ◌∙◌}
use Rattle.im_front.specs.Held.{State}
use Rattle.im_front.specs.Acknowledged.{WasIn}
use Rattle.im_front.proofs.Acknowledging.{held_of}
use Rattle.im_front.proofs.Steps.{run_of}
use Rattle.im_front.specs.Traces.{trace_of}
use Rattle.im_front.proofs.held.Held.law_holds_always.Goals as goal

pub returns-clause-was : goal.returns-clause-was
returns-clause-was g c =
    let i = c.self.invariant in
    subst (λ (s : State g.row.E.Denot). WasIn g.E.Store s) c.self.view_is (record {
      held = held_of g.E.Store c.self.inside.history.steps c.self.inside.engine c.self.inside.waiting c.self.inside.forces i.10 i.11 i.8 i.13 i.7;
      kept = i.12;
      counted = search rules;
      waiting = i.7 ∙ i.1.waits;
      run = λ tells. run_of g.E.Store.life c.self.inside.base.items (trace_of c.self.inside.trace.items) c.self.inside.engine (i.0 tells);
    })
