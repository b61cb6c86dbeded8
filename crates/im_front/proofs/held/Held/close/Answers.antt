use Rattle.im_front.specs.Traces.{trace_of}
use Rattle.im_front.proofs.Steps.{run_of}
use Rattle.im_front.proofs.held.Held.close.Goals as goal

pub returns-clause-run : goal.returns-clause-run
returns-clause-run g c tells = run_of g.E.Store.life c.self.inside.base.items (trace_of c.self.inside.trace.items) c.self.inside.engine (c.self.invariant.0 tells)
