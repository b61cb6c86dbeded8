use Rattle.std.proofs.Common.{subst, sym, take, ◌+◌, Option, ℕ}
use Rattle.im_engine_locks.specs.Requests.{row}
use Rattle.im_engine_locks.specs.Index.{IsLeast}
use Rattle.im_engine_locks.specs.InStep.{owned}
use Rattle.im_engine_locks.specs.Places.{is_rival_of}
use Rattle.im_engine_locks.proofs.Least.{is_rival_of-step, all-requests}
use Rattle.im_engine_locks.proofs.rivals.smallest_rival.Goals as goal

pub loop-request-preserved : goal.loop-request-preserved
loop-request-preserved c =
    subst (λ (o : Option ℕ). IsLeast (is_rival_of c.args.names.now (owned c.args.owners.now) c.args.t (row (take (c.loop-request.request-index + 1) c.args.requests.now))) o)
    (sym c.smaller-least.ensures)
    (is_rival_of-step c.args.names.now (owned c.args.owners.now) c.args.t c.args.requests.now c.loop-request.request-index _ c.loop-request.least c.smallest_rival.result c.loop-request-test.true c.loop-request.invariant c.smallest_rival.ensures)

pub returns : goal.returns
returns c = all-requests c.args.names.now (owned c.args.owners.now) c.args.t c.args.requests.now c.loop-request.request-index c.loop-request.least c.loop-request-test.false c.loop-request.invariant
