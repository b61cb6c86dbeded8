use Rattle.std.proofs.Common.{take}
use Rattle.im_engine_locks.specs.Requests.{row}
use Rattle.im_engine_locks.specs.Index.{IsLeast}
use Rattle.im_engine_locks.specs.InStep.{owned}
use Rattle.im_engine_locks.specs.Places.{is_rival_of}
use Rattle.im_engine_locks.proofs.rivals.smallest_rival.Given as goal

abbrev pub invariant-loop-request : goal.invariant-loop-request
invariant-loop-request l = IsLeast (is_rival_of l.names (owned l.owners) l.t (row (take l.request-index l.requests))) l.least
