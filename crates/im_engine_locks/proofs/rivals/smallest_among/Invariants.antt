use Rattle.std.proofs.Common.{take}
use Rattle.im_engine_locks.specs.Requests.{named}
use Rattle.im_engine_locks.specs.Index.{IsLeast}
use Rattle.im_engine_locks.specs.InStep.{owned}
use Rattle.im_engine_locks.specs.Places.{is_rival}
use Rattle.im_engine_locks.proofs.rivals.smallest_among.Given as goal

abbrev pub invariant-loop-place : goal.invariant-loop-place
invariant-loop-place l = IsLeast (is_rival (take l.place-index l.places) (owned l.owners) l.t (named l.name) l.mode) l.least
