use Rattle.std.proofs.Common.{◌≡◌, take, map, false}
use Rattle.im_engine_locks.specs.Requests.{named}
use Rattle.im_engine_locks.specs.Index.{seen}
use Rattle.im_engine_locks.specs.Places.{finds}
use Rattle.im_engine_locks.proofs.bucket.finds.Given as goal

abbrev pub invariant-loop-place : goal.invariant-loop-place
invariant-loop-place l = finds (take l.place-index l.places) l.owner l.span (map seen l.locks) (named l.name) l.mode ≡ false
