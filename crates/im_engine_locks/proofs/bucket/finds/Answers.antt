use Rattle.std.proofs.Common.{map, sym, ◌∙◌}
use Rattle.im_engine_locks.specs.Requests.{named}
use Rattle.im_engine_locks.specs.Index.{seen}
use Rattle.im_engine_locks.proofs.Locked.{finds-at, finds-step}
use Rattle.im_engine_locks.proofs.bucket.finds.Goals as goal

pub returns-then-is_found : goal.returns-then-is_found
returns-then-is_found c =
    sym (finds-at c.args.places.now c.loop-place.place-index _ c.args.owner c.args.span (map seen c.args.locks.now) (named c.args.name) c.args.mode c.loop-place-test.true (sym c.is_found.ensures ∙ c.if-is_found.true))

pub loop-place-preserved : goal.loop-place-preserved
loop-place-preserved c =
    finds-step c.args.places.now c.loop-place.place-index _ c.args.owner c.args.span (map seen c.args.locks.now) (named c.args.name) c.args.mode c.loop-place-test.true c.loop-place.invariant (sym c.is_found.ensures ∙ c.if-is_found.false)
