use Rattle.std.proofs.Common.{subst, sym, ap, ◌∙◌, take, ◌+◌, Option, ℕ}
use Rattle.im_engine_locks.specs.Requests.{named}
use Rattle.im_engine_locks.specs.Index.{IsLeast, smaller_of}
use Rattle.im_engine_locks.specs.InStep.{owned}
use Rattle.im_engine_locks.specs.Places.{is_rival}
use Rattle.im_engine_locks.proofs.Least.{is_rival-step, all-places}
use Rattle.im_engine_locks.proofs.rivals.smallest_among.Goals as goal

pub loop-place-preserved : goal.loop-place-preserved
loop-place-preserved c =
    subst (λ (o : Option ℕ). IsLeast (is_rival (take (c.loop-place.place-index + 1) c.args.places.now) (owned c.args.owners.now) c.args.t (named c.args.name) c.args.mode) o)
    (sym (c.smaller-least.ensures ∙ ap (smaller_of c.loop-place.least) c.rival.ensures))
    (is_rival-step c.args.places.now c.loop-place.place-index _ (owned c.args.owners.now) c.args.t (named c.args.name) c.args.mode c.loop-place.least c.loop-place-test.true c.loop-place.invariant)

pub returns : goal.returns
returns c = all-places c.args.places.now c.loop-place.place-index (owned c.args.owners.now) c.args.t (named c.args.name) c.args.mode c.loop-place.least c.loop-place-test.false c.loop-place.invariant
