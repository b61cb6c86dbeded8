use Rattle.std.proofs.Common.{subst, sym, ap, ◌∙◌, List, Option, ℕ}
use Rattle.im_engine_locks.specs.Requests.{named}
use Rattle.im_engine_locks.specs.Index.{IsLeast, smaller_of}
use Rattle.im_engine_locks.specs.InStep.{owned}
use Rattle.im_engine_locks.specs.Places.{is_rival, listed}
use Rattle.im_engine_locks.specs.declared.place.Place.{Place}
use Rattle.im_engine_locks.proofs.Least.{rival-first}
use Rattle.im_engine_locks.proofs.bucket.Bucket.smallest_rival.Goals as goal

pub returns : goal.returns
returns c =
    subst (λ (o : Option ℕ). IsLeast (is_rival (listed c.args.self.now) (owned c.args.owners.now) c.args.t (named c.args.name) c.args.mode) o)
    (sym (c.smaller.ensures ∙ ap (λ o. smaller_of o c.smallest_among.result) c.rival.ensures))
    (rival-first c.args.self.now.first c.args.self.now.more.items (owned c.args.owners.now) c.args.t (named c.args.name) c.args.mode c.smallest_among.result
    (subst (λ (ps : List Place). IsLeast (is_rival ps (owned c.args.owners.now) c.args.t (named c.args.name) c.args.mode) c.smallest_among.result) c.as_slice.ensures.value c.smallest_among.ensures))
