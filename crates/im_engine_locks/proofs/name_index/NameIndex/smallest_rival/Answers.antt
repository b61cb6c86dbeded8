use Rattle.std.proofs.Common.{subst, sym, ap, ◌∙◌, List}
use Rattle.im_engine_locks.specs.Requests.{named}
use Rattle.im_engine_locks.specs.Index.{IsLeast}
use Rattle.im_engine_locks.specs.InStep.{owned}
use Rattle.im_engine_locks.specs.Places.{is_rival, places_at}
use Rattle.im_engine_locks.specs.declared.name.Name.{Name}
use Rattle.im_engine_locks.specs.declared.place.Place.{Place}
use Rattle.im_engine_locks.proofs.name_index.NameIndex.smallest_rival.Goals as goal

pub returns-in-End : goal.returns-in-End
returns-in-End c =
    subst (λ (ps : List Place). IsLeast (is_rival ps (owned c.args.owners.now) c.args.t (named c.args.name) c.args.mode) c.smallest_among.result)
    (c.as_slice.ensures.value ∙ sym (ap (λ (n : Name). places_at c.args.self.now (named n)) c.in-End.is)) c.smallest_among.ensures
