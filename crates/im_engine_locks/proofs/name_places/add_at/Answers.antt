use Rattle.std.proofs.Common.{rules, List, Some, ap, ◌∙◌}
use Rattle.im_engine_locks.specs.Places.{is_among}
use Rattle.im_engine_locks.specs.declared.place.Place.{Place}
use Rattle.im_engine_locks.proofs.Digests.{put_kept, was_there}
use Rattle.im_engine_locks.proofs.name_places.add_at.Goals as goal

pub returns-in-Occupied-clause-kept : goal.returns-in-Occupied-clause-kept
returns-in-Occupied-clause-kept c = λ q s f i h.
    put_kept c.args.keys.now _ c.digest_of.result (Some c.add_in.new.bucket) (search rules) s f i
    (λ e. c.add_in.ensures.kept s f i (ap (λ (ps : List Place). is_among ps s f i) (was_there c.args.keys.now c.digest_of.result c.into_mut.result.now (search rules)) ∙ e)) q h
