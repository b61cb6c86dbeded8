use Rattle.std.proofs.Common.{rules, List, Some, None, ap, sym, ◌∙◌}
use Rattle.im_engine_locks.specs.Places.{is_among, listed}
use Rattle.im_engine_locks.specs.declared.place.Place.{Place}
use Rattle.im_engine_locks.proofs.Digests.{put_kept, put_there, was_there, without-kept, without-gone}
use Rattle.im_engine_locks.proofs.name_places.remove_at.Goals as goal

pub returns-then-take_out-clause-gone : goal.returns-then-take_out-clause-gone
returns-then-take_out-clause-gone c =
    ap (λ (ps : List Place). is_among ps c.args.place.owner c.args.place.span c.args.place.at) (put_there c.args.keys.now _ c.digest_of.result _ None c.digest_of.ensures (search rules))

pub returns-then-take_out-clause-kept : goal.returns-then-take_out-clause-kept
returns-then-take_out-clause-kept c = λ q s f i ne h.
    put_kept c.args.keys.now _ c.digest_of.result None (search rules) s f i
    (λ e. ap (λ (ps : List Place). is_among ps s f i) (sym (c.take_out.ensures.none c.if-take_out.true))
    ∙ without-kept c.args.place (listed c.get_mut.result.now) s f i ne (ap (λ (ps : List Place). is_among ps s f i) (was_there c.args.keys.now c.digest_of.result c.get_mut.result.now (search rules)) ∙ e)) q h

pub returns-else-take_out-clause-gone : goal.returns-else-take_out-clause-gone
returns-else-take_out-clause-gone c =
    ap (λ (ps : List Place). is_among ps c.args.place.owner c.args.place.span c.args.place.at) (put_there c.args.keys.now _ c.digest_of.result _ (Some c.take_out.new.self) c.digest_of.ensures (search rules))
    ∙ (ap (λ (ps : List Place). is_among ps c.args.place.owner c.args.place.span c.args.place.at) (c.take_out.ensures.left c.if-take_out.false) ∙ without-gone c.args.place (listed c.get_mut.result.now))

pub returns-else-take_out-clause-kept : goal.returns-else-take_out-clause-kept
returns-else-take_out-clause-kept c = λ q s f i ne h.
    put_kept c.args.keys.now _ c.digest_of.result (Some c.take_out.new.self) (search rules) s f i
    (λ e. ap (λ (ps : List Place). is_among ps s f i) (c.take_out.ensures.left c.if-take_out.false)
    ∙ without-kept c.args.place (listed c.get_mut.result.now) s f i ne (ap (λ (ps : List Place). is_among ps s f i) (was_there c.args.keys.now c.digest_of.result c.get_mut.result.now (search rules)) ∙ e)) q h
