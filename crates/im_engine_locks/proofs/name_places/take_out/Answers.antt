use Rattle.std.proofs.Common.{rules, ◌≡◌, List, not, ap, ◌∙◌}
use Rattle.std.proofs.lemmas.Fn.{filter_same}
use Rattle.im_engine_locks.specs.Places.{is_place, is_among, without}
use Rattle.im_engine_locks.specs.declared.place.Place.{Place}
use Rattle.im_engine_locks.proofs.Digests.{without-kept, without-gone}
use Rattle.im_engine_locks.proofs.name_places.take_out.Goals as goal

pub returns-clause-gone : goal.returns-clause-gone
returns-clause-gone c =
    let others : c.retain.new.self.items ≡ without c.args.place c.args.places.now.items =
    filter_same _ (λ (p : Place). not (is_place p c.args.place.owner c.args.place.span c.args.place.at)) _ (λ x b q h. search rules) _ _ c.retain.ensures.filtered in
    ap (λ (ps : List Place). is_among ps c.args.place.owner c.args.place.span c.args.place.at) others ∙ without-gone c.args.place c.args.places.now.items

pub returns-clause-kept : goal.returns-clause-kept
returns-clause-kept c = λ s f i ne h.
    let others : c.retain.new.self.items ≡ without c.args.place c.args.places.now.items =
    filter_same _ (λ (p : Place). not (is_place p c.args.place.owner c.args.place.span c.args.place.at)) _ (λ x b q h. search rules) _ _ c.retain.ensures.filtered in
    ap (λ (ps : List Place). is_among ps s f i) others ∙ without-kept c.args.place c.args.places.now.items s f i ne h
