use Rattle.std.proofs.Common.{rules, ◌≡◌, ◌∷◌, not, ap, sym, ◌∙◌}
use Rattle.std.proofs.lemmas.Fn.{filter_same}
use Rattle.im_engine_locks.specs.Places.{is_place, without}
use Rattle.im_engine_locks.specs.declared.place.Place.{Place}
use Rattle.im_engine_locks.proofs.Digests.{without_first, without_this, first_moved, no_items, some_items}
use Rattle.im_engine_locks.proofs.bucket.Bucket.take_out.Goals as goal

pub returns-then-not-is-clause-left : goal.returns-then-not-is-clause-left
returns-then-not-is-clause-left c = λ e.
    let others : c.retain.new.self.items ≡ without c.args.place c.args.self.now.more.items =
    filter_same _ (λ (p : Place). not (is_place p c.args.place.owner c.args.place.span c.args.place.at)) _ (λ x b q h. search rules) _ _ c.retain.ensures.filtered in
    ap (λ ps. c.args.self.now.first ∷ ps) others
    ∙ sym (without_first c.args.place c.args.self.now.first c.args.self.now.more.items (sym c.is.ensures ∙ c.if-not-is.true))

pub returns-then-is_empty-clause-none : goal.returns-then-is_empty-clause-none
returns-then-is_empty-clause-none c = λ e.
    let others : c.retain.new.self.items ≡ without c.args.place c.args.self.now.more.items =
    filter_same _ (λ (p : Place). not (is_place p c.args.place.owner c.args.place.span c.args.place.at)) _ (λ x b q h. search rules) _ _ c.retain.ensures.filtered in
    without_this c.args.place c.args.self.now.first c.args.self.now.more.items (sym c.is.ensures ∙ c.if-not-is.false)
    ∙ (sym others ∙ no_items c.retain.new.self (sym c.is_empty.ensures ∙ c.if-is_empty.true))

pub returns-clause-left : goal.returns-clause-left
returns-clause-left c = λ e.
    let others : c.retain.new.self.items ≡ without c.args.place c.args.self.now.more.items =
    filter_same _ (λ (p : Place). not (is_place p c.args.place.owner c.args.place.span c.args.place.at)) _ (λ x b q h. search rules) _ _ c.retain.ensures.filtered in
    first_moved c.retain.new.self.items c.remove-self.new.self.items c.remove-self.result (some_items c.retain.new.self (sym c.is_empty.ensures ∙ c.if-is_empty.false)) c.remove-self.ensures.value c.remove-self.ensures.items
    ∙ (others
    ∙ sym (without_this c.args.place c.args.self.now.first c.args.self.now.more.items (sym c.is.ensures ∙ c.if-not-is.false)))
