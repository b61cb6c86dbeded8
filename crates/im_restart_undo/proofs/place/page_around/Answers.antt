use Rattle.std.proofs.Common.{◌≡◌, false, refl, sym, subst}
use Rattle.std.specs.Bool.{IsTrue}
use Rattle.im_base_types.specs.Pages.{Body}
use Rattle.im_page_writer.proofs.Outcomes.{sound_on}
use Rattle.im_tree_search.specs.Levels.{bodies_of}
use Rattle.im_restart_undo.specs.Place.{HasGap}
use Rattle.im_restart_undo.proofs.PlaceLaws.{way_of_gap}
use Rattle.im_restart_undo.proofs.PlaceCalls.{lent_says, way_held}
use Rattle.im_restart_undo.proofs.place.page_around.Goals as goal
use Rattle.im_smo_actions.proofs.Changes.{none_of}

pub returns-in_err-frame-clause-kept : goal.returns-in_err-frame-clause-kept
returns-in_err-frame-clause-kept g c pages whole = sound_on c.from_residual.result _ _ c.from_residual.ensures.1 (c.in_err-frame.ensures.kept pages whole)

pub returns-in_default-clause-kept : goal.returns-in_default-clause-kept
returns-in_default-clause-kept g c pages whole =
    let found = c.in_ok-frame.ensures.kept pages whole in
    record { held = tt; none = λ none wanted. found.none (none_of c.in_ok-frame.field-0 c.in_default.not-Some) wanted.0 }

pub returns-then-not-has_gap-clause-kept : goal.returns-then-not-has_gap-clause-kept
returns-then-not-has_gap-clause-kept g c pages whole =
    let says : c.page.result.now.body ≡ bodies_of pages c.args.page =
    lent_says pages c.known_leaf.new.writer.pool c.in_ok-frame.field-0 c.in-Some.frame c.in-Some.is c.args.page _ c.page.result.now (c.in_ok-frame.ensures.kept pages whole) c.in_ok-frame.ensures.frame c.page.ensures.page in
    record {
      held = tt;
      none = λ none wanted. let no : IsTrue false = c.if-not-has_gap.ensures.1 (subst (λ (x : Body). HasGap x c.args.key.now) (sym says) wanted.1) in let never : ⊥ = cc no in never;
    }

pub returns-clause-kept : goal.returns-clause-kept
returns-clause-kept g c pages whole =
    way_held pages c.known_leaf.new.writer.pool c.in_ok-frame.field-0 c.in-Some.frame c.in-Some.is c.args.key.now _ _ c.page.result.now (c.in_ok-frame.ensures.kept pages whole) c.page.ensures.page
    (λ known says. way_of_gap (bodies_of pages) c.in-Some.frame.number c.args.key.now whole.good known ((subst (λ (x : Body). HasGap x c.args.key.now) says (c.if-not-has_gap.ensures.0 refl)).between))
