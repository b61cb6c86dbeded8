use Rattle.std.proofs.Common.{◌<◌, Option, length, sym, ◌∙◌, ap, subst}
use Rattle.std.specs.Prelude.{IfSome}
use Rattle.im_base_types.specs.Maps.{Above, first_in}
use Rattle.im_base_types.specs.Pages.{Page}
use Rattle.im_page_writer.proofs.Outcomes.{sound_on}
use Rattle.im_theory_tree.specs.Levels.{walk}
use Rattle.im_tree_search.specs.declared.entry_place.EntryPlace.{EntryPlace}
use Rattle.im_tree_search.specs.declared.next_key.NextKey.{NextKey}
use Rattle.im_tree_search.specs.Levels.{bodies_of}
use Rattle.im_tree_search.specs.Found.{IsFirstOf}
use Rattle.im_tree_search.specs.NextKeys.{far_name, IsFar}
use Rattle.im_tree_search.proofs.Sighted.{at_hidden, at_seen}
use Rattle.im_tree_search.proofs.NextNames.{named_none, named_some}
use Rattle.im_tree_search.proofs.next_key.name_along.Goals as goal

pub page-requires : goal.page-requires
page-requires g c = (subst (λ (o : Option EntryPlace). IfSome o (IsFirstOf (Above c.args.key.now) c.first_along.new.writer.pool)) c.in-Some.is (at_seen c.in_ok-found.field-0 c.in-Seen.found _ _ c.in-Seen.is c.in_ok-found.ensures.first)).held

pub copied-requires : goal.copied-requires
copied-requires g c =
    let first = subst (λ (o : Option EntryPlace). IfSome o (IsFirstOf (Above c.args.key.now) c.first_along.new.writer.pool)) c.in-Some.is (at_seen c.in_ok-found.field-0 c.in-Seen.found _ _ c.in-Seen.is c.in_ok-found.ensures.first) in
    subst (λ (x : Page). c.in-Some.place.at < length x.body.entries) (sym c.page.ensures.page) first.within

pub returns-in_err-found-clause-kept : goal.returns-in_err-found-clause-kept
returns-in_err-found-clause-kept g c pages tree ahead comes = sound_on c.from_residual.result _ _ c.from_residual.ensures.1 (c.in_err-found.ensures.kept pages tree ahead comes)

pub returns-in_default-clause-kept : goal.returns-in_default-clause-kept
returns-in_default-clause-kept g c pages tree ahead comes = at_hidden c.in_ok-found.field-0 _ _ c.in_default.not-Seen (c.in_ok-found.ensures.kept pages tree ahead comes)

pub returns-in_default-clause-far : goal.returns-in_default-clause-far
returns-in_default-clause-far g c = at_hidden c.in_ok-found.field-0 _ _ c.in_default.not-Seen c.in_ok-found.ensures.first

pub returns-in_default-found-clause-kept : goal.returns-in_default-found-clause-kept
returns-in_default-found-clause-kept g c pages tree ahead comes =
    named_none c.first_along.new.writer.pool c.in-Seen.found (first_in (Above c.args.key.now) (walk (bodies_of pages))) c.in_default-found.not-Some (at_seen c.in_ok-found.field-0 c.in-Seen.found _ _ c.in-Seen.is (c.in_ok-found.ensures.kept pages tree ahead comes))

pub returns-clause-kept : goal.returns-clause-kept
returns-clause-kept g c pages tree ahead comes =
    ap far_name c.copied.ensures
    ∙ named_some c.first_along.new.writer.pool c.in-Seen.found c.in-Some.place (first_in (Above c.args.key.now) (walk (bodies_of pages))) c.page.result.now c.in-Some.is
    (at_seen c.in_ok-found.field-0 c.in-Seen.found _ _ c.in-Seen.is (c.in_ok-found.ensures.kept pages tree ahead comes)) c.page.ensures.page

pub returns-clause-far : goal.returns-clause-far
returns-clause-far g c = subst (λ (n : NextKey). IsFar n) (sym c.copied.ensures) tt

pub returns-in_err-found-clause-quiet : goal.returns-in_err-found-clause-quiet
returns-in_err-found-clause-quiet g c set on from = c.in_err-found.ensures.quiet set on from

pub returns-in_default-clause-quiet : goal.returns-in_default-clause-quiet
returns-in_default-clause-quiet g c set on from = c.in_ok-found.ensures.quiet set on from

pub returns-in_default-found-clause-quiet : goal.returns-in_default-found-clause-quiet
returns-in_default-found-clause-quiet g c set on from = c.in_ok-found.ensures.quiet set on from

pub returns-clause-quiet : goal.returns-clause-quiet
returns-clause-quiet g c set on from = c.in_ok-found.ensures.quiet set on from
