use Rattle.std.proofs.Common.{Some, ◌∙◌, ap}
use Rattle.im_base_types.specs.Maps.{first_in}
use Rattle.im_base_types.specs.Pages.{Entry}
use Rattle.im_page_writer.proofs.Outcomes.{sound_on}
use Rattle.im_theory_tree.specs.Levels.{walk}
use Rattle.im_tree_search.specs.Levels.{bodies_of, start_at}
use Rattle.im_tree_search.proofs.Sighted.{at_hidden, at_seen}
use Rattle.im_engine_access.proofs.Names.{none_found, some_found}
use Rattle.im_engine_access.proofs.reads.found_from.Goals as goal

pub returns-in_err-found-clause-kept : goal.returns-in_err-found-clause-kept
returns-in_err-found-clause-kept g c pages tree = sound_on c.from_residual.result _ _ c.from_residual.ensures.1 (c.in_err-found.ensures.kept pages tree)

pub returns-in_default-clause-kept : goal.returns-in_default-clause-kept
returns-in_default-clause-kept g c pages tree = at_hidden c.in_ok-found.field-0 _ _ c.in_default.not-Seen (c.in_ok-found.ensures.kept pages tree)

pub returns-in_default-found-clause-kept : goal.returns-in_default-found-clause-kept
returns-in_default-found-clause-kept g c pages tree =
    none_found c.next_entry.new.writer.pool c.in-Seen.found (first_in (start_at c.args.inclusive c.args.key.now) (walk (bodies_of pages))) c.in_default-found.not-Some
    (at_seen c.in_ok-found.field-0 c.in-Seen.found _ _ c.in-Seen.is (c.in_ok-found.ensures.kept pages tree))

pub returns-clause-kept : goal.returns-clause-kept
returns-clause-kept g c pages tree =
    ap (λ (e : Entry). Some e) c.in_ok-entry.ensures.entry
    ∙ some_found c.next_entry.new.writer.pool c.in-Seen.found c.in-Some.place (first_in (start_at c.args.inclusive c.args.key.now) (walk (bodies_of pages))) c.page.result.now c.in-Some.is
    (at_seen c.in_ok-found.field-0 c.in-Seen.found _ _ c.in-Seen.is (c.in_ok-found.ensures.kept pages tree)) c.page.ensures.page
