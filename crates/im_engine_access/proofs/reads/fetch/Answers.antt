use Rattle.std.proofs.Common.{◌≡◌, None, Some, sym, ◌∙◌, ap, inl, refl}
use Rattle.std.specs.FinMap.{get}
use Rattle.std.specs.FinMap.Entries.{find}
use Rattle.im_base_types.specs.Keys.{key_order}
use Rattle.im_base_types.specs.Pages.{Page}
use Rattle.im_page_writer.proofs.Outcomes.{out_of_memory, refused, sound_on, then, read_more}
use Rattle.im_page_writer.specs.Outcome.{mild}
use Rattle.im_theory_tree.specs.Levels.{walk}
use Rattle.im_theory_tree.proofs.LookupLemmas.{leaf_value}
use Rattle.im_tree_search.specs.Levels.{bodies_of}
use Rattle.im_tree_search.proofs.Sighted.{at_hidden, at_seen, but_still}
use Rattle.im_tree_search.proofs.Quiet.{on_still, quiet_then}
use Rattle.im_tree_search.proofs.Walks.{memory_not}
use Rattle.im_engine_access.proofs.Names.{found_is, option_none}
use Rattle.im_engine_access.proofs.reads.fetch.Goals as goal

pub returns-in_err-held-clause-outcome : goal.returns-in_err-held-clause-outcome
returns-in_err-held-clause-outcome g c = refused g.D.Disk c.from_residual.result c.from_residual.ensures.1 (read_more g.D.Disk mild refl c.in_err-held.ensures.outcome)

pub returns-in_err-held-clause-kept : goal.returns-in_err-held-clause-kept
returns-in_err-held-clause-kept g c pages m tree is = sound_on c.from_residual.result _ _ c.from_residual.ensures.1 (c.in_err-held.ensures.kept pages tree)

pub returns-in_default-clause-outcome : goal.returns-in_default-clause-outcome
returns-in_default-clause-outcome g c = read_more g.D.Disk mild refl c.in_ok-held.ensures.outcome

pub returns-in_default-clause-kept : goal.returns-in_default-clause-kept
returns-in_default-clause-kept g c pages m tree is = (inl (at_hidden c.in_ok-held.field-0 _ _ c.in_default.not-Seen (c.in_ok-held.ensures.kept pages tree)), refl)

pub returns-in_err-answer-clause-outcome : goal.returns-in_err-answer-clause-outcome
returns-in_err-answer-clause-outcome g c = refused g.D.Disk c.from_residual-in_err-answer.result c.from_residual-in_err-answer.ensures.1 (out_of_memory g.D.Disk c.in_err-answer.ensures.memory c.in_ok-held.ensures.outcome)

pub returns-in_err-answer-clause-kept : goal.returns-in_err-answer-clause-kept
returns-in_err-answer-clause-kept g c pages m tree is = sound_on c.from_residual-in_err-answer.result _ _ c.from_residual-in_err-answer.ensures.1 (memory_not _ c.in_err-answer.ensures.memory)

pub returns-in-Some-clause-outcome : goal.returns-in-Some-clause-outcome
returns-in-Some-clause-outcome g c = read_more g.D.Disk mild refl c.in_ok-held.ensures.outcome

pub returns-in-Some-clause-kept : goal.returns-in-Some-clause-kept
returns-in-Some-clause-kept g c pages m tree is =
    let key = c.args.key.now in
    let r = at_seen c.in_ok-held.field-0 c.in-Seen.held _ _ c.in-Seen.is (c.in_ok-held.ensures.kept pages tree) in
    let there : get m key ≡ Some c.in-Some.rid = found_is m (walk (bodies_of pages)) key (Some c.in-Some.rid) is
    (c.in-Some.ensures ∙ ap (λ (x : Page). find key_order key x.body.entries) (c.page.ensures.page ∙ r.reached.shown) ∙ sym (leaf_value (bodies_of pages) tree.spare key c.in-Seen.held.number tree.good r.reached.way)) in
    c.in_ok-answer.ensures.read m there

pub returns-clause-outcome : goal.returns-clause-outcome
returns-clause-outcome g c = then g.D.Disk c.in_ok-held.ensures.outcome c.fetch_gap.ensures.outcome

pub returns-clause-kept : goal.returns-clause-kept
returns-clause-kept g c pages m tree is =
    let key = c.args.key.now in
    let r = at_seen c.in_ok-held.field-0 c.in-Seen.held _ _ c.in-Seen.is (c.in_ok-held.ensures.kept pages tree) in
    let none : get m key ≡ None = found_is m (walk (bodies_of pages)) key c.value_of.result is
    (c.value_of.ensures ∙ ap (λ (x : Page). find key_order key x.body.entries) (c.page.ensures.page ∙ r.reached.shown) ∙ sym (leaf_value (bodies_of pages) tree.spare key c.in-Seen.held.number tree.good r.reached.way))
    ∙ option_none c.value_of.result c.in_default-value_of.not-Some in
    c.fetch_gap.ensures.kept pages m (but_still g.D.Disk tree c.in_ok-held.ensures.outcome) r.reached is none

pub returns-in_err-held-clause-quiet : goal.returns-in_err-held-clause-quiet
returns-in_err-held-clause-quiet g c set working on = c.in_err-held.ensures.quiet set working on.way

pub returns-in_default-clause-quiet : goal.returns-in_default-clause-quiet
returns-in_default-clause-quiet g c set working on = c.in_ok-held.ensures.quiet set working on.way

pub returns-in_err-answer-clause-quiet : goal.returns-in_err-answer-clause-quiet
returns-in_err-answer-clause-quiet g c set working on = c.in_ok-held.ensures.quiet set working on.way

pub returns-in-Some-clause-quiet : goal.returns-in-Some-clause-quiet
returns-in-Some-clause-quiet g c set working on = c.in_ok-held.ensures.quiet set working on.way

pub returns-clause-quiet : goal.returns-clause-quiet
returns-clause-quiet g c set working on =
    let e = c.in_ok-held.ensures in
    let still = e.quiet set working on.way in
    quiet_then still (c.fetch_gap.ensures.quiet set (on_still c.args.key.now set on still) (at_seen c.in_ok-held.field-0 c.in-Seen.held _ _ c.in-Seen.is (e.within set working on.way)))
