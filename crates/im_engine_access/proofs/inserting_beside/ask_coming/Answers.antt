use Rattle.std.proofs.Common.{◌≡◌, Bool, ◌∙◌, ap, inr, refl}
use Rattle.im_base_types.specs.Pages.{Page}
use Rattle.im_page_writer.proofs.Outcomes.{out_of_memory, refused, sound_on, read_more}
use Rattle.im_page_writer.specs.Outcome.{mild}
use Rattle.im_theory_tree.specs.Levels.{walk}
use Rattle.im_theory_machine.specs.Rows.{next_name}
use Rattle.im_tree_search.specs.Levels.{bodies_of}
use Rattle.im_tree_search.proofs.Sighted.{at_hidden, at_seen}
use Rattle.im_tree_search.proofs.Walks.{memory_not}
use Rattle.im_engine_locks.specs.Requests.{row}
use Rattle.im_engine_access.specs.Barred.{meets}
use Rattle.im_engine_access.specs.ChangePlans.{asks_row}
use Rattle.im_engine_access.specs.LockAnswers.{name_in}
use Rattle.im_engine_access.proofs.Comings.{coming_decided}
use Rattle.im_engine_access.proofs.Names.{next_is}
use Rattle.im_engine_access.proofs.inserting_beside.ask_coming.Goals as goal

pub returns-in_err-leaf-clause-outcome : goal.returns-in_err-leaf-clause-outcome
returns-in_err-leaf-clause-outcome g c = refused g.D.Disk c.from_residual.result c.from_residual.ensures.1 (read_more g.D.Disk mild refl c.in_err-leaf.ensures.outcome)

pub returns-in_err-leaf-clause-kept : goal.returns-in_err-leaf-clause-kept
returns-in_err-leaf-clause-kept g c pages m rid tree reached is none = sound_on c.from_residual.result _ _ c.from_residual.ensures.1 (c.in_err-leaf.ensures.kept pages tree reached)

pub returns-in_default-clause-outcome : goal.returns-in_default-clause-outcome
returns-in_default-clause-outcome g c = read_more g.D.Disk mild refl c.in_ok-leaf.ensures.outcome

pub returns-in_default-clause-kept : goal.returns-in_default-clause-kept
returns-in_default-clause-kept g c pages m rid tree reached is none = (meets (inr (none, at_hidden c.in_ok-leaf.field-0 _ _ c.in_default.not-Seen (c.in_ok-leaf.ensures.kept pages tree reached))), refl)

pub returns-in_err-verdict-clause-outcome : goal.returns-in_err-verdict-clause-outcome
returns-in_err-verdict-clause-outcome g c = refused g.D.Disk c.from_residual-in_err-verdict.result c.from_residual-in_err-verdict.ensures.1 (out_of_memory g.D.Disk c.in_err-verdict.ensures.refused.0 c.in_ok-leaf.ensures.outcome)

pub returns-in_err-verdict-clause-kept : goal.returns-in_err-verdict-clause-kept
returns-in_err-verdict-clause-kept g c pages m rid tree reached is none = sound_on c.from_residual-in_err-verdict.result _ _ c.from_residual-in_err-verdict.ensures.1 (memory_not _ c.in_err-verdict.ensures.refused.0)

pub returns-clause-outcome : goal.returns-clause-outcome
returns-clause-outcome g c = read_more g.D.Disk mild refl c.in_ok-leaf.ensures.outcome

pub returns-clause-kept : goal.returns-clause-kept
returns-clause-kept g c pages m rid tree reached is none =
    let key = c.args.key.now in
    let r = at_seen c.in_ok-leaf.field-0 (c.in-Seen.leaf, c.in-Seen.next) _ _ c.in-Seen.is (c.in_ok-leaf.ensures.kept pages tree reached) in
    let name : name_in c.page.result.now.body.entries c.in-Seen.next ≡ next_name m key =
    ap (λ (x : Page). name_in x.body.entries c.in-Seen.next) c.page.ensures.page ∙ next_is m (walk (bodies_of pages)) key c.next_in_leaf_beside.new.writer.pool c.in-Seen.leaf.number c.in-Seen.next is r.name in
    let begun = λ (x : Bool). asks_row x key rid m in
    let asks = ap row c.as_slice.ensures ∙ c.row_for-row.ensures m rid none (c.name_in.ensures ∙ name) ∙ ap begun c.lasts.ensures in
    coming_decided c.args.stepped c.args.coming c.args.locks.now c.try_all.new.self c.args.transaction key rid m _ c.in_ok-verdict.verdict c.outcome_of.result none c.in_ok-verdict.ensures.decided asks c.outcome_of.ensures.verdict c.outcome_of.ensures.value
