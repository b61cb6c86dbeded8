use Rattle.std.proofs.Common.{◌∙◌, sym, ap, subst}
use Rattle.im_base_types.specs.Pages.{Page}
use Rattle.im_page_writer.proofs.Outcomes.{sound_on}
use Rattle.im_theory_tree.specs.Levels.{height}
use Rattle.im_theory_tree.proofs.Way.{way_begins}
use Rattle.im_tree_search.specs.Levels.{HasLevel, bodies_of}
use Rattle.im_tree_search.specs.Sights.{is_done}
use Rattle.im_tree_search.proofs.Sighted.{hidden_ok, hidden_reads, hidden_sound, some_done}
use Rattle.im_tree_search.proofs.Steps.{root_level, root_shown}
use Rattle.im_tree_search.proofs.descent.root_beside.Goals as goal

pub returns-then-is_done-clause-outcome : goal.returns-then-is_done-clause-outcome
returns-then-is_done-clause-outcome g c = hidden_reads g.D.Disk c.args.writer.now c.args.disk.now c.hidden.result c.hidden.ensures.works c.hidden.ensures.failed g.met.D.Disk.only_now c.requires.ready

pub returns-then-is_done-clause-kept : goal.returns-then-is_done-clause-kept
returns-then-is_done-clause-kept g c pages key tree =
    hidden_sound g.D.Disk c.args.writer.now c.args.disk.now c.hidden.result c.hidden.ensures.works c.hidden.ensures.failed _ _
    (record { level = height (bodies_of pages); page = 1; way = way_begins (bodies_of pages) tree.spare key tree.good; made = sym c.is_done.ensures ∙ c.if-is_done.true })

pub returns-then-is_done-clause-settled : goal.returns-then-is_done-clause-settled
returns-then-is_done-clause-settled g c = hidden_ok g.D.Disk c.args.writer.now c.args.disk.now c.hidden.result c.hidden.ensures.works c.hidden.ensures.failed _ _ (some_done c.args.beside 1 (sym c.is_done.ensures ∙ c.if-is_done.true))

pub returns-then-is_done-clause-root : goal.returns-then-is_done-clause-root
returns-then-is_done-clause-root g c = hidden_ok g.D.Disk c.args.writer.now c.args.disk.now c.hidden.result c.hidden.ensures.works c.hidden.ensures.failed _ _ tt

pub returns-then-is_done-clause-gets : goal.returns-then-is_done-clause-gets
returns-then-is_done-clause-gets g c = hidden_ok g.D.Disk c.args.writer.now c.args.disk.now c.hidden.result c.hidden.ensures.works c.hidden.ensures.failed _ _ tt

pub returns-in_err-frame-clause-kept : goal.returns-in_err-frame-clause-kept
returns-in_err-frame-clause-kept g c pages key tree =
    let one = tree.agrees 1 (sym c.is_done.ensures ∙ c.if-is_done.false) in
    sound_on c.from_residual.result _ _ c.from_residual.ensures.1 (c.in_err-frame.ensures.kept tree.now tree.has (subst (λ (x : Page). HasLevel x.body.level x.body) (sym one) (root_level pages key tree.spare tree.good)))

pub returns-clause-kept : goal.returns-clause-kept
returns-clause-kept g c pages key tree =
    let one = tree.agrees 1 (sym c.is_done.ensures ∙ c.if-is_done.false) in
    let shown = c.in_ok-frame.ensures.kept tree.now tree.has (subst (λ (x : Page). HasLevel x.body.level x.body) (sym one) (root_level pages key tree.spare tree.good)) in
    root_shown pages key c.in_ok-frame.frame.number c.root_page.new.writer.pool tree.spare tree.good (shown ∙ one) c.in_ok-frame.ensures.root

pub returns-clause-settled : goal.returns-clause-settled
returns-clause-settled g c =
    let e = c.in_ok-frame.ensures in
    record { at = e.held.at; level = e.held.level; clear = ap (is_done c.args.beside) e.root ∙ sym c.is_done.ensures ∙ c.if-is_done.false }

pub returns-in_err-frame-clause-quiet : goal.returns-in_err-frame-clause-quiet
returns-in_err-frame-clause-quiet g c working holds = c.in_err-frame.ensures.quiet working holds

pub returns-clause-quiet : goal.returns-clause-quiet
returns-clause-quiet g c working holds = c.in_ok-frame.ensures.quiet working holds
