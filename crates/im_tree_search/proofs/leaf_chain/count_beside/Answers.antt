use Rattle.std.proofs.Common.{sym, ◌∙◌, ap}
use Rattle.im_base_types.specs.Pages.{Page}
use Rattle.im_page_writer.proofs.Outcomes.{idle, sound_also}
use Rattle.im_tree_search.proofs.Quiet.{quiet_start}
use Rattle.im_tree_search.proofs.leaf_chain.count_beside.Goals as goal

pub returns-then-is_done-clause-outcome : goal.returns-then-is_done-clause-outcome
returns-then-is_done-clause-outcome g c = idle g.D.Disk g.met.D.Disk.only_now c.args.writer.now c.args.disk.now c.requires.working c.requires.ready

pub returns-then-is_done-clause-kept : goal.returns-then-is_done-clause-kept
returns-then-is_done-clause-kept g c pages tree = tree.count (sym c.is_done.ensures ∙ c.if-is_done.true)

pub returns-then-is_done-clause-quiet : goal.returns-then-is_done-clause-quiet
returns-then-is_done-clause-quiet g c holds = quiet_start c.args.writer.now c.args.disk.now

pub returns-clause-kept : goal.returns-clause-kept
returns-clause-kept g c pages tree =
    let same = tree.agrees 0 (sym c.is_done.ensures ∙ c.if-is_done.false) in
    sound_also c.page_count.result _ _ (c.page_count.ensures.kept tree.now tree.has (ap (λ (x : Page). x.body.kind) same ∙ tree.good.meta)) (λ count is. is ∙ ap (λ (x : Page). x.body.leftmost) same)

pub returns-clause-quiet : goal.returns-clause-quiet
returns-clause-quiet g c holds = c.page_count.ensures.quiet c.requires.working holds
