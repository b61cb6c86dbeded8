use Rattle.std.proofs.Common.{◌≡◌, ℕ, sym, ap, ◌∙◌, subst}
use Rattle.std.specs.Prelude.{IfOk}
use Rattle.im_base_types.specs.Pages.{Body, Page}
use Rattle.im_page_pool.specs.Pool.{page_at}
use Rattle.im_page_writer.proofs.Outcomes.{handed_on, pages_to, search_of, sound_on}
use Rattle.im_tree_search.specs.Children.{IsChildOf}
use Rattle.im_tree_search.specs.Levels.{HasLevel}
use Rattle.im_tree_search.proofs.Calls.{bytes_refused, sound_always}
use Rattle.im_tree_search.proofs.level_and_child.child_of.Goals as goal

pub returns-in_err-frame-clause-kept : goal.returns-in_err-frame-clause-kept
returns-in_err-frame-clause-kept g c pages has some level = sound_on c.from_residual.result _ _ c.from_residual.ensures.1 (c.in_err-frame.ensures.kept pages (pages_to g.D.Disk c.args.number has))

pub returns-clause-outcome : goal.returns-clause-outcome
returns-clause-outcome g c = bytes_refused g.D.Disk c.child_in.result c.child_in.ensures.refused (search_of g.D.Disk c.in_ok-frame.ensures.outcome)

pub returns-clause-kept : goal.returns-clause-kept
returns-clause-kept g c pages has some level =
    let got = c.in_ok-frame.ensures.kept pages (pages_to g.D.Disk c.args.number has) in
    let same : c.page.result.now.body ≡ (pages c.args.number).body = ap (λ (p : Page). p.body) (c.page.ensures.page ∙ ap (λ (n : ℕ). page_at c.get.new.self.pool n) c.in_ok-frame.ensures.frame ∙ got) in
    sound_always c.child_in.result _ (subst (λ (y : Body). IfOk c.child_in.result (IsChildOf y c.args.key.now)) same c.child_in.ensures.child) (c.child_in.ensures.sound some (subst (HasLevel c.args.level) (sym same) level))

pub returns-in_err-frame-clause-outcome : goal.returns-in_err-frame-clause-outcome
returns-in_err-frame-clause-outcome g c = handed_on g.D.Disk c.from_residual.result c.from_residual.ensures.1 (search_of g.D.Disk c.in_err-frame.ensures.outcome)
