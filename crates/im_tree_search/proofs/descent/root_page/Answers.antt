use Rattle.std.proofs.Common.{ℕ, ap, sym, ◌∙◌, subst, false}
use Rattle.std.specs.Bool.{IsTrue}
use Rattle.im_base_types.specs.Pages.{Page}
use Rattle.im_page_pool.specs.Pool.{page_at}
use Rattle.im_page_writer.proofs.Outcomes.{handed_on, pages_to, search_of, sound_on}
use Rattle.im_tree_search.specs.Levels.{HasLevel}
use Rattle.im_tree_search.proofs.Quiet.{got_quiet}
use Rattle.im_tree_search.proofs.descent.root_page.Goals as goal

pub returns-in_err-frame-clause-kept : goal.returns-in_err-frame-clause-kept
returns-in_err-frame-clause-kept g c pages has level = sound_on c.from_residual.result _ _ c.from_residual.ensures.1 (c.in_err-frame.ensures.kept pages (pages_to g.D.Disk 1 has))

pub returns-then-not-has_level-clause-kept : goal.returns-then-not-has_level-clause-kept
returns-then-not-has_level-clause-kept g c pages has level =
    let same = c.page-page.ensures.page ∙ ap (λ (n : ℕ). page_at c.get.new.self.pool n) c.in_ok-frame.ensures.frame ∙ c.in_ok-frame.ensures.kept pages (pages_to g.D.Disk 1 has) in
    let at : HasLevel c.page-page.result.now.body.level c.page-page.result.now.body = subst (λ (x : Page). HasLevel x.body.level x.body) (sym same) level in
    let no : IsTrue false = c.if-not-has_level.ensures.1 (subst (λ (h : ℕ). HasLevel h c.page-page.result.now.body) (sym c.level.ensures) at) in
    absurd (cc no)

pub returns-clause-kept : goal.returns-clause-kept
returns-clause-kept g c pages has level = ap (λ (n : ℕ). page_at c.get.new.self.pool n) c.in_ok-frame.ensures.frame ∙ c.in_ok-frame.ensures.kept pages (pages_to g.D.Disk 1 has)

pub returns-in_err-frame-clause-quiet : goal.returns-in_err-frame-clause-quiet
returns-in_err-frame-clause-quiet g c working holds = got_quiet (c.in_err-frame.ensures.held working holds) (c.in_err-frame.ensures.quiet working holds)

pub returns-then-not-has_level-clause-quiet : goal.returns-then-not-has_level-clause-quiet
returns-then-not-has_level-clause-quiet g c working holds = got_quiet (c.in_ok-frame.ensures.held working holds) (c.in_ok-frame.ensures.quiet working holds)

pub returns-clause-quiet : goal.returns-clause-quiet
returns-clause-quiet g c working holds = got_quiet (c.in_ok-frame.ensures.held working holds) (c.in_ok-frame.ensures.quiet working holds)

pub returns-in_err-frame-clause-outcome : goal.returns-in_err-frame-clause-outcome
returns-in_err-frame-clause-outcome g c = handed_on g.D.Disk c.from_residual.result c.from_residual.ensures.1 (search_of g.D.Disk c.in_err-frame.ensures.outcome)
