use Rattle.std.proofs.Common.{ℕ, ap, ◌∙◌}
use Rattle.im_base_types.specs.Pages.{Page}
use Rattle.im_page_pool.specs.Pool.{page_at}
use Rattle.im_page_writer.proofs.Outcomes.{pages_to, refused, search_of, sound_on}
use Rattle.im_smo_actions.proofs.planned_change.page_count.Goals as goal

pub returns-in_err-meta-clause-outcome : goal.returns-in_err-meta-clause-outcome
returns-in_err-meta-clause-outcome g c = refused g.D.Disk c.from_residual.result c.from_residual.ensures.1 (search_of g.D.Disk c.in_err-meta.ensures.outcome)

pub returns-in_err-meta-clause-kept : goal.returns-in_err-meta-clause-kept
returns-in_err-meta-clause-kept g c pages has = sound_on c.from_residual.result _ _ c.from_residual.ensures.1 (c.in_err-meta.ensures.kept pages (pages_to g.D.Disk 0 has))

pub returns-clause-outcome : goal.returns-clause-outcome
returns-clause-outcome g c = search_of g.D.Disk c.in_ok-meta.ensures.outcome

pub returns-clause-kept : goal.returns-clause-kept
returns-clause-kept g c pages has =
    c.leftmost.ensures
    ∙ ap (λ (x : Page). x.body.leftmost) (c.page.ensures.page ∙ ap (λ (n : ℕ). page_at c.get.new.self.pool n) c.in_ok-meta.ensures.frame ∙ c.in_ok-meta.ensures.kept pages (pages_to g.D.Disk 0 has))
