use Rattle.std.proofs.Common.{ℕ, ap, refl, ◌∙◌}
use Rattle.im_page_pool.specs.Pool.{page_at}
use Rattle.im_page_writer.specs.Outcome.{mild}
use Rattle.im_page_writer.proofs.Outcomes.{ends_own, pages_to, search_of, sound_on, sound_own, read_more, refused}
use Rattle.im_smo_pages.proofs.Goings.{mildly_copied}
use Rattle.im_smo_pages.proofs.Results.{if_err, memory_not}
use Rattle.im_smo_pages.proofs.page_image.pool_copy.Goals as goal

pub returns-in_err-frame-clause-outcome : goal.returns-in_err-frame-clause-outcome
returns-in_err-frame-clause-outcome g c = refused g.D.Disk c.from_residual.result c.from_residual.ensures.1 (read_more g.D.Disk mild refl (search_of g.D.Disk c.in_err-frame.ensures.outcome))

pub returns-in_err-frame-clause-kept : goal.returns-in_err-frame-clause-kept
returns-in_err-frame-clause-kept g c pages has = sound_on c.from_residual.result _ _ c.from_residual.ensures.1 (c.in_err-frame.ensures.kept pages (pages_to g.D.Disk c.args.number has))

pub returns-clause-outcome : goal.returns-clause-outcome
returns-clause-outcome g c = ends_own g.D.Disk mild refl refl refl c.copied.result (search_of g.D.Disk c.in_ok-frame.ensures.outcome) (mildly_copied c.copied.result c.copied.ensures.refused)

pub returns-clause-kept : goal.returns-clause-kept
returns-clause-kept g c pages has =
    let same = c.page.ensures.page ∙ ap (λ (n : ℕ). page_at c.get.new.self.pool n) c.in_ok-frame.ensures.frame ∙ c.in_ok-frame.ensures.kept pages (pages_to g.D.Disk c.args.number has) in
    sound_own c.copied.result _ _ c.copied.ensures.same (if_err c.copied.result _ _ c.copied.ensures.refused memory_not) (λ p copy. copy ∙ same)
