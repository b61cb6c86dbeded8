use Rattle.std.proofs.Common.{◌≡◌, ℕ, ap, ◌∙◌, rules}
use Rattle.im_base_types.specs.declared.page_kind.PageKind.TheVariants.{Meta}
use Rattle.im_base_types.specs.Pages.{Page}
use Rattle.im_page_pool.specs.Pool.{page_at}
use Rattle.im_page_writer.proofs.Outcomes.{handed_on, pages_to, search_of, sound_on}
use Rattle.im_tree_search.proofs.Quiet.{got_quiet}
use Rattle.im_tree_search.proofs.leaf_chain.page_count.Goals as goal

pub returns-in_err-frame-clause-kept : goal.returns-in_err-frame-clause-kept
returns-in_err-frame-clause-kept g c pages has meta = sound_on c.from_residual.result _ _ c.from_residual.ensures.1 (c.in_err-frame.ensures.kept pages (pages_to g.D.Disk 0 has))

pub returns-then-ne-clause-kept : goal.returns-then-ne-clause-kept
returns-then-ne-clause-kept g c pages has meta =
    let same = c.page-page.ensures.page ∙ ap (λ (n : ℕ). page_at c.get.new.self.pool n) c.in_ok-frame.ensures.frame ∙ c.in_ok-frame.ensures.kept pages (pages_to g.D.Disk 0 has) in
    let kind : c.kind.result ≡ Meta = c.kind.ensures ∙ ap (λ (x : Page). x.body.kind) same ∙ meta in
    absurd (let never : ⊥ = search (rules, kind) in never)

pub returns-clause-kept : goal.returns-clause-kept
returns-clause-kept g c pages has meta =
    c.leftmost.ensures ∙ ap (λ (x : Page). x.body.leftmost) (c.page-page.ensures.page ∙ ap (λ (n : ℕ). page_at c.get.new.self.pool n) c.in_ok-frame.ensures.frame ∙ c.in_ok-frame.ensures.kept pages (pages_to g.D.Disk 0 has))

pub returns-in_err-frame-clause-quiet : goal.returns-in_err-frame-clause-quiet
returns-in_err-frame-clause-quiet g c working holds = got_quiet (c.in_err-frame.ensures.held working holds) (c.in_err-frame.ensures.quiet working holds)

pub returns-then-ne-clause-quiet : goal.returns-then-ne-clause-quiet
returns-then-ne-clause-quiet g c working holds = got_quiet (c.in_ok-frame.ensures.held working holds) (c.in_ok-frame.ensures.quiet working holds)

pub returns-clause-quiet : goal.returns-clause-quiet
returns-clause-quiet g c working holds = got_quiet (c.in_ok-frame.ensures.held working holds) (c.in_ok-frame.ensures.quiet working holds)

pub returns-in_err-frame-clause-outcome : goal.returns-in_err-frame-clause-outcome
returns-in_err-frame-clause-outcome g c = handed_on g.D.Disk c.from_residual.result c.from_residual.ensures.1 (search_of g.D.Disk c.in_err-frame.ensures.outcome)
