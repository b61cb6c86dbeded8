use Rattle.std.proofs.Common.{◌≡◌, ◌<◌, ℕ, sym, ap, subst, ◌∙◌, lt-ltb, ltb-true}
use Rattle.im_base_types.specs.Pages.{Page}
use Rattle.im_page_pool.specs.Pool.{page_at}
use Rattle.im_page_writer.proofs.Outcomes.{idle, pages_to, refused, search_of, sound_on}
use Rattle.im_tree_search.specs.Levels.{bodies_of}
use Rattle.im_restart_undo.proofs.place.is_counted.Goals as goal

pub returns-then-is_done-clause-outcome : goal.returns-then-is_done-clause-outcome
returns-then-is_done-clause-outcome g c = idle g.D.Disk g.met.D.Disk.only_now c.args.writer.now c.args.disk.now c.requires.working c.requires.ready

pub returns-then-is_done-clause-kept : goal.returns-then-is_done-clause-kept
returns-then-is_done-clause-kept g c pages whole =
    let same : c.count.result ≡ (bodies_of pages 0).leftmost = c.count.ensures ∙ whole.tree.count (sym c.is_done.ensures ∙ c.if-is_done.true) in
    (λ is. subst (λ (n : ℕ). c.args.page < n) same (ltb-true c.args.page c.count.result is), λ less. lt-ltb c.args.page c.count.result (subst (λ (n : ℕ). c.args.page < n) (sym same) less))

pub returns-in_err-meta-clause-outcome : goal.returns-in_err-meta-clause-outcome
returns-in_err-meta-clause-outcome g c = refused g.D.Disk c.from_residual.result c.from_residual.ensures.1 (search_of g.D.Disk c.in_err-meta.ensures.outcome)

pub returns-in_err-meta-clause-kept : goal.returns-in_err-meta-clause-kept
returns-in_err-meta-clause-kept g c pages whole = sound_on c.from_residual.result _ _ c.from_residual.ensures.1 (c.in_err-meta.ensures.kept whole.tree.now (pages_to g.D.Disk 0 whole.tree.has))

pub returns-clause-kept : goal.returns-clause-kept
returns-clause-kept g c pages whole =
    let first : c.page.result.now ≡ pages 0 =
    c.page.ensures.page ∙ ap (λ (n : ℕ). page_at c.get.new.self.pool n) c.in_ok-meta.ensures.frame ∙ c.in_ok-meta.ensures.kept whole.tree.now (pages_to g.D.Disk 0 whole.tree.has) ∙ whole.tree.agrees 0 (sym c.is_done.ensures ∙ c.if-is_done.false) in (
      λ is. subst (λ (x : Page). c.args.page < x.body.leftmost) first (c.counts.ensures.0 is).below,
      λ less. c.counts.ensures.1 (record { kind = ap (λ (x : Page). x.body.kind) first ∙ whole.good.meta; below = subst (λ (x : Page). c.args.page < x.body.leftmost) (sym first) less }),
    )
