use Rattle.std.proofs.Common.{◌≡◌, ℕ, List, ◌∷◌, refl, ap, subst, ◌∙◌}
use Rattle.im_page_writer.specs.Outcome.{mild}
use Rattle.im_page_writer.proofs.Outcomes.{ends_own, sound_on}
use Rattle.im_smo_pages.specs.Seen.{seen}
use Rattle.im_smo_pages.proofs.Goings.{mildly}
use Rattle.im_smo_split.specs.Pages.{newest_first}
use Rattle.im_smo_split.specs.PendingSplits.{IsPending}
use Rattle.im_smo_split.proofs.Takings.{newest_is}
use Rattle.im_smo_split.proofs.AfterSplit.{inner_kept}
use Rattle.im_smo_split.proofs.pending_split.split_pending_inner.Goals as goal

pub returns-in_err-page-clause-kept : goal.returns-in_err-page-clause-kept
returns-in_err-page-clause-kept g c dense store has pending there = sound_on c.from_residual.result _ _ c.from_residual.ensures.1 (c.in_err-page.ensures.kept store has.has)

pub returns-clause-outcome : goal.returns-clause-outcome
returns-clause-outcome g c = ends_own g.D.Disk mild refl refl refl c.part_inner.result c.in_ok-page.ensures.outcome (mildly c.part_inner.result c.part_inner.ensures.causes)

pub returns-clause-kept : goal.returns-clause-kept
returns-clause-kept g c dense store has pending there =
    let q = c.take_last-q.result in
    let rest = c.take_last-q.new.self.items in
    let numbers : newest_first c.args.numbers.now.items ≡ q ∷ newest_first rest = ap newest_first c.take_last-q.ensures.items ∙ newest_is rest q in
    inner_kept store c.args.key.now c.args.images.now c.part_inner.new.images rest c.law_rise.ensures
    c.image.new.images c.deref.result.now c.part_inner.result c.args.pending.level c.args.pending.parent c.args.pending.page q c.requires.inner
    (subst (λ (ns : List ℕ). IsPending dense (seen store c.args.images.now) ns c.args.key.now c.args.pending.level c.args.pending.parent c.args.pending.page) numbers pending) there
    (c.deref.ensures ∙ c.in_ok-page.ensures.kept store has.has) c.in_ok-page.ensures.images c.part_inner.ensures.halves c.part_inner.ensures.level c.part_inner.ensures.sound
