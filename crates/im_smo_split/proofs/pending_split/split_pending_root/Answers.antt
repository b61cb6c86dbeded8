use Rattle.std.proofs.Common.{◌≡◌, ℕ, List, ◌∷◌, refl, ap, subst, ◌∙◌}
use Rattle.im_page_writer.specs.Outcome.{mild}
use Rattle.im_page_writer.proofs.Outcomes.{ends_own, sound_on}
use Rattle.im_smo_pages.specs.Seen.{seen}
use Rattle.im_smo_pages.proofs.Goings.{mildly}
use Rattle.im_smo_split.specs.Pages.{newest_first}
use Rattle.im_smo_split.specs.PendingSplits.{IsRootPending}
use Rattle.im_smo_split.proofs.Takings.{newest_is}
use Rattle.im_smo_split.proofs.AfterSplit.{root_kept}
use Rattle.im_smo_split.proofs.pending_split.split_pending_root.Goals as goal

pub returns-in_err-page-clause-kept : goal.returns-in_err-page-clause-kept
returns-in_err-page-clause-kept g c dense store has pending = sound_on c.from_residual.result _ _ c.from_residual.ensures.1 (c.in_err-page.ensures.kept store has.has)

pub returns-clause-outcome : goal.returns-clause-outcome
returns-clause-outcome g c = ends_own g.D.Disk mild refl refl refl c.part_root.result c.in_ok-page.ensures.outcome (mildly c.part_root.result c.part_root.ensures.causes)

pub returns-clause-kept : goal.returns-clause-kept
returns-clause-kept g c dense store has pending =
    let right = c.take_last-right.result in
    let left = c.take_last-left.result in
    let rest = c.take_last-left.new.self.items in
    let numbers : newest_first c.args.numbers.now.items ≡ right ∷ left ∷ newest_first rest =
    ap newest_first c.take_last-right.ensures.items ∙ newest_is c.take_last-right.new.self.items right
    ∙ ap (λ (ns : List ℕ). right ∷ ns) (ap newest_first c.take_last-left.ensures.items ∙ newest_is rest left) in
    root_kept store c.args.key.now c.args.images.now c.part_root.new.images rest c.law_rise.ensures
    c.image.new.images c.deref.result.now c.part_root.result c.args.level left right c.requires.inner
    (subst (λ (ns : List ℕ). IsRootPending dense (seen store c.args.images.now) ns c.args.key.now c.args.level) numbers pending)
    (c.deref.ensures ∙ c.in_ok-page.ensures.kept store has.has) c.in_ok-page.ensures.images c.part_root.ensures.halves c.part_root.ensures.level c.part_root.ensures.sound
