use Rattle.std.proofs.Common.{ℕ, zero, List, [], ◌∷◌, refl, ◌∙◌, subst}
use Rattle.im_page_writer.specs.Outcome.{mild}
use Rattle.im_page_writer.proofs.Cited.{ends_own, sound_own, sound_on, refused_not as not_refused}
use Rattle.im_smo_pages.specs.Seen.{seen}
use Rattle.im_smo_pages.proofs.Goings.{mildly}
use Rattle.im_smo_split.specs.PendingSplits.{IsRootPending}
use Rattle.im_smo_split.proofs.Downs.{ended}
use Rattle.im_smo_split.proofs.Ends.{last_two, root_ended, root_leaf, can_part_root}
use Rattle.im_smo_split.proofs.leaves.split_root_leaf.Goals as goal

pub returns-in_err-page-clause-kept : goal.returns-in_err-page-clause-kept
returns-in_err-page-clause-kept g c store has pending = sound_on c.from_residual.result _ _ c.from_residual.ensures.1 (c.in_err-page.ensures.kept store has.has)

pub returns-clause-outcome : goal.returns-clause-outcome
returns-clause-outcome g c = ends_own g.D.Disk mild refl refl refl c.part_root_leaf.result c.in_ok-page.ensures.outcome (mildly c.part_root_leaf.result c.part_root_leaf.ensures.causes)

pub returns-clause-kept : goal.returns-clause-kept
returns-clause-kept g c store has pending =
    let l = c.take_last-left.result in
    let r = c.take_last-right.result in
    let one : IsRootPending c.args.dense (seen store c.args.images.now) (r ∷ l ∷ []) c.args.key.now zero =
    subst (λ (ns : List ℕ). IsRootPending c.args.dense (seen store c.args.images.now) ns c.args.key.now zero)
    (last_two c.args.numbers.now.items c.take_last-right.new.self.items c.take_last-left.new.self.items l r c.take_last-right.ensures.items c.take_last-left.ensures.items c.requires.counted) pending in
    let page = c.deref.result.now in
    let page_is = c.deref.ensures ∙ c.in_ok-page.ensures.kept store has.has in
    sound_own c.part_root_leaf.result _ _ c.part_root_leaf.ensures.halves
    (not_refused c.part_root_leaf.result
    (c.part_root_leaf.ensures.sound (root_leaf store c.args.key.now c.args.images.now c.law_rise.ensures l r page page_is one)
    (can_part_root store c.args.key.now c.args.images.now c.law_rise.ensures l r page page_is one)))
    (λ half halves. ended store c.args.key.now c.args.images.now c.part_root_leaf.new.images half 1
    (root_ended store c.args.key.now c.args.images.now c.law_rise.ensures l r page page_is one c.image.new.images c.part_root_leaf.new.images half c.image.ensures.images halves))
