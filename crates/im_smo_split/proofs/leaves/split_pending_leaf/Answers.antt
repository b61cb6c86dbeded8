use Rattle.std.proofs.Common.{ℕ, zero, List, [], ◌∷◌, refl, ◌∙◌, subst}
use Rattle.im_page_writer.specs.Outcome.{mild}
use Rattle.im_page_writer.proofs.Cited.{ends_own, pages_still, refused, sound_own, sound_on, then, refused_not as not_refused}
use Rattle.im_smo_pages.specs.Seen.{seen}
use Rattle.im_smo_pages.proofs.Goings.{mildly}
use Rattle.im_smo_split.specs.PendingSplits.{IsPending}
use Rattle.im_smo_split.proofs.Downs.{ended}
use Rattle.im_smo_split.proofs.TakenOut.{beneath}
use Rattle.im_smo_split.proofs.Ends.{last_one, leaf_ended, leaf_partable}
use Rattle.im_smo_split.proofs.leaves.split_pending_leaf.Goals as goal

pub returns-in_err-bring_both-clause-kept : goal.returns-in_err-bring_both-clause-kept
returns-in_err-bring_both-clause-kept g c store has pending above = sound_on c.from_residual.result _ _ c.from_residual.ensures.1 (c.in_err-bring_both.ensures.kept store has.has)

pub returns-in_err-page-clause-outcome : goal.returns-in_err-page-clause-outcome
returns-in_err-page-clause-outcome g c =
    then g.D.Disk c.in_ok-bring_both.ensures.outcome (refused g.D.Disk c.from_residual-in_err-page.result c.from_residual-in_err-page.ensures.1 c.in_err-page.ensures.outcome)

pub returns-in_err-page-clause-kept : goal.returns-in_err-page-clause-kept
returns-in_err-page-clause-kept g c store has pending above =
    sound_on c.from_residual-in_err-page.result _ _ c.from_residual-in_err-page.ensures.1 (c.in_err-page.ensures.kept store (pages_still g.D.Disk has.has c.in_ok-bring_both.ensures.outcome))

pub returns-clause-outcome : goal.returns-clause-outcome
returns-clause-outcome g c = ends_own g.D.Disk mild refl refl refl c.part_leaf.result (then g.D.Disk c.in_ok-bring_both.ensures.outcome c.in_ok-page.ensures.outcome) (mildly c.part_leaf.result c.part_leaf.ensures.causes)

pub returns-clause-kept : goal.returns-clause-kept
returns-clause-kept g c store has pending above =
    let both = c.in_ok-bring_both.ensures.kept store has.has in
    let q = c.take_last-q.result in
    let one : IsPending c.args.dense (seen store c.args.images.now) (q ∷ []) c.args.key.now zero c.args.pending.parent c.args.pending.page =
    subst (λ (ns : List ℕ). IsPending c.args.dense (seen store c.args.images.now) ns c.args.key.now zero c.args.pending.parent c.args.pending.page)
    (last_one c.args.numbers.now.items c.take_last-q.new.self.items q c.take_last-q.ensures.items c.requires.counted) pending in
    let page = c.deref.result.now in
    let page_is = c.deref.ensures ∙ c.in_ok-page.ensures.kept store (pages_still g.D.Disk has.has c.in_ok-bring_both.ensures.outcome) in
    let can = leaf_partable store c.args.key.now (seen store c.args.images.now) c.bring_both.new.images c.law_rise.ensures c.args.pending.page c.args.pending.parent q page both.one.same page_is one
    c.image.new.images c.image.ensures.images (both.one.kept c.args.pending.parent above) both.next in
    sound_own c.part_leaf.result _ _ c.part_leaf.ensures.halves
    (not_refused c.part_leaf.result
    (c.part_leaf.ensures.sound (beneath store c.bring_both.new.images c.args.pending.page page c.law_rise.ensures page_is) [] can.good can.way can.child can.page can.above can.next can.leaf can.can))
    (λ half halves. ended store c.args.key.now c.args.images.now c.part_leaf.new.images half c.args.pending.page
    (leaf_ended store c.args.key.now (seen store c.args.images.now) c.bring_both.new.images c.law_rise.ensures c.args.pending.page c.args.pending.parent q page both.one.same page_is one
    c.image.new.images c.part_leaf.new.images half c.image.ensures.images halves))
