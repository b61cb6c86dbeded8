use Rattle.std.proofs.Common.{refl}
use Rattle.im_page_writer.proofs.Cited.{err_on, pages_still, refused, sound_on, then, with_more}
use Rattle.im_smo_pages.specs.Kept.{mild_to_take}
use Rattle.im_smo_pages.proofs.Goings.{take_mildly}
use Rattle.im_smo_split.proofs.Froms.{down_done, has_none, has_taken_all, root_on, too_few, under_on}
use Rattle.im_smo_split.proofs.Reasons.{never_capacity}
use Rattle.im_smo_split.proofs.plan.split_from.Goals as goal

pub returns-in_err-numbers-clause-kept : goal.returns-in_err-numbers-clause-kept
returns-in_err-numbers-clause-kept g c store has good top = sound_on c.from_residual.result _ _ c.from_residual.ensures.1 (c.in_err-numbers.ensures.kept store (has_none store c.new-images.result c.new-images.ensures g.D.Disk has good))

pub returns-in_err-numbers-clause-used_up : goal.returns-in_err-numbers-clause-used_up
returns-in_err-numbers-clause-used_up g c store has good top =
    err_on c.from_residual.result _ _ c.from_residual.ensures.1
    (λ same. too_few store c.new-images.result c.new-images.ensures c.args.top.pages (c.in_err-numbers.ensures.used_up store (has_none store c.new-images.result c.new-images.ensures g.D.Disk has good) same))

pub returns-in_err-leaf-clause-outcome : goal.returns-in_err-leaf-clause-outcome
returns-in_err-leaf-clause-outcome g c =
    refused g.D.Disk c.from_residual-in_err-leaf.result c.from_residual-in_err-leaf.ensures.1 (with_more g.D.Disk mild_to_take take_mildly (then g.D.Disk c.in_ok-numbers.ensures.outcome c.in_err-leaf.ensures.outcome))

pub returns-in_err-leaf-clause-kept : goal.returns-in_err-leaf-clause-kept
returns-in_err-leaf-clause-kept g c store has good top =
    let first = c.new-images.result in
    let mid = c.take_pages.new.images in
    let numbers = c.in_ok-numbers.numbers.items in
    let one = c.in_ok-numbers.ensures.kept store (has_none store first c.new-images.ensures g.D.Disk has good) in
    sound_on c.from_residual-in_err-leaf.result _ _ c.from_residual-in_err-leaf.ensures.1
    (c.in_err-leaf.ensures.kept store
    (has_taken_all store first c.new-images.ensures c.args.key.now c.args.top top mid numbers one g.D.Disk (pages_still g.D.Disk has c.in_ok-numbers.ensures.outcome))
    (root_on store first c.new-images.ensures c.args.key.now c.args.top top mid numbers one)
    (under_on store first c.new-images.ensures c.args.key.now c.args.top top mid numbers one))

pub returns-in_err-leaf-clause-used_up : goal.returns-in_err-leaf-clause-used_up
returns-in_err-leaf-clause-used_up g c store has good top =
    err_on c.from_residual-in_err-leaf.result _ _ c.from_residual-in_err-leaf.ensures.1 (λ same. absurd (never_capacity g.D.Disk refl c.in_err-leaf.ensures.outcome same))

pub returns-clause-outcome : goal.returns-clause-outcome
returns-clause-outcome g c = with_more g.D.Disk mild_to_take take_mildly (then g.D.Disk c.in_ok-numbers.ensures.outcome c.in_ok-leaf.ensures.outcome)

pub returns-clause-kept : goal.returns-clause-kept
returns-clause-kept g c store has good top =
    let first = c.new-images.result in
    let mid = c.take_pages.new.images in
    let numbers = c.in_ok-numbers.numbers.items in
    let one = c.in_ok-numbers.ensures.kept store (has_none store first c.new-images.ensures g.D.Disk has good) in
    down_done store first c.new-images.ensures c.args.key.now c.args.top top mid numbers one c.split_down.new.images c.in_ok-leaf.leaf good
    (c.in_ok-leaf.ensures.kept store
    (has_taken_all store first c.new-images.ensures c.args.key.now c.args.top top mid numbers one g.D.Disk (pages_still g.D.Disk has c.in_ok-numbers.ensures.outcome))
    (root_on store first c.new-images.ensures c.args.key.now c.args.top top mid numbers one)
    (under_on store first c.new-images.ensures c.args.key.now c.args.top top mid numbers one))
