use Rattle.std.proofs.Common.{◌≡◌, ℕ, sym, ◌∙◌, subst}
use Rattle.im_page_writer.proofs.Outcomes.{pages_still, refused, sound_on, then}
use Rattle.im_smo_pages.specs.Seen.{bodies}
use Rattle.im_smo_drop_leaf.specs.Emptied.{emptied}
use Rattle.im_smo_drop_leaf.specs.Plan.{IsPlan}
use Rattle.im_smo_drop_leaf.proofs.WithoutEntries.{emptied_above, emptied_but, emptied_good, same_self}
use Rattle.im_smo_drop_leaf.proofs.Plans.{the_leaf, last_leaf}
use Rattle.im_smo_drop_leaf.proofs.plan.plan_delete_last.Goals as goal

pub returns-in_err-leaf-clause-kept : goal.returns-in_err-leaf-clause-kept
returns-in_err-leaf-clause-kept g c pages has good p way one other = sound_on c.from_residual.result _ _ c.from_residual.ensures.1 (c.in_err-leaf.ensures.kept pages (bodies pages) has (same_self (bodies pages)) good)

pub returns-then-leaf-eq1-clause-kept : goal.returns-then-leaf-eq1-clause-kept
returns-then-leaf-eq1-clause-kept g c pages has good p way one other =
    let leaf = c.in_ok-leaf.leaf in
    let is : leaf.number ≡ p = the_leaf (bodies pages) c.args.key.now leaf.parent leaf.place leaf.number c.find_chain.new.above.items p good (c.in_ok-leaf.ensures.kept pages (bodies pages) has (same_self (bodies pages)) good) way in
    absurd (other (sym is ∙ c.if-leaf-eq1.true))

pub returns-in_err-beside-clause-outcome : goal.returns-in_err-beside-clause-outcome
returns-in_err-beside-clause-outcome g c =
    refused g.D.Disk c.from_residual-in_err-beside.result c.from_residual-in_err-beside.ensures.1 (then g.D.Disk c.in_ok-leaf.ensures.outcome c.in_err-beside.ensures.outcome)

pub returns-in_err-beside-clause-kept : goal.returns-in_err-beside-clause-kept
returns-in_err-beside-clause-kept g c pages has good p way one other =
    let leaf = c.in_ok-leaf.leaf in
    let found = c.in_ok-leaf.ensures.kept pages (bodies pages) has (same_self (bodies pages)) good in
    let last = last_leaf (bodies pages) c.args.key.now leaf.parent leaf.place leaf.number c.find_chain.new.above.items p good found way one other in
    sound_on c.from_residual-in_err-beside.result _ _ c.from_residual-in_err-beside.ensures.1
    (c.in_err-beside.ensures.kept pages (pages_still g.D.Disk has c.in_ok-leaf.ensures.outcome) c.new-images.ensures last.level last.one)

pub returns-in_err-drop_chain-clause-outcome : goal.returns-in_err-drop_chain-clause-outcome
returns-in_err-drop_chain-clause-outcome g c =
    refused g.D.Disk c.from_residual-in_err-drop_chain.result c.from_residual-in_err-drop_chain.ensures.1
    (then g.D.Disk (then g.D.Disk c.in_ok-leaf.ensures.outcome c.in_ok-beside.ensures.outcome) c.in_err-drop_chain.ensures.outcome)

pub returns-in_err-drop_chain-clause-kept : goal.returns-in_err-drop_chain-clause-kept
returns-in_err-drop_chain-clause-kept g c pages has good p way one other =
    let leaf = c.in_ok-leaf.leaf in
    let n = leaf.number in
    let found = c.in_ok-leaf.ensures.kept pages (bodies pages) has (same_self (bodies pages)) good in
    let last = last_leaf (bodies pages) c.args.key.now leaf.parent leaf.place n c.find_chain.new.above.items p good found way one other in
    let here = pages_still g.D.Disk has c.in_ok-leaf.ensures.outcome in
    let near = c.in_ok-beside.ensures.kept pages here c.new-images.ensures last.level last.one in
    let now_good = emptied_good pages c.args.key.now n good found.way in
    let placed = c.in_ok-leaf.ensures.kept pages (bodies (emptied pages n)) has (emptied_above pages n last.level.kind) now_good in
    sound_on c.from_residual-in_err-drop_chain.result _ _ c.from_residual-in_err-drop_chain.ensures.1
    (c.in_err-drop_chain.ensures.kept pages (emptied pages n) c.args.key.now (pages_still g.D.Disk here c.in_ok-beside.ensures.outcome) (emptied_but pages n last.level.kind) near.0 now_good placed near.1 last.other)

pub returns-clause-outcome : goal.returns-clause-outcome
returns-clause-outcome g c = then g.D.Disk (then g.D.Disk c.in_ok-leaf.ensures.outcome c.in_ok-beside.ensures.outcome) c.in_ok-drop_chain.ensures.outcome

pub returns-clause-kept : goal.returns-clause-kept
returns-clause-kept g c pages has good p way one other =
    let leaf = c.in_ok-leaf.leaf in
    let n = leaf.number in
    let found = c.in_ok-leaf.ensures.kept pages (bodies pages) has (same_self (bodies pages)) good in
    let last = last_leaf (bodies pages) c.args.key.now leaf.parent leaf.place n c.find_chain.new.above.items p good found way one other in
    let here = pages_still g.D.Disk has c.in_ok-leaf.ensures.outcome in
    let near = c.in_ok-beside.ensures.kept pages here c.new-images.ensures last.level last.one in
    let now_good = emptied_good pages c.args.key.now n good found.way in
    let placed = c.in_ok-leaf.ensures.kept pages (bodies (emptied pages n)) has (emptied_above pages n last.level.kind) now_good in
    subst (λ (x : ℕ). IsPlan (emptied pages x) x c.drop_chain.new.images) last.is
    (c.in_ok-drop_chain.ensures.kept pages (emptied pages n) c.args.key.now (pages_still g.D.Disk here c.in_ok-beside.ensures.outcome) (emptied_but pages n last.level.kind) near.0 now_good placed near.1 last.other)
