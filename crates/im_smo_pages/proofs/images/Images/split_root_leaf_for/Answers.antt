use Rattle.std.proofs.Common.{ap, Err, ◌≡◌}
use Rattle.std.proofs.lemmas.Result.{err_from_is_err_and}
use Rattle.im_base_types.specs.declared.fault.Fault.{Fault}
use Rattle.im_base_types.specs.declared.fault.Fault.TheVariants.{NotAStore}
use Rattle.im_smo_pages.proofs.GoingDown.{has_half, root_has_room}
use Rattle.im_smo_pages.proofs.images.Images.split_root_leaf_for.Goals as goal

pub returns-clause-goes : goal.returns-clause-goes
returns-clause-goes c pages spare good tall page_is =
    root_has_room c.args.self.now c.split_root_leaf.new.self c.args.page.now.body c.args.l c.args.r c.in_ok-n.n c.half.result c.args.key.now pages spare
    c.in_ok-n.ensures.parts c.law_content.ensures.rises c.half.ensures good tall page_is

pub returns-in_err-n-clause-sound : goal.returns-in_err-n-clause-sound
returns-in_err-n-clause-sound c can e =
    let p = err_from_is_err_and c.from_residual.result c.from_residual.ensures.1 in
    let fault : c.in_err-n.field-0.0 ≡ NotAStore = cc (p.1, p.2, e) in
    c.in_err-n.ensures.sound can (ap (λ (f : Fault). Err f) fault)

pub returns-clause-half : goal.returns-clause-half
returns-clause-half c = has_half c.split_root_leaf.new.self c.args.l c.args.r c.in_ok-n.ensures.parts.left c.in_ok-n.ensures.parts.right c.half.ensures
