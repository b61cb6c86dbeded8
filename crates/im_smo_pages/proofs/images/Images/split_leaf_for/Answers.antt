use Rattle.std.proofs.lemmas.Result.{err_from_is_err_and}
use Rattle.im_base_types.specs.declared.fault.Fault.{Fault}
use Rattle.im_base_types.specs.declared.fault.Fault.TheVariants.{NotAStore}
use Rattle.std.proofs.Common.{subst, ℕ, ap, sym, Err, ◌≡◌, ◌≤◌}
use Rattle.im_base_types.specs.declared.page_kind.PageKind.TheVariants.{Leaf}
use Rattle.im_smo_pages.specs.Images.{Has, held}
use Rattle.im_smo_pages.specs.OnImages.{Becomes}
use Rattle.im_smo_pages.specs.Changed.{linked_prev}
use Rattle.im_smo_pages.proofs.GoingDown.{has_half, leaf_has_room, next_still_leaf}
use Rattle.im_smo_pages.proofs.images.Images.split_leaf_for.Goals as goal

pub returns-clause-goes : goal.returns-clause-goes
returns-clause-goes c pages spare good way goes page_is =
    leaf_has_room c.args.self.now c.split_leaf.new.self c.link_prev.new.self c.args.page.now.body c.args.parent c.args.p c.args.q c.in_ok-n.n c.half.result c.args.key.now pages spare
    c.in_ok-n.ensures.parts
    (subst (λ (r : ℕ). Becomes c.split_leaf.new.self c.link_prev.new.self (λ h. linked_prev h r c.args.q)) c.next.ensures c.in_ok-link_prev.ensures.new)
    c.law_content.ensures.rises c.half.ensures good way goes page_is

pub returns-in_err-n-clause-sound : goal.returns-in_err-n-clause-sound
returns-in_err-n-clause-sound c pages spare good way goes page_is has next can e =
    let p = err_from_is_err_and c.from_residual.result c.from_residual.ensures.1 in
    let fault : c.in_err-n.field-0.0 ≡ NotAStore = cc (p.1, p.2, e) in
    c.in_err-n.ensures.sound pages has can (ap (λ (f : Fault). Err f) fault)

pub returns-in_err-link_prev-clause-sound : goal.returns-in_err-link_prev-clause-sound
returns-in_err-link_prev-clause-sound c pages spare good way goes page_is has next can e =
    let p = err_from_is_err_and c.from_residual-in_err-link_prev.result c.from_residual-in_err-link_prev.ensures.1 in
    let fault : c.in_err-link_prev.field-0.0 ≡ NotAStore = cc (p.1, p.2, e) in
    let kind = next_still_leaf c.args.self.now c.split_leaf.new.self c.args.page.now.body c.args.parent c.args.p c.args.q c.in_ok-n.n c.args.key.now pages spare c.in_ok-n.ensures.parts good way goes page_is in
    c.in_err-link_prev.ensures.sound pages
    (subst (λ (r : ℕ). 1 ≤ r → Has c.split_leaf.new.self r) (sym c.next.ensures) (λ some. c.in_ok-n.ensures.parts.kept c.args.page.now.body.next (next some)))
    (subst (λ (r : ℕ). 1 ≤ r → (held pages c.split_leaf.new.self r).kind ≡ Leaf) (sym c.next.ensures) kind)
    (ap (λ (f : Fault). Err f) fault)

pub returns-clause-there : goal.returns-clause-there
returns-clause-there c = c.in_ok-link_prev.ensures.new.kept c.args.p c.in_ok-n.ensures.parts.left

pub returns-clause-half : goal.returns-clause-half
returns-clause-half c =
    let new = c.link_prev.new.self in
    has_half new c.args.p c.args.q (c.in_ok-link_prev.ensures.new.kept c.args.p c.in_ok-n.ensures.parts.left) (c.in_ok-link_prev.ensures.new.kept c.args.q c.in_ok-n.ensures.parts.right) c.half.ensures
