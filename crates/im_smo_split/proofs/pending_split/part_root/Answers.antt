use Rattle.std.proofs.Common.{ap, Err, ◌≡◌, ◌<◌, subst, sym, ℕ}
use Rattle.std.proofs.lemmas.Result.{err_from_is_err_and}
use Rattle.im_base_types.specs.declared.fault.Fault.{Fault}
use Rattle.im_base_types.specs.declared.fault.Fault.TheVariants.{NotAStore}
use Rattle.im_smo_split.proofs.AfterSplit.{fits_inner}
use Rattle.im_smo_split.proofs.pending_split.part_root.Goals as goal

pub returns-in_err-n-clause-sound : goal.returns-in_err-n-clause-sound
returns-in_err-n-clause-sound c level can e =
    let p = err_from_is_err_and c.from_residual-in_err-n.result c.from_residual-in_err-n.ensures.1 in
    let fault : c.in_err-n.field-0.0 ≡ NotAStore = cc (p.1, p.2, e) in
    let fits = fits_inner c.args.level c.args.page.now c.requires.inner level c.law_content.ensures in
    c.in_err-n.ensures.sound (can c.in_ok-child.child.number fits c.in_ok-child.ensures.child.way) (subst (λ (h : ℕ). h < 255) (sym level.level) c.requires.low) (ap (λ (f : Fault). Err f) fault)
