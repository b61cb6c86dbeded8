use Rattle.std.proofs.Common.{◌≡◌, Err, ap}
use Rattle.std.proofs.lemmas.Result.{err_from_is_err_and}
use Rattle.im_base_types.specs.declared.fault.Fault.{Fault}
use Rattle.im_base_types.specs.declared.fault.Fault.TheVariants.{NotAStore}
use Rattle.im_smo_split.proofs.Ends.{fits_leaf}
use Rattle.im_smo_split.proofs.leaves.part_leaf.Goals as goal

pub returns-in_err-half-clause-sound : goal.returns-in_err-half-clause-sound
returns-in_err-half-clause-sound c pages spare good way goes page_is above next leaf can e =
    let p = err_from_is_err_and c.from_residual.result c.from_residual.ensures.1 in
    let fault : c.in_err-half.field-0.0 ≡ NotAStore = cc (p.1, p.2, e) in
    c.in_err-half.ensures.sound pages spare good way goes page_is above next (can c.law_content.ensures.rises (fits_leaf c.args.page.now.body leaf c.law_content.ensures.short c.law_content.ensures.fits))
    (ap (λ (f : Fault). Err f) fault)

pub returns-clause-halves : goal.returns-clause-halves
returns-clause-halves c = record { there = c.in_ok-half.ensures.there; part = c.in_ok-half.ensures.half; goes = c.in_ok-half.ensures.goes }
