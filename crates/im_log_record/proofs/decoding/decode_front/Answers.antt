use Rattle.std.proofs.Common.{◌∙◌, refl, sym, ap, arith}
use Rattle.im_log_record.specs.Entry.{view}
use Rattle.im_log_record.specs.Reading.{first_entry}
use Rattle.im_log_record.proofs.Theorems.{first_takes, first_again}
use Rattle.im_log_record.proofs.decoding.decode_front.Goals as goal

pub returns-in-Some-clause-found : goal.returns-in-Some-clause-found
returns-in-Some-clause-found c =
    first_takes c.args.bytes.now (view c.in-Some.record, c.in-Some.rest.now) (λ i. omega (arith, c.type_inv.bytes i)) c.in-Some.ensures

pub returns-in-Some-clause-only : goal.returns-in-Some-clause-only
returns-in-Some-clause-only c said rest is e = sym (first_again said rest is) ∙ ap first_entry (sym e) ∙ c.in-Some.ensures

pub returns-in-None-clause-only : goal.returns-in-None-clause-only
returns-in-None-clause-only c said rest is e = (refl, sym (first_again said rest is) ∙ ap first_entry (sym e) ∙ c.in-None.ensures)
