use Rattle.std.proofs.Common.{◌∙◌, refl, sym, arith}
use Rattle.im_log_record.specs.Entry.{view}
use Rattle.im_log_record.proofs.Theorems.{record_takes, record_again}
use Rattle.im_log_record.proofs.decoding.decode.Goals as goal

pub returns-in-Some-clause-found : goal.returns-in-Some-clause-found
returns-in-Some-clause-found c = record_takes c.args.bytes.now (view c.in-Some.record) (λ i. omega (arith, c.type_inv.bytes i)) c.in-Some.ensures

pub returns-in-Some-clause-only : goal.returns-in-Some-clause-only
returns-in-Some-clause-only c said s = sym (record_again said _ s) ∙ c.in-Some.ensures

pub returns-in-None-clause-only : goal.returns-in-None-clause-only
returns-in-None-clause-only c said s = (refl, sym (record_again said _ s) ∙ c.in-None.ensures)
