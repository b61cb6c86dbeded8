use Rattle.std.proofs.Common.{List, subst, take_all}
use Rattle.im_base_admission.specs.declared.going.Going.{Going}
use Rattle.im_base_admission.specs.Admission.{IsPatient, IsLeastOf}
use Rattle.im_base_admission.proofs.Least.{one_more, at_none}
use Rattle.im_base_admission.proofs.table.earliest.Goals as goal

pub loop-one-init : goal.loop-one-init
loop-one-init c = at_none IsPatient (λ g. g.had)

pub loop-one-preserved : goal.loop-one-preserved
loop-one-preserved c = one_more IsPatient (λ g. g.had) c.loop-one.least c.with_patient-least.result c.loop-one.one-index _ c.args.going.now c.loop-one-test.true c.loop-one.invariant c.with_patient-least.ensures

pub returns : goal.returns
returns c = subst (λ (l : List Going). IsLeastOf IsPatient (λ g. g.had) l c.loop-one.least) (take_all c.loop-one.one-index c.args.going.now c.loop-one-test.false) c.loop-one.invariant
