use Rattle.std.proofs.Common.{take}
use Rattle.im_base_admission.specs.Admission.{IsPatient, IsLeastOf}
use Rattle.im_base_admission.proofs.table.earliest.Given as goal

abbrev pub invariant-loop-one : goal.invariant-loop-one
invariant-loop-one l = IsLeastOf IsPatient (λ g. g.had) (take l.one-index l.going) l.least
