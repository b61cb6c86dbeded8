use Rattle.std.proofs.Common.{take}
use Rattle.im_base_admission.specs.Admission.{IsOwn, IsLeastOf}
use Rattle.im_base_admission.proofs.table.own.Given as goal

abbrev pub invariant-loop-one : goal.invariant-loop-one
invariant-loop-one l = IsLeastOf (IsOwn l.thread) (λ g. g.number) (take l.one-index l.going) l.least
