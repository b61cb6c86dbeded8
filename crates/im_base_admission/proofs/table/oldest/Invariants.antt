use Rattle.std.proofs.Common.{take}
use Rattle.im_base_admission.specs.Admission.{IsAwaitedBy, IsLeastOf}
use Rattle.im_base_admission.proofs.table.oldest.Given as goal

abbrev pub invariant-loop-one : goal.invariant-loop-one
invariant-loop-one l = IsLeastOf (IsAwaitedBy l.asker l.came) (λ g. g.number) (take l.one-index l.going) l.least
