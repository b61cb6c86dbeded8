use Rattle.std.proofs.Common.{Option, sym, subst, arith}
use Rattle.im_log_header.specs.declared.header.LogStart.{LogStart}
use Rattle.im_log_header.proofs.Saying.{unmade}
use Rattle.im_log_choice.specs.Found.{IsFound}
use Rattle.im_log_choice.proofs.choosing.generation.Goals as goal

pub returns-in-Some-clause-generation : goal.returns-in-Some-clause-generation
returns-in-Some-clause-generation c file is = sym (subst (λ (o : Option LogStart). IsFound o file) c.in-Some.is is).1.generation

pub returns-in-Some-clause-none : goal.returns-in-Some-clause-none
returns-in-Some-clause-none c file is zero = let some = (subst (λ (o : Option LogStart). IsFound o file) c.in-Some.is is).2.some in absurd (omega (arith, some, zero))

pub returns-in-None-clause-generation : goal.returns-in-None-clause-generation
returns-in-None-clause-generation c file is = sym (unmade file (subst (λ (o : Option LogStart). IsFound o file) c.in-None.is is)).generation

pub returns-in-None-clause-none : goal.returns-in-None-clause-none
returns-in-None-clause-none c file is zero = subst (λ (o : Option LogStart). IsFound o file) c.in-None.is is
