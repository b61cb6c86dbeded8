use Rattle.std.proofs.Common.{refl}
use Rattle.im_tool_drill.proofs.store_lives.count_changes.Goals as goal

pub returns-in-Ok-clause-run : goal.returns-in-Ok-clause-run
returns-in-Ok-clause-run c = record { count = c.changes.result; counts = c.changes.ensures; says = rw c.in-Ok.is refl }

pub returns-in-Ok-clause-kept : goal.returns-in-Ok-clause-kept
returns-in-Ok-clause-kept c before s life = record { after = λ going. life; stops = λ files left. life.1.stops files left }

pub returns-in-Err-clause-run : goal.returns-in-Err-clause-run
returns-in-Err-clause-run c = record { count = c.changes.result; counts = c.changes.ensures; says = rw c.in-Err.is refl }

pub returns-in-Err-clause-kept : goal.returns-in-Err-clause-kept
returns-in-Err-clause-kept c before s life = record { after = λ going. life; stops = λ files left. life.1.stops files left }
