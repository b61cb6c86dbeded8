use Rattle.std.proofs.Common.{subst, sym}
use Rattle.im_calls.specs.Sessions.{TellsEnd}
use Rattle.im_calls.proofs.loading.tell_end.Goals as goal

pub returns-in-Ok-clause-told : goal.returns-in-Ok-clause-told
returns-in-Ok-clause-told c = subst (TellsEnd c.tell.new.call) (sym c.in-Ok.is) c.tell.ensures.told

pub returns-in-Err-clause-told : goal.returns-in-Err-clause-told
returns-in-Err-clause-told c = subst (TellsEnd c.refuse.new.call) (sym c.in-Err.is) c.refuse.ensures.told
