use Rattle.std.proofs.Common.{subst, sym}
use Rattle.im_calls.specs.Sessions.{TellsEnd}
use Rattle.im_calls.proofs.opened.Opened.close.Goals as goal

pub returns-in-Ok-clause-ended : goal.returns-in-Ok-clause-ended
returns-in-Ok-clause-ended g c = record {
  result = c.close-ended.result.0;
  disk = c.close-ended.result.1;
  end = c.close-ended.ensures;
  tells = subst (TellsEnd c.tell.new.call) (sym c.in-Ok.is) c.tell.ensures.told;
}

pub returns-clause-ended : goal.returns-clause-ended
returns-clause-ended g c = record {
  result = c.close-ended.result.0;
  disk = c.close-ended.result.1;
  end = c.close-ended.ensures;
  tells = subst (TellsEnd c.refuse.new.call) (sym c.in-Err.is) c.refuse.ensures.told;
}
