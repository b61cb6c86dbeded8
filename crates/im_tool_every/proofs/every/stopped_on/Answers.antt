use Rattle.im_tool_every.proofs.every.stopped_on.Goals as goal

pub returns-clause-stopped : goal.returns-clause-stopped
returns-clause-stopped g c = (c.in_ok-copy.copy, record { bytes = c.in_ok-copy.ensures.bytes; fresh = c.in_ok-copy.ensures.fresh }, c.in_ok-next.ensures.stopped)
