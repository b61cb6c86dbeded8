use Rattle.std.proofs.Common.{refl}
use Rattle.im_tool_judge.proofs.Shows.{found_change, found_died, found_turned, found_returned, found_resumed, found_waited}
use Rattle.im_tool_judge.proofs.happened.behind.Goals as goal

pub returns-in_ok-push-in-Changed : goal.returns-in_ok-push-in-Changed
returns-in_ok-push-in-Changed c r found = found_change c.args.found _ r c.args.what.now _ _ c.in-Changed.is found refl refl c.in_ok-push-in-Changed.ensures.items c.in_ok-copied-in-Changed.ensures

pub returns-in-Died : goal.returns-in-Died
returns-in-Died c r found = found_died c.args.found _ r c.args.what.now c.in-Died.is found c.stopped.ensures.going c.stopped.ensures.changes c.stopped.ensures.pending

pub returns-in-Turned : goal.returns-in-Turned
returns-in-Turned c r found = found_turned c.args.found _ r c.args.what.now c.in-Turned.is found c.stopped-in-Turned.ensures.going c.stopped-in-Turned.ensures.changes c.stopped-in-Turned.ensures.pending

pub returns-in-Returned : goal.returns-in-Returned
returns-in-Returned c r found = found_returned c.args.found _ r c.args.what.now _ c.in-Returned.is found c.returned.ensures.going c.returned.ensures.changes c.returned.ensures.pending

pub returns-in-Resumed : goal.returns-in-Resumed
returns-in-Resumed c r found = found_resumed c.args.found _ r c.args.what.now c.in-Resumed.is found c.resumed.ensures.going c.resumed.ensures.changes c.resumed.ensures.pending

pub returns-in-Waited : goal.returns-in-Waited
returns-in-Waited c r found = found_waited c.args.found _ r c.args.what.now c.in-Waited.is found c.stopped-in-Waited.ensures.going c.stopped-in-Waited.ensures.changes c.stopped-in-Waited.ensures.pending
