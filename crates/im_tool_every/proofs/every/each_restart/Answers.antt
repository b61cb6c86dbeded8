use Rattle.im_tool_every.proofs.every.each_restart.Goals as goal

pub returns : goal.returns
returns g c = record {
  calls = c.in_ok-calls.calls;
  plain = c.judge.new.counts;
  judged = c.in_ok-calls.ensures;
  last = c.restart_calls.new.counts;
  each = c.in_ok-restart_calls.ensures;
  at_end = c.in_ok-restart_end.ensures;
}
