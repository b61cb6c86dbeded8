use Rattle.im_tool_every.proofs.failing.fail_after.Goals as goal

pub returns-clause-later : goal.returns-clause-later
returns-clause-later g c = record {
  stop = c.in_ok-stop.stop;
  is_at = c.in_ok-stop.ensures;
  next = c.in_ok-next.next;
  mid = c.after.new.counts;
  after = c.in_ok-next.ensures;
  opened = c.in_ok-fail_opening.ensures;
}
