use Rattle.im_page_writer.specs.Outcome.{AsksNothing}
use Rattle.im_page_writer.proofs.Outcomes.{behind, none_still}
use Rattle.im_page_writer.proofs.page_writer.PageWriter.flush_next.Goals as goal

pub returns-in-Some-clause-outcome : goal.returns-in-Some-clause-outcome
returns-in-Some-clause-outcome g c = behind g.D.Disk AsksNothing none_still c.in_ok-flush_far.ensures.outcome c.flush_with_others.ensures.outcome
