use Rattle.std.proofs.Common.{refl, ◌∙◌}
use Rattle.im_page_writer.specs.Outcome.{AsksNothing}
use Rattle.im_page_writer.proofs.Outcomes.{behind, handed_on, idle_any, none_still}
use Rattle.im_page_writer.proofs.page_writer.PageWriter.note_copies.Goals as goal

pub loop-i-init : goal.loop-i-init
loop-i-init g c = record { outcome = idle_any g.D.Disk g.met.D.Disk.only_now c.args.self.now c.args.disk.now c.requires.working c.requires.ready; pool = refl }

pub loop-i-preserved : goal.loop-i-preserved
loop-i-preserved g c = record {
  outcome = behind g.D.Disk AsksNothing none_still c.loop-i.invariant.outcome c.in_ok-note_with_room.ensures.outcome;
  pool = c.note_with_room.ensures.pool ∙ c.loop-i.invariant.pool;
}

pub returns-in_err-note_with_room-clause-outcome : goal.returns-in_err-note_with_room-clause-outcome
returns-in_err-note_with_room-clause-outcome g c = handed_on g.D.Disk c.from_residual.result c.from_residual.ensures.1 (behind g.D.Disk AsksNothing none_still c.loop-i.invariant.outcome c.in_err-note_with_room.ensures.outcome)
