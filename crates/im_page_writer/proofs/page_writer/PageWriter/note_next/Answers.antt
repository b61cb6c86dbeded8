use Rattle.std.proofs.Common.{refl, ◌∙◌}
use Rattle.im_base_disk.proofs.Runs.{reads_none, reads_then}
use Rattle.im_page_writer.specs.Outcome.{AsksNothing}
use Rattle.im_page_writer.proofs.Outcomes.{behind, handed_on, idle_any, none_still}
use Rattle.im_page_writer.proofs.page_writer.PageWriter.note_next.Goals as goal

pub loop-at-init : goal.loop-at-init
loop-at-init g c = record {
  outcome = idle_any g.D.Disk g.met.D.Disk.only_now c.args.self.now c.args.disk.now c.requires.working c.requires.ready;
  pool = refl;
  reads = reads_none g.D.Disk c.args.disk.now;
  room = λ q has. has;
  numbers = refl;
}

pub loop-at-preserved : goal.loop-at-preserved
loop-at-preserved g c = record {
  outcome = behind g.D.Disk AsksNothing none_still c.loop-at.invariant.outcome c.in_ok-note_with_room.ensures.outcome;
  pool = c.note_with_room.ensures.pool ∙ c.loop-at.invariant.pool;
  reads = reads_then g.D.Disk c.args.disk.now c.loop-at.disk c.note_with_room.new.disk c.loop-at.invariant.reads c.note_with_room.ensures.reads;
  room = λ q has. c.note_with_room.ensures.room q (c.loop-at.invariant.room q has);
  numbers = c.note_with_room.ensures.numbers ∙ c.loop-at.invariant.numbers;
}

pub returns-in_err-note_with_room-clause-outcome : goal.returns-in_err-note_with_room-clause-outcome
returns-in_err-note_with_room-clause-outcome g c = handed_on g.D.Disk c.from_residual.result c.from_residual.ensures.1 (behind g.D.Disk AsksNothing none_still c.loop-at.invariant.outcome c.in_err-note_with_room.ensures.outcome)

pub returns-in_err-note_with_room-clause-pool : goal.returns-in_err-note_with_room-clause-pool
returns-in_err-note_with_room-clause-pool g c = c.note_with_room.ensures.pool ∙ c.loop-at.invariant.pool

pub returns-in_err-note_with_room-clause-reads : goal.returns-in_err-note_with_room-clause-reads
returns-in_err-note_with_room-clause-reads g c = reads_then g.D.Disk c.args.disk.now c.loop-at.disk c.note_with_room.new.disk c.loop-at.invariant.reads c.note_with_room.ensures.reads

pub returns-in_err-note_with_room-clause-room : goal.returns-in_err-note_with_room-clause-room
returns-in_err-note_with_room-clause-room g c q has = c.note_with_room.ensures.room q (c.loop-at.invariant.room q has)

pub returns-in_err-note_with_room-clause-numbers : goal.returns-in_err-note_with_room-clause-numbers
returns-in_err-note_with_room-clause-numbers g c = c.note_with_room.ensures.numbers ∙ c.loop-at.invariant.numbers
