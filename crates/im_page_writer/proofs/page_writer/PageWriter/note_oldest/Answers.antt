use Rattle.std.proofs.Common.{refl, ◌∙◌}
use Rattle.im_base_disk.proofs.Runs.{reads_none, reads_then}
use Rattle.im_page_writer.specs.Outcome.{AsksNothing}
use Rattle.im_page_writer.proofs.Outcomes.{behind, handed_on, idle_any, none_still}
use Rattle.im_page_writer.proofs.page_writer.PageWriter.note_oldest.Goals as goal

pub returns-then-not-takes_more-clause-outcome : goal.returns-then-not-takes_more-clause-outcome
returns-then-not-takes_more-clause-outcome g c = idle_any g.D.Disk g.met.D.Disk.only_now c.args.self.now c.args.disk.now c.requires.working c.requires.ready

pub returns-then-not-takes_more-clause-reads : goal.returns-then-not-takes_more-clause-reads
returns-then-not-takes_more-clause-reads g c = reads_none g.D.Disk c.args.disk.now

pub loop-walk-init : goal.loop-walk-init
loop-walk-init g c = record {
  outcome = idle_any g.D.Disk g.met.D.Disk.only_now c.args.self.now c.args.disk.now c.requires.working c.requires.ready;
  pool = refl;
  reads = reads_none g.D.Disk c.args.disk.now;
  room = λ q has. has;
  numbers = refl;
}

pub loop-walk-preserved : goal.loop-walk-preserved
loop-walk-preserved g c = record {
  outcome = behind g.D.Disk AsksNothing none_still c.loop-walk.invariant.outcome c.in_ok-note_next.ensures.outcome;
  pool = c.note_next.ensures.pool ∙ c.loop-walk.invariant.pool;
  reads = reads_then g.D.Disk c.args.disk.now c.loop-walk.disk c.note_next.new.disk c.loop-walk.invariant.reads c.note_next.ensures.reads;
  room = λ q has. c.note_next.ensures.room q (c.loop-walk.invariant.room q has);
  numbers = c.note_next.ensures.numbers ∙ c.loop-walk.invariant.numbers;
}

pub returns-in_err-note_next-clause-outcome : goal.returns-in_err-note_next-clause-outcome
returns-in_err-note_next-clause-outcome g c = handed_on g.D.Disk c.from_residual.result c.from_residual.ensures.1 (behind g.D.Disk AsksNothing none_still c.loop-walk.invariant.outcome c.in_err-note_next.ensures.outcome)

pub returns-in_err-note_next-clause-pool : goal.returns-in_err-note_next-clause-pool
returns-in_err-note_next-clause-pool g c = c.note_next.ensures.pool ∙ c.loop-walk.invariant.pool

pub returns-in_err-note_next-clause-reads : goal.returns-in_err-note_next-clause-reads
returns-in_err-note_next-clause-reads g c = reads_then g.D.Disk c.args.disk.now c.loop-walk.disk c.note_next.new.disk c.loop-walk.invariant.reads c.note_next.ensures.reads

pub returns-in_err-note_next-clause-room : goal.returns-in_err-note_next-clause-room
returns-in_err-note_next-clause-room g c q has = c.note_next.ensures.room q (c.loop-walk.invariant.room q has)

pub returns-in_err-note_next-clause-numbers : goal.returns-in_err-note_next-clause-numbers
returns-in_err-note_next-clause-numbers g c = c.note_next.ensures.numbers ∙ c.loop-walk.invariant.numbers

pub returns-then-not-branch-clause-outcome : goal.returns-then-not-branch-clause-outcome
returns-then-not-branch-clause-outcome g c = behind g.D.Disk AsksNothing none_still c.loop-walk.invariant.outcome c.in_ok-note_next.ensures.outcome
