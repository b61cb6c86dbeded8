use Rattle.std.proofs.Common.{subst}
use Rattle.im_log_record.specs.Entry.{Entry}
use Rattle.im_base_types.specs.Outcomes.{fault_of}
use Rattle.im_log.specs.Kept.{AppendKept}
use Rattle.im_log.specs.Outcome.{LacksRoom, LogOutcome}
use Rattle.im_log_record.specs.Spelling.{size_of}
use Rattle.im_page_writer.proofs.page_writer.checkpoints.append_tables.Goals as goal

pub returns-clause-kept : goal.returns-clause-kept
returns-clause-kept g c base all durable is =
    subst (λ (e : Entry). AppendKept g.D.Disk base all durable e c.args.disk.now c.append.new.self c.append.new.disk c.append.result) c.checkpoint-record.ensures.view (c.append.ensures.kept base all durable is)

pub returns-clause-outcome : goal.returns-clause-outcome
returns-clause-outcome g c =
    subst (λ (e : Entry). LogOutcome g.D.Disk (LacksRoom (size_of e) c.append.new.self) c.args.log.now c.args.disk.now c.append.new.self c.append.new.disk (fault_of c.append.result)) c.checkpoint-record.ensures.view c.append.ensures.outcome
