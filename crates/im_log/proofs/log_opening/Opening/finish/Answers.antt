use Rattle.std.proofs.Common.{sym, ◌∙◌}
use Rattle.im_log.proofs.Openings.{opened}
use Rattle.im_log.proofs.log_opening.Opening.finish.Goals as goal

pub returns-clause-kept : goal.returns-clause-kept
returns-clause-kept g c base all older e = opened g.D.Disk base all older c.args.self c.at_end.result c.args.disk.now (c.requires.begun.starts e.tells) c.requires.ended (c.requires.begun.working c.requires.usable) e (c.at_end.ensures.log.0, c.at_end.ensures.log.1 ∙ sym c.args.self.of_gate, c.at_end.ensures.log.2, c.at_end.ensures.log.3, c.at_end.ensures.log.4)
