use Rattle.im_base_disk.proofs.Runs.{in_weakened}
use Rattle.im_log_header.specs.Header.{IsBeingMade}
use Rattle.im_log_gate.specs.Header.{IsBlank}
use Rattle.im_log_gate.proofs.Making.{being_made, new_log}
use Rattle.im_log_gate.proofs.creation.make_new.Goals as goal

pub returns-in_err-make_log-clause-any_moment : goal.returns-in_err-make_log-clause-any_moment
returns-in_err-make_log-clause-any_moment g c =
    in_weakened g.D.Disk c.args.file c.args.disk.now c.make_log.new.disk (IsBeingMade (g.D.Disk.seen c.args.disk.now c.args.file) 1 0 1) IsBlank (c.make_log.ensures.any_moment c.requires.durable)
    (λ told bytes p. being_made (g.D.Disk.seen c.args.disk.now c.args.file) bytes (c.requires.unmade told) p)

pub returns-clause-any_moment : goal.returns-clause-any_moment
returns-clause-any_moment g c =
    in_weakened g.D.Disk c.args.file c.args.disk.now c.make_log.new.disk (IsBeingMade (g.D.Disk.seen c.args.disk.now c.args.file) 1 0 1) IsBlank (c.make_log.ensures.any_moment c.requires.durable)
    (λ told bytes p. being_made (g.D.Disk.seen c.args.disk.now c.args.file) bytes (c.requires.unmade told) p)

pub returns-clause-made : goal.returns-clause-made
returns-clause-made g c told = new_log (g.D.Disk.seen c.make_log.new.disk c.args.file) (c.in_ok-make_log.ensures.made told)
