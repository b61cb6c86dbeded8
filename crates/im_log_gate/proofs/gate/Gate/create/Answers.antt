use Rattle.im_log_gate.proofs.Starts.{new_gate}
use Rattle.im_log_gate.proofs.gate.Gate.create.Goals as goal

pub returns-clause-gate : goal.returns-clause-gate
returns-clause-gate g c =
    let new = c.make_new.new.disk in
    let made = c.in_ok-make_new.ensures.made in
    new_gate g.D.Disk c.args.file c.at_start.result new c.at_start.ensures.gate (λ told. c.at_start.ensures.starts (g.D.Disk.seen new c.args.file) (made told).says) made c.in_ok-make_new.ensures.answers.noted c.in_ok-make_new.ensures.durable
