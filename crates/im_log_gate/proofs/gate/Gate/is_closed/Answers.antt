use Rattle.std.proofs.Common.{List, ℕ}
use Rattle.im_log_gate.proofs.BatchesAhead.{closed_there}
use Rattle.im_log_gate.proofs.Reading.{ends_here}
use Rattle.im_log_gate.proofs.gate.Gate.is_closed.Goals as goal

pub returns-clause-closed : goal.returns-clause-closed
returns-clause-closed g c ends =
    let gate = c.args.self.now in
    let shown = c.begins_closed.ensures.0 ends in
    record {
      reading = c.requires.reading;
      closed = λ works told. closed_there (g.D.Disk.seen c.args.disk.now gate.file) gate.place c.args.ahead.now (c.requires.ahead works told) shown.0 shown.1;
    }

pub returns-clause-end : goal.returns-clause-end
returns-clause-end g c ends works told =
    let gate = c.args.self.now in
    let file : List ℕ = g.D.Disk.seen c.args.disk.now gate.file in
    let shown = c.begins_closed.ensures.0 ends in
    ends_here file gate.place (c.requires.reading.reaches works told).within (closed_there file gate.place c.args.ahead.now (c.requires.ahead works told) shown.0 shown.1)
