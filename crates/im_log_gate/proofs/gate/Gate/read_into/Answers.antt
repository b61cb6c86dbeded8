use Rattle.std.proofs.Common.{rules, ◌≡◌, ◌≤◌, Ok, ℕ, ◌+◌, ◌∙◌, sym, ap, arith, length, take, drop, length-take-le}
use Rattle.im_base_disk.specs.Disk.{Files}
use Rattle.im_base_disk.proofs.Runs.{reads_then}
use Rattle.im_log_gate.proofs.Reading.{read_at, ends_here, next_in_front, moves_on}
use Rattle.im_log_gate.proofs.gate.Gate.read_into.Goals as goal

pub returns-in-Ok-None-clause-next : goal.returns-in-Ok-None-clause-next
returns-in-Ok-None-clause-next g c told =
    let works = c.if-self.false in
    ends_here (g.D.Disk.seen c.args.disk.now c.args.self.now.file) c.args.self.now.place (c.requires.reading.reaches works told).within (c.in-Ok-None.ensures.closed (ap Ok c.in-Ok-None.field-0-is) told)

pub returns-clause-next : goal.returns-clause-next
returns-clause-next g c told =
    let whole = rw c.in-Ok-Some.field-0-is at c.in-Ok-Some.ensures.whole in
    let bounds = rw c.in-Ok-Some.field-0-is at c.in-Ok-Some.ensures.bounds in
    let w = whole told in
    let size = c.in-Ok-Some.size in
    let buffer = c.args.buffer.now in
    let fits : size ≤ length buffer = omega (arith, bounds.0, c.requires.room) in
    let cut : length (take size buffer) ≡ size = length-take-le size buffer fits in
    let long : length c.read.new.buf ≡ size = c.read.auto.buf ∙ cut in
    let first = c.batch_size.ensures.outcome.reads.seen in
    let seen = ap (λ (f : Files). f c.args.self.now.file) (c.in-Ok.ensures.reads.seen ∙ first) in
    let found = c.in-Ok.ensures.read told ∙ ap (λ (n : ℕ). take n (drop (c.args.self.now.place + 5) (g.D.Disk.seen c.batch_size.new.disk c.args.self.now.file))) cut in
    next_in_front c.args.self.now.first (g.D.Disk.seen c.args.disk.now c.args.self.now.file) c.args.self.now.place (c.requires.reading.reaches c.if-self.false told) w.0 w.1 size w.2 (g.D.Disk.seen c.read.new.self c.args.self.now.file) seen
    c.read.new.buf (drop size buffer) long (read_at c.args.self.now.file (g.D.Disk.seen c.args.disk.now) (g.D.Disk.seen c.batch_size.new.disk) first (c.args.self.now.place + 5) size c.read.new.buf found)

pub returns-clause-outcome : goal.returns-clause-outcome
returns-clause-outcome g c =
    let whole = rw c.in-Ok-Some.field-0-is at c.in-Ok-Some.ensures.whole in
    let seen = ap (λ (f : Files). f c.args.self.now.file) (c.in-Ok.ensures.reads.seen ∙ c.batch_size.ensures.outcome.reads.seen) in
    record {
      reading = record {
        working = λ works. c.in-Ok.ensures.answers.noted;
        reaches = λ works told. let w = whole told in moves_on c.args.self.now.first (g.D.Disk.seen c.args.disk.now c.args.self.now.file) c.args.self.now.place (c.requires.reading.reaches works told) w.0 w.1 c.in-Ok-Some.size w.2 (g.D.Disk.seen c.read.new.self c.args.self.now.file) seen;
        durable = λ works f left. c.requires.reading.durable works f (c.batch_size.ensures.outcome.reads.outcomes f (c.in-Ok.ensures.reads.outcomes f left)) ∙ sym seen;
      };
      same = search rules;
      reads = reads_then g.D.Disk c.args.disk.now c.batch_size.new.disk c.read.new.self c.batch_size.ensures.outcome.reads c.in-Ok.ensures.reads;
      usable = search rules;
      refusals = search rules;
    }
