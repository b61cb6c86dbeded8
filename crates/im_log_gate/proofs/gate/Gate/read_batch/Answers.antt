use Rattle.std.proofs.Common.{rules, ◌≡◌, Ok, Bool, true, false, refl, ◌+◌, ◌∙◌, sym, ap}
use Rattle.im_base_disk.specs.Disk.{Files}
use Rattle.im_base_disk.proofs.Runs.{reads_then}
use Rattle.im_log_gate.proofs.Reading.{read_at, ends_here, next_is, moves_on}
use Rattle.im_log_gate.proofs.gate.Gate.read_batch.Goals as goal

not_true : (b : Bool) → (b ≡ true → ⊥) → b ≡ false
not_true true never = absurd (never refl)
not_true false never = refl

pub returns-in-Ok-None-clause-next : goal.returns-in-Ok-None-clause-next
returns-in-Ok-None-clause-next g c told =
    let works = c.if-self.false in
    ends_here (g.D.Disk.seen c.args.disk.now c.args.self.now.file) c.args.self.now.place (c.requires.reading.reaches works told).within (c.in-Ok-None.ensures.closed (ap Ok c.in-Ok-None.field-0-is) told)

pub returns-clause-next : goal.returns-clause-next
returns-clause-next g c told =
    let whole = rw c.in-Ok-Some.field-0-is at c.in-Ok-Some.ensures.whole in
    let w = whole told in
    let first = c.batch_size.ensures.outcome.reads.seen in
    let seen = ap (λ (f : Files). f c.args.self.now.file) (c.in-Ok.ensures.reads.seen ∙ first) in
    next_is c.args.self.now.first (g.D.Disk.seen c.args.disk.now c.args.self.now.file) c.args.self.now.place (c.requires.reading.reaches c.if-self.false told) w.0 w.1 c.in-Ok-Some.size w.2 (g.D.Disk.seen c.read_vec.new.disk c.args.self.now.file) seen
    c.in-Ok.records.items (read_at c.args.self.now.file (g.D.Disk.seen c.args.disk.now) (g.D.Disk.seen c.batch_size.new.disk) first (c.args.self.now.place + 5) c.in-Ok-Some.size c.in-Ok.records.items (c.in-Ok.ensures.read told))

pub returns-clause-outcome : goal.returns-clause-outcome
returns-clause-outcome g c =
    let whole = rw c.in-Ok-Some.field-0-is at c.in-Ok-Some.ensures.whole in
    let first = c.batch_size.ensures.outcome.reads.seen in
    let seen = ap (λ (f : Files). f c.args.self.now.file) (c.in-Ok.ensures.reads.seen ∙ first) in
    record {
      reading = record {
        working = λ works. not_true (g.D.Disk.failed c.read_vec.new.disk) (λ failed. let clash = c.in-Ok.ensures.device.1 failed in cc (clash));
        reaches = λ works told. let w = whole told in moves_on c.args.self.now.first (g.D.Disk.seen c.args.disk.now c.args.self.now.file) c.args.self.now.place (c.requires.reading.reaches works told) w.0 w.1 c.in-Ok-Some.size w.2 (g.D.Disk.seen c.read_vec.new.disk c.args.self.now.file) seen;
        durable = λ works f left. c.requires.reading.durable works f (c.batch_size.ensures.outcome.reads.outcomes f (c.in-Ok.ensures.reads.outcomes f left)) ∙ sym seen;
      };
      same = search rules;
      reads = reads_then g.D.Disk c.args.disk.now c.batch_size.new.disk c.read_vec.new.disk c.batch_size.ensures.outcome.reads c.in-Ok.ensures.reads;
      usable = search rules;
      refusals = search rules;
    }
