use Rattle.std.proofs.Common.{◌≡◌, inl, inr, ◌+◌, ◌<◌, ◌∙◌, sym, arith, drop, length}
use Rattle.im_log_gate.specs.Batches.{batch_length}
use Rattle.im_log_gate.proofs.Reading.{read_at, gate_is, length_is, missing, broken, cut_short, fits, out_of_range}
use Rattle.im_log_gate.proofs.size.batch_size.Goals as goal
use Rattle.im_log_gate.proofs.size.batch_size.Goals.{then-size-eq0-via-then-size-eq0, then-size-eq0-via-else-size-eq0+then-size-gt-BATCH, then-size-eq0-via-else-size-eq0+else-size-gt-BATCH+then-size-behind}

pub returns-then-place-end-clause-refused : goal.returns-then-place-end-clause-refused
returns-then-place-end-clause-refused g c same told = missing (g.D.Disk.seen c.args.disk.now c.args.file) c.args.place (omega (arith, c.in_ok-end.ensures.len told, c.if-place-end.true))

pub returns-then-behind-lt4-clause-refused : goal.returns-then-behind-lt4-clause-refused
returns-then-behind-lt4-clause-refused g c same told =
    let file = g.D.Disk.seen c.args.disk.now c.args.file in
    let end = c.in_ok-end.ensures.len told in
    let gate = gate_is file c.args.place c.read.new.buf (read_at c.args.file (g.D.Disk.seen c.args.disk.now) (g.D.Disk.seen c.len.new.self) c.in_ok-end.ensures.reads.seen c.args.place 1 c.read.new.buf (c.in_ok-read.ensures.read told)) in
    cut_short file c.args.place (omega (arith, end, c.if-place-end.false)) (sym gate ∙ c.if-gate-ne1.false) (omega (arith, end, c.if-behind-lt4.true))

pub returns-clause-whole : goal.returns-clause-whole
returns-clause-whole g c told =
    let file = g.D.Disk.seen c.args.disk.now c.args.file in
    let end = c.in_ok-end.ensures.len told in
    let within : c.args.place < length file = omega (arith, end, c.if-place-end.false) in
    let gate = gate_is file c.args.place c.read.new.buf (read_at c.args.file (g.D.Disk.seen c.args.disk.now) (g.D.Disk.seen c.len.new.self) c.in_ok-end.ensures.reads.seen c.args.place 1 c.read.new.buf (c.in_ok-read.ensures.read told)) in
    let seen = c.in_ok-read.ensures.reads.seen ∙ c.in_ok-end.ensures.reads.seen in
    let is : batch_length (drop (c.args.place + 1) file) ≡ c.from-size.result = length_is file c.args.place c.read-2.new.buf
    (read_at c.args.file (g.D.Disk.seen c.args.disk.now) (g.D.Disk.seen c.read.new.self) seen (c.args.place + 1) 4 c.read-2.new.buf (c.in_ok-read-2.ensures.read told)) ∙ sym c.read_u32.ensures ∙ sym c.from-size.ensures in
    (sym gate ∙ c.if-gate-ne1.false, fits file c.args.place within c.from-size.result is c.if-size-eq0.false c.if-size-gt-BATCH.false (omega (arith, end, c.if-size-behind.false)), is)

pub returns-then-size-eq0-clause-refused : goal.returns-then-size-eq0-clause-refused
returns-then-size-eq0-clause-refused g c same told =
    let file = g.D.Disk.seen c.args.disk.now c.args.file in
    let end = c.in_ok-end.ensures.len told in
    let within : c.args.place < length file = omega (arith, end, c.if-place-end.false) in
    let gate = gate_is file c.args.place c.read.new.buf (read_at c.args.file (g.D.Disk.seen c.args.disk.now) (g.D.Disk.seen c.len.new.self) c.in_ok-end.ensures.reads.seen c.args.place 1 c.read.new.buf (c.in_ok-read.ensures.read told)) in
    let seen = c.in_ok-read.ensures.reads.seen ∙ c.in_ok-end.ensures.reads.seen in
    let is : batch_length (drop (c.args.place + 1) file) ≡ c.from-size.result = length_is file c.args.place c.read-2.new.buf
    (read_at c.args.file (g.D.Disk.seen c.args.disk.now) (g.D.Disk.seen c.read.new.self) seen (c.args.place + 1) 4 c.read-2.new.buf (c.in_ok-read-2.ensures.read told)) ∙ sym c.read_u32.ensures ∙ sym c.from-size.ensures in
    broken file c.args.place within (sym gate ∙ c.if-gate-ne1.false) (out_of_range file c.args.place within c.from-size.result is
    (elim c.then-size-eq0.branch [
      | then-size-eq0-via-then-size-eq0 w ↦ inl w.if-size-eq0.true
      | then-size-eq0-via-else-size-eq0+then-size-gt-BATCH w ↦ inr (inl w.if-size-gt-BATCH.true)
      | then-size-eq0-via-else-size-eq0+else-size-gt-BATCH+then-size-behind w ↦ inr (inr (omega (arith, end, w.if-size-behind.true)))
    ]))
