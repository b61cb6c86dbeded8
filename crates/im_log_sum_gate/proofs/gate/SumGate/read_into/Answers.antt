use Rattle.std.proofs.Common.{◌≡◌, ◌≢◌, ◌≤◌, ℕ, List, [], ◌∷◌, ◌++◌, ◌+◌, Option, None, Some, Ok, IfSome, take, drop, slice_index, rules, sym, ◌∙◌, ap, subst, arith}
use Rattle.im_base_disk.specs.Disk.{Files}
use Rattle.im_base_disk.proofs.Runs.{only_reads, reads_then}
use Rattle.im_log_one_sync.specs.Batches.{batches_from}
use Rattle.im_log_sum_gate.specs.Batches.{batches, fits, shows_at, Ends, Reaches}
use Rattle.im_log_sum_gate.proofs.Gates.{ends_here, next_reaches, none_closed, none_found, none_unread, records_long, some_unread}
use Rattle.im_log_sum_gate.proofs.gate.SumGate.read_into.Goals as goal

pub returns-then-not-opened-clause-end : goal.returns-then-not-opened-clause-end
returns-then-not-opened-clause-end g c is =
    let gate = c.args.self.now in
    let old : List ℕ = g.D.Disk.seen c.args.disk.now gate.file in
    let new : List ℕ = g.D.Disk.seen c.is_opened.new.disk gate.file in
    let same : old ≡ new = sym (ap (λ (f : Files). f gate.file) c.in_ok-opened.ensures.reads.seen) in
    let other = c.in_ok-opened.ensures.no (ap Ok c.if-not-opened.true) in
    record {
      log = c.requires.reading.log;
      working = search rules;
      ends = λ works told.
          subst (λ (l : List ℕ). Ends gate.header gate.place (batches gate.header l) l) same
          (ends_here gate.header gate.place _ old (c.requires.reading.reaches c.if-self.false told) (none_closed gate.header gate.place old (other told)));
      shut = λ works shut told. subst (λ (l : List ℕ). slice_index l gate.place ≢ 1) same (other told);
      opened = search rules;
      clear = λ works told p from upto. absurd (omega (arith, from, upto));
      durable = λ works. only_reads g.D.Disk gate.file c.args.disk.now c.is_opened.new.disk c.in_ok-opened.ensures.reads (c.requires.reading.durable c.if-self.false);
    }

pub returns-then-not-opened-clause-next : goal.returns-then-not-opened-clause-next
returns-then-not-opened-clause-next g c told =
    let gate = c.args.self.now in
    let old : List ℕ = g.D.Disk.seen c.args.disk.now gate.file in
    none_unread gate.header gate.place old (none_closed gate.header gate.place old (c.in_ok-opened.ensures.no (ap Ok c.if-not-opened.true) told))

pub returns-in_default-clause-next : goal.returns-in_default-clause-next
returns-in_default-clause-next g c told =
    let gate = c.args.self.now in
    let old : List ℕ = g.D.Disk.seen c.args.disk.now gate.file in
    none_unread gate.header gate.place old
    (subst (λ (f : Files). shows_at gate.header gate.place (f gate.file) ≡ None) c.in_ok-opened.ensures.reads.seen (c.in_ok-size.ensures.none (ap Ok (none_found c.in_ok-size.field-0 c.in_default.not-Some)) told))

pub returns-in_default-clause-end : goal.returns-in_default-clause-end
returns-in_default-clause-end g c is =
    let gate = c.args.self.now in
    let old : List ℕ = g.D.Disk.seen c.args.disk.now gate.file in
    let new : List ℕ = g.D.Disk.seen c.batch_at.new.disk gate.file in
    let reads = reads_then g.D.Disk c.args.disk.now c.is_opened.new.disk c.batch_at.new.disk c.in_ok-opened.ensures.reads c.in_ok-size.ensures.reads in
    let same : old ≡ new = sym (ap (λ (f : Files). f gate.file) reads.seen) in
    let none = c.in_ok-size.ensures.none (ap Ok (none_found c.in_ok-size.field-0 c.in_default.not-Some)) in
    record {
      log = c.requires.reading.log;
      working = search rules;
      ends = λ works told.
          subst (λ (l : List ℕ). Ends gate.header gate.place (batches gate.header l) l) same
          (ends_here gate.header gate.place _ old (c.requires.reading.reaches c.if-self.false told)
          (subst (λ (f : Files). shows_at gate.header gate.place (f gate.file) ≡ None) c.in_ok-opened.ensures.reads.seen (none told)));
      shut = search rules;
      opened = λ works opened told. subst (λ (l : List ℕ). slice_index l gate.place ≡ 1) same (c.in_ok-opened.ensures.yes (ap Ok c.if-not-opened.false) told);
      clear = λ works told p from upto. absurd (omega (arith, from, upto));
      durable = λ works. only_reads g.D.Disk gate.file c.args.disk.now c.batch_at.new.disk reads (c.requires.reading.durable c.if-self.false);
    }

pub returns-clause-reading : goal.returns-clause-reading
returns-clause-reading g c =
    let gate = c.args.self.now in
    let old : List ℕ = g.D.Disk.seen c.args.disk.now gate.file in
    let new : List ℕ = g.D.Disk.seen c.batch_at.new.disk gate.file in
    let size : ℕ = c.in-Some.size in
    let r : List ℕ = take size (drop 5 c.batch_at.new.buffer) in
    let reads = reads_then g.D.Disk c.args.disk.now c.is_opened.new.disk c.batch_at.new.disk c.in_ok-opened.ensures.reads c.in_ok-size.ensures.reads in
    let same : old ≡ new = sym (ap (λ (f : Files). f gate.file) reads.seen) in
    let ranged = subst (λ (o : Option ℕ). IfSome o (λ (s : ℕ). (1 ≤ s) × (s ≤ 16376))) c.in-Some.is c.in_ok-size.ensures.size in
    let shown =
    subst (λ (o : Option ℕ). IfSome o (λ (s : ℕ). g.D.Disk.tells → shows_at gate.header gate.place (g.D.Disk.seen c.is_opened.new.disk gate.file) ≡ Some (take s (drop 5 c.batch_at.new.buffer)))) c.in-Some.is c.in_ok-size.ensures.some in
    record {
      log = c.requires.reading.log;
      working = search rules;
      reaches = λ works told.
          subst (λ (l : List ℕ). Reaches gate.header (gate.place + (size + 13)) (batches gate.header (take (gate.place + (size + 13)) l ++ 0 ∷ [])) l) same
          (next_reaches gate.header gate.place size _ old r (records_long size c.batch_at.new.buffer c.args.buffer.now c.batch_at.ensures.buffer c.requires.room ranged.1) (c.requires.reading.reaches c.if-self.false told)
          (subst (λ (f : Files). shows_at gate.header gate.place (f gate.file) ≡ Some r) c.in_ok-opened.ensures.reads.seen (shown told)));
      durable = λ works. only_reads g.D.Disk gate.file c.args.disk.now c.batch_at.new.disk reads (c.requires.reading.durable c.if-self.false);
    }

pub returns-clause-next : goal.returns-clause-next
returns-clause-next g c told =
    let gate = c.args.self.now in
    let old : List ℕ = g.D.Disk.seen c.args.disk.now gate.file in
    let new : List ℕ = g.D.Disk.seen c.batch_at.new.disk gate.file in
    let size : ℕ = c.in-Some.size in
    let r : List ℕ = take size (drop 5 c.batch_at.new.buffer) in
    let reads = reads_then g.D.Disk c.args.disk.now c.is_opened.new.disk c.batch_at.new.disk c.in_ok-opened.ensures.reads c.in_ok-size.ensures.reads in
    let same : old ≡ new = sym (ap (λ (f : Files). f gate.file) reads.seen) in
    let ranged = subst (λ (o : Option ℕ). IfSome o (λ (s : ℕ). (1 ≤ s) × (s ≤ 16376))) c.in-Some.is c.in_ok-size.ensures.size in
    let shown =
    subst (λ (o : Option ℕ). IfSome o (λ (s : ℕ). g.D.Disk.tells → shows_at gate.header gate.place (g.D.Disk.seen c.is_opened.new.disk gate.file) ≡ Some (take s (drop 5 c.batch_at.new.buffer)))) c.in-Some.is c.in_ok-size.ensures.some in
    some_unread gate.header gate.place size old r (records_long size c.batch_at.new.buffer c.args.buffer.now c.batch_at.ensures.buffer c.requires.room ranged.1)
    (subst (λ (f : Files). shows_at gate.header gate.place (f gate.file) ≡ Some r) c.in_ok-opened.ensures.reads.seen (shown told))
    ∙ ap (λ (l : List ℕ). r ∷ batches_from (fits gate.header.salt) 0 (gate.header.start.base + (gate.place + (size + 13))) (drop (gate.place + (size + 13)) l)) same
