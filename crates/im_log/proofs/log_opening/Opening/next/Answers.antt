use Rattle.std.proofs.Common.{◌≡◌, true, false, Ok, ap, rules}
use Rattle.im_log.proofs.Openings.{all_read, next_step, not_refused_here, filled}
use Rattle.im_log.proofs.Backward.{read_step, read_filled, read_all}
use Rattle.im_log.proofs.log_opening.Opening.next.Goals as goal

pub returns-in_err-step-clause-kept : goal.returns-in_err-step-clause-kept
returns-in_err-step-clause-kept g c base all older h = record {
  ok = search rules;
  cause = absurd (not_refused_here g.D.Disk base all older c.args.self.now c.args.disk.now h c.if-self-2.true c.in_err-step.ensures.refused.1);
}

pub returns-then-self-2-clause-kept : goal.returns-then-self-2-clause-kept
returns-then-self-2-clause-kept g c base all older h = record {
  ok = next_step g.D.Disk base all older c.args.self.now c.step.new.self c.args.disk.now c.in_ok-step.field-0 h c.in_ok-step.ensures.stepped c.step.ensures.gate c.step.ensures.behind c.step.ensures.same.base c.in_ok-step.ensures.same.failed;
  cause = search rules;
}

pub returns-clause-kept : goal.returns-clause-kept
returns-clause-kept g c base all older h =
    let full : c.in_ok-fill.field-0 ≡ true = search rules in
    let read = c.in_ok-fill.ensures.read (ap Ok full) in
    let there = filled g.D.Disk base all older c.args.self.now c.fill.new.self c.args.disk.now c.fill.new.disk h c.if-self-2.false c.fill.ensures.outcome.reads.seen (c.in_ok-fill.ensures.one (ap Ok full) h.tells) read c.fill.ensures.outcome.base c.in_ok-fill.ensures.outcome.failed in
    record {
      ok = next_step g.D.Disk base all older c.fill.new.self c.step-2.new.self c.fill.new.disk c.in_ok-step-2.field-0 there c.in_ok-step-2.ensures.stepped c.step-2.ensures.gate c.step-2.ensures.behind c.step-2.ensures.same.base c.in_ok-step-2.ensures.same.failed;
      cause = search rules;
    }

pub returns-then-self-2-clause-reads_on : goal.returns-then-self-2-clause-reads_on
returns-then-self-2-clause-reads_on g c base older h = record {
  ok = λ entry is.
      read_step g.D.Disk base older c.args.self.now c.step.new.self c.args.disk.now c.in_ok-step.field-0 entry h c.in_ok-step.ensures.stepped c.step.ensures.gate c.step.ensures.behind c.step.ensures.same.base c.in_ok-step.ensures.same.failed is;
}

pub returns-clause-reads_on : goal.returns-clause-reads_on
returns-clause-reads_on g c base older h =
    let full : c.in_ok-fill.field-0 ≡ true = search rules in
    let read = c.in_ok-fill.ensures.read (ap Ok full) in
    let there = read_filled g.D.Disk base older c.args.self.now c.fill.new.self c.args.disk.now c.fill.new.disk h c.if-self-2.false c.fill.ensures.outcome.reads.seen (c.in_ok-fill.ensures.one (ap Ok full) h.tells) read c.fill.ensures.outcome.base c.in_ok-fill.ensures.outcome.failed in
    record {
      ok = λ entry is.
          read_step g.D.Disk base older c.fill.new.self c.step-2.new.self c.fill.new.disk c.in_ok-step-2.field-0 entry there c.in_ok-step-2.ensures.stepped c.step-2.ensures.gate c.step-2.ensures.behind c.step-2.ensures.same.base c.in_ok-step-2.ensures.same.failed is;
    }

pub returns-then-not-branch-clause-reads_on : goal.returns-then-not-branch-clause-reads_on
returns-then-not-branch-clause-reads_on g c base older h =
    let empty : c.in_ok-fill.field-0 ≡ false = search rules in
    record { ok = read_all g.D.Disk base older c.args.self.now c.fill.new.self c.args.disk.now c.fill.new.disk h c.if-self-2.false c.fill.ensures.outcome.reads.seen ((c.in_ok-fill.ensures.ended (ap Ok empty)).none h.tells) c.fill.ensures.outcome.base }

pub returns-then-not-branch-clause-kept : goal.returns-then-not-branch-clause-kept
returns-then-not-branch-clause-kept g c base all older h =
    let empty : c.in_ok-fill.field-0 ≡ false = search rules in
    record {
      ok = all_read g.D.Disk base all older c.args.self.now c.fill.new.self c.args.disk.now c.fill.new.disk h c.if-self-2.false c.fill.ensures.outcome.reads.seen ((c.in_ok-fill.ensures.ended (ap Ok empty)).none h.tells) c.fill.ensures.outcome.base;
      cause = search rules;
    }

pub returns-in_err-step-2-clause-kept : goal.returns-in_err-step-2-clause-kept
returns-in_err-step-2-clause-kept g c base all older h =
    let full : c.in_ok-fill.field-0 ≡ true = search rules in
    let read = c.in_ok-fill.ensures.read (ap Ok full) in
    let there = filled g.D.Disk base all older c.args.self.now c.fill.new.self c.args.disk.now c.fill.new.disk h c.if-self-2.false c.fill.ensures.outcome.reads.seen (c.in_ok-fill.ensures.one (ap Ok full) h.tells) read c.fill.ensures.outcome.base c.in_ok-fill.ensures.outcome.failed in
    record {
      ok = search rules;
      cause = absurd (not_refused_here g.D.Disk base all older c.fill.new.self c.fill.new.disk there read.some c.in_err-step-2.ensures.refused.1);
    }
