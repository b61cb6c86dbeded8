use Rattle.std.proofs.Common.{Option, IfSome, rules, sym, subst}
use Rattle.im_base_disk.specs.Disk.{Files}
use Rattle.im_base_disk.proofs.Runs.{only_reads}
use Rattle.im_log_third_header.specs.declared.header.ThirdHeader.{ThirdHeader}
use Rattle.im_log_third_header.specs.Header.{HasHeader}
use Rattle.im_log_sum_gate.proofs.Gates.{opened_reaches, opened_unread}
use Rattle.im_log_sum_gate.proofs.gate.SumGate.open.Goals as goal

pub returns-clause-reading : goal.returns-clause-reading
returns-clause-reading g c =
    let has = subst (λ (o : Option ThirdHeader). IfSome o (λ (h : ThirdHeader). g.D.Disk.tells → HasHeader h (g.D.Disk.seen c.args.disk.now c.args.file))) c.in-Some.is c.in_ok-header.ensures.made in
    record {
      log = c.requires.log;
      working = search rules;
      reaches = λ works told.
          opened_reaches c.in-Some.header (g.D.Disk.seen c.read_third.new.disk c.args.file)
          (subst (λ (f : Files). HasHeader c.in-Some.header (f c.args.file)) (sym c.in_ok-header.ensures.outcome.reads.seen) (has told));
      durable = λ works. only_reads g.D.Disk c.args.file c.args.disk.now c.read_third.new.disk c.in_ok-header.ensures.outcome.reads c.requires.durable;
    }

pub returns-clause-header : goal.returns-clause-header
returns-clause-header g c =
    subst (λ (o : Option ThirdHeader). IfSome o (λ (h : ThirdHeader). g.D.Disk.tells → HasHeader h (g.D.Disk.seen c.args.disk.now c.args.file))) c.in-Some.is c.in_ok-header.ensures.made

pub returns-clause-all : goal.returns-clause-all
returns-clause-all g c = opened_unread c.in-Some.header (g.D.Disk.seen c.read_third.new.disk c.args.file)
