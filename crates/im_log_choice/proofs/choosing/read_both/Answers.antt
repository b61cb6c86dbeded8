use Rattle.std.proofs.Common.{Ok, ap, subst}
use Rattle.im_base_types.specs.declared.file_id.FileId.TheVariants.{Log, Log2}
use Rattle.im_base_types.specs.declared.fault.Fault.TheVariants.{NotAStore}
use Rattle.im_base_disk.specs.Disk.{Files}
use Rattle.im_log_choice.specs.Found.{IsFound}
use Rattle.im_log_choice.proofs.Names.{found_by, handed_on, no_log, no_other_then}
use Rattle.im_log_choice.proofs.choosing.read_both.Goals as goal

pub returns-in_err-log-clause-refused : goal.returns-in_err-log-clause-refused
returns-in_err-log-clause-refused g c is told has =
    let none = c.in_err-log.ensures.refused (handed_on c.from_residual.result c.in_err-log.field-0.0 NotAStore c.from_residual.ensures.1 is) told in
    no_log (g.D.Disk.seen c.args.disk.now) none.0 none.1 has

pub returns-in_err-other-clause-refused : goal.returns-in_err-other-clause-refused
returns-in_err-other-clause-refused g c is told has =
    let none = c.in_err-other.ensures.refused (handed_on c.from_residual-in_err-other.result c.in_err-other.field-0.0 NotAStore c.from_residual-in_err-other.ensures.1 is) told in
    no_other_then (g.D.Disk.seen c.args.disk.now) (g.D.Disk.seen c.read_header.new.disk) c.in_ok-log.ensures.outcome.reads.seen none.0 none.1 has

pub returns-clause-found : goal.returns-clause-found
returns-clause-found g c told =
    let d = g.D.Disk in
    let one = c.in_ok-log.ensures in
    let two = c.in_ok-other.ensures in
    record {
      log = found_by d.tells told (d.seen c.args.disk.now Log) c.in_ok-log.log (λ is. one.unmade (ap Ok is)) one.made one.starts one.ranged;
      other = subst (λ (f : Files). IsFound c.in_ok-other.other (f Log2)) one.outcome.reads.seen
          (found_by d.tells told (d.seen c.read_header.new.disk Log2) c.in_ok-other.other (λ is. two.unmade (ap Ok is)) two.made two.starts two.ranged);
    }
