use Rattle.std.proofs.Common.{sym, rules}
use Rattle.im_base_types.specs.declared.file_id.FileId.TheVariants.{Log}
use Rattle.im_log_gate.proofs.Switching.{made, says}
use Rattle.im_log_gate.proofs.gate.Gate.switch_log.Goals as goal

pub returns-clause-switched : goal.returns-clause-switched
returns-clause-switched g c =
    let new = c.in_ok-switch_log.ensures.turned in
    record {
      first = search rules;
      starts = λ told.
          let s = says c.args.header.now (g.D.Disk.seen c.switch_log.new.disk Log) c.requires.ranged c.requires.low c.requires.fits (new.made told) in
          record { first = sym s.gate; base = sym s.base; least = sym s.number; generation = sym s.generation };
      made = λ told. made c.args.header.now (g.D.Disk.seen c.switch_log.new.disk Log) c.requires.ranged c.requires.low c.requires.fits (new.made told);
      empty = search rules;
      before = new.before;
      pages = new.pages;
      durable = new.durable;
    }
