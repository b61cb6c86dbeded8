use Rattle.im_page_writer.specs.Outcome.{AsksNothing}
use Rattle.im_page_writer.proofs.Checkpointing.{all_fit}
use Rattle.im_page_writer.proofs.Outcomes.{behind, handed_on, idle_any, none_still, stands_on}
use Rattle.im_page_flush.proofs.Placing.{held_none}
use Rattle.im_page_writer.proofs.Writers.{goes_on_start, goes_on_then}
use Rattle.im_page_writer.proofs.page_writer.PageWriter.fit_record.Goals as goal

pub returns-then-fits_record-clause-outcome : goal.returns-then-fits_record-clause-outcome
returns-then-fits_record-clause-outcome g c = idle_any g.D.Disk g.met.D.Disk.only_now c.args.self.now c.args.disk.now c.if-self.false c.requires.ready

pub returns-then-fits_record-clause-kept : goal.returns-then-fits_record-clause-kept
returns-then-fits_record-clause-kept g c b base s is =
    record { now = s; on = goes_on_start g.D.Disk b base s c.args.self.now c.args.disk.now (g.met.D.Disk.only_now c.args.disk.now) is; fits = c.fits_record.ensures.0 c.if-fits_record.true }

pub returns-then-fits_record-clause-held : goal.returns-then-fits_record-clause-held
returns-then-fits_record-clause-held g c = held_none c.args.self.now.pool

pub returns-then-fits_record-2-clause-kept : goal.returns-then-fits_record-2-clause-kept
returns-then-fits_record-2-clause-kept g c b base s is =
    let one = c.in_ok-flush_few.ensures.outcome.ends.goes b base s is tt in
    record { now = one.now; on = one.on; fits = c.fits_record-2.ensures.0 c.if-fits_record-2.true }

pub returns-in_err-flush_every-clause-outcome : goal.returns-in_err-flush_every-clause-outcome
returns-in_err-flush_every-clause-outcome g c =
    handed_on g.D.Disk c.from_residual-in_err-flush_every.result c.from_residual-in_err-flush_every.ensures.1 (behind g.D.Disk AsksNothing none_still c.in_ok-flush_few.ensures.outcome c.in_err-flush_every.ensures.outcome)

pub returns-clause-outcome : goal.returns-clause-outcome
returns-clause-outcome g c = behind g.D.Disk AsksNothing none_still c.in_ok-flush_few.ensures.outcome c.in_ok-flush_every.ensures.outcome

pub returns-clause-kept : goal.returns-clause-kept
returns-clause-kept g c b base s is =
    let d = g.D.Disk in
    let old = c.args.disk.now in
    let w = c.flush_few.new.self in
    let mid = c.flush_few.new.disk in
    let x = c.flush_every.new.self in
    let new = c.flush_every.new.disk in
    let one = c.in_ok-flush_few.ensures.outcome.ends.goes b base s is tt in
    let two = c.in_ok-flush_every.ensures.kept b base one.now (stands_on d b base s old one.now w mid one.on) in
    record {
      now = two.now;
      on = goes_on_then d b base s old one.now w mid one.on two.now x new two.on;
      fits = all_fit x.table two.now.pages c.law_pages_differ.ensures two.on.goes.writing.entries two.written;
    }
