use Rattle.std.proofs.Common.{false, refl, rules, arith}
use Rattle.im_page_writer.proofs.SyncedPages.{known_grown}
use Rattle.im_page_writer.proofs.EarlyWrites.{may_early}
use Rattle.im_page_writer.proofs.ImageCalls.{imaging_broke}
use Rattle.im_page_writer.proofs.page_writer.PageWriter.flush_changed.Goals as goal

pub returns-in_err-flush_page-clause-outcome : goal.returns-in_err-flush_page-clause-outcome
returns-in_err-flush_page-clause-outcome g c =
    let e = c.in_err-flush_page.ensures in
    imaging_broke g.D.Disk {log = c.args.self.now.log} c.from_residual.result c.from_residual.ensures.1 e.outcome c.requires.working refl (λ b base s is asked. (e.kept b base s is.writing (λ t. may_early g.D.Disk b base s c.args.self.now c.args.disk.now c.args.number is c.requires.changed (c.requires.durable t))).stops) e.frames

pub returns-clause-kept : goal.returns-clause-kept
returns-clause-kept g c b base s is =
    let done = c.in_ok-flush_page.ensures.kept b base s is.writing (λ t. may_early g.D.Disk b base s c.args.self.now c.args.disk.now c.args.number is c.requires.changed (c.requires.durable t)) in
    let flushed = done.ok.written c.args.number (omega arith) (omega arith) in
    record { now = done.ok.now; on = record { working = refl; goes = done.ok.goes; known = known_grown false b s done.ok.now c.args.self.now.known done.ok.goes.keeps.redo_end done.ok.goes.keeps.log done.ok.goes.keeps.point (λ none. done.ok.known) is.known }; written = flushed.0; in_file = λ ready. flushed.1 }

pub returns-clause-outcome : goal.returns-clause-outcome
returns-clause-outcome g c =
    let one = c.in_ok-flush_page.ensures.outcome in
    let works = one.ends.0 in
    let alive = one.ends.1 in
    let opened = one.still alive in
    record {
      ready = search (rules, works, opened);
      frames = c.in_ok-flush_page.ensures.frames;
      ends = record {
        began = c.requires.working;
        works = refl;
        alive = alive;
        later = one.ends.2;
        goes = λ b base s is asked. let f = returns-clause-kept g c b base s is in record { now = f.now; on = f.on };
      };
    }
