use Rattle.std.proofs.Common.{rules}
use Rattle.im_page_table.proofs.Growing.{on_ok}
use Rattle.im_page_flush.proofs.Goings.{goes_then, leaves_so_far, leaves_then}
use Rattle.im_page_flush.proofs.Flushing.{goes_read, leaves_read}
use Rattle.im_page_file.proofs.ImageCalls.{imaging_lost}
use Rattle.im_page_flush.proofs.InCompany.{reads_still}
use Rattle.im_page_flush.proofs.image_range.note_changed.Goals as goal

pub returns-in_err-count-clause-outcome : goal.returns-in_err-count-clause-outcome
returns-in_err-count-clause-outcome g c = let e = c.in_err-count.ensures.answers in imaging_lost g.D.Disk c.from_residual.result c.from_residual.ensures.1 e.device e.noted

pub returns-in_err-count-clause-kept : goal.returns-in_err-count-clause-kept
returns-in_err-count-clause-kept g c b base s w = record {
  ok = search rules;
  stops = leaves_read g.D.Disk b base s c.args.log.now c.args.table.now c.args.pool.now c.args.disk.now c.count_pages.new.disk (g.met.D.Disk.only_now c.args.disk.now) w c.count_pages.ensures.reads;
}

pub returns-then-number-saturating_add-clause-kept : goal.returns-then-number-saturating_add-clause-kept
returns-then-number-saturating_add-clause-kept g c b base s w =
    let goes =
    goes_read g.D.Disk b base s c.args.log.now c.args.table.now c.args.pool.now c.args.disk.now c.count_pages.new.disk (g.met.D.Disk.only_now c.args.disk.now) w c.count_pages.ensures.reads c.in_ok-count.ensures.answers.noted in
    record { ok = record { now = s; goes = goes }; stops = leaves_so_far g.D.Disk b base s c.args.disk.now s c.args.log.now c.args.table.now c.args.pool.now c.count_pages.new.disk goes }

pub returns-clause-kept : goal.returns-clause-kept
returns-clause-kept g c b base s w =
    let old = c.args.disk.now in
    let mid = c.count_pages.new.disk in
    let new = c.note_copy.new.disk in
    let log = c.args.log.now in
    let table = c.args.table.now in
    let pool = c.args.pool.now in
    let goes = goes_read g.D.Disk b base s log table pool old mid (g.met.D.Disk.only_now old) w c.count_pages.ensures.reads c.in_ok-count.ensures.answers.noted in
    let k = c.note_copy.ensures.kept b base s goes.writing in
    record {
      ok = on_ok c.note_copy.result _ _ k.ok (λ is. record { now = is.now; goes = goes_then g.D.Disk b base s old s log table pool mid goes is.now c.note_copy.new.log c.note_copy.new.table pool new is.goes });
      stops = leaves_then g.D.Disk b base s old s log table pool mid goes new k.stops;
    }

pub returns-clause-reads : goal.returns-clause-reads
returns-clause-reads g c takes = reads_still g.D.Disk c.args.disk.now c.count_pages.new.disk c.note_copy.new.disk c.count_pages.ensures.reads (c.note_copy.ensures.quiet takes)
