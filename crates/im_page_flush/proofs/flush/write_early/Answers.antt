use Rattle.std.proofs.Common.{◌≡◌, true, rules, ◌∙◌}
use Rattle.im_page_table.proofs.Tables.{room_there, written_stays}
use Rattle.im_page_file.proofs.Standing.{open_written}
use Rattle.im_page_flush.proofs.Placing.{early_written, held_unmarked}
use Rattle.im_page_flush.proofs.flush.write_early.Goals as goal

pub returns-in_err-_entered-clause-kept : goal.returns-in_err-_entered-clause-kept
returns-in_err-_entered-clause-kept g c b base s log w may = record { ok = search rules; stops = (c.in_err-_entered.ensures.kept b base s log w.stands w.pooled may.place).stops }

pub returns-clause-kept : goal.returns-clause-kept
returns-clause-kept g c b base s log w may =
    let done = c.in_ok-_entered.ensures.kept b base s log w.stands w.pooled may.place in
    let entered : c.in_ok-_entered._entered ≡ true = c.in_ok-_entered.ensures.entered ∙ room_there c.args.number c.args.table.now c.requires.entered in
    record {
      ok = early_written g.D.Disk b base s log c.args.table.now c.write_one.new.table c.args.pool.now c.write_one.new.pool c.args.disk.now c.write_one.new.disk c.args.number w may done.stops c.in_ok-_entered._entered entered done.ok;
      stops = done.stops;
    }

pub returns-clause-ready : goal.returns-clause-ready
returns-clause-ready g c log is_open works = open_written g.D.Disk log c.args.disk.now c.write_one.new.disk c.write_one.ensures.changes works is_open

pub returns-in_err-_entered-clause-ready : goal.returns-in_err-_entered-clause-ready
returns-in_err-_entered-clause-ready g c log is_open works = open_written g.D.Disk log c.args.disk.now c.write_one.new.disk c.write_one.ensures.changes works is_open

pub returns-clause-stays : goal.returns-clause-stays
returns-clause-stays g c = written_stays c.args.number 0 c.args.table.now c.write_one.new.table c.write_one.ensures.table c.requires.entered

pub returns-clause-held : goal.returns-clause-held
returns-clause-held g c = held_unmarked c.args.number c.args.pool.now c.write_one.new.pool c.in_ok-_entered.ensures.pool
