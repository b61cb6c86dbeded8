use Rattle.std.proofs.Common.{rules}
use Rattle.im_page_flush.proofs.Placing.{place_stops, placed}
use Rattle.im_page_flush.proofs.page_range.write_one.Goals as goal

pub returns-in_err-write_in_place-clause-kept : goal.returns-in_err-write_in_place-clause-kept
returns-in_err-write_in_place-clause-kept g c b base s log st pooled may = record {
  ok = search rules;
  stops = place_stops g.D.Disk b base s log c.args.table.now c.args.pool.now c.args.disk.now st pooled c.args.number c.args.lsn may c.write_in_place.new.disk c.write_in_place.ensures.any_moment;
}

pub returns-clause-kept : goal.returns-clause-kept
returns-clause-kept g c b base s log st pooled may =
    let in_place = c.in_ok-write_in_place.ensures in
    let table = c.write-entered.ensures in
    record {
      ok = placed g.D.Disk b base s log c.args.table.now c.args.pool.now c.args.disk.now st pooled c.args.number c.args.lsn may c.write-entered.new.self c.write_in_place.new.pool c.write_in_place.new.disk c.write-entered.result
          (in_place.written st.log_is.tells) in_place.crash in_place.changes in_place.answers.noted in_place.pool table.table table.entered table.entry;
      stops = place_stops g.D.Disk b base s log c.args.table.now c.args.pool.now c.args.disk.now st pooled c.args.number c.args.lsn may c.write_in_place.new.disk in_place.any_moment;
    }
