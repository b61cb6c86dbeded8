use Rattle.std.proofs.Common.{◌≡◌, Bool, true, false, rules, ◌+◌, sym, ◌∙◌, subst, ◌-◌}
use Rattle.im_page_flush.specs.Writing.{lsn_for, WritesTo}
use Rattle.im_page_table.proofs.Tables.{room_there, written_stays}
use Rattle.im_page_table.proofs.Growing.{on_ok}
use Rattle.im_page_flush.proofs.Placing.{writes_end, writes_stop, writes_sync}
use Rattle.im_page_table.specs.DirtyTable.{has_room}
use Rattle.im_page_flush.proofs.Costs.{always, costs_entered, costs_synced}
use Rattle.im_page_flush.proofs.flush.write_out.Goals as goal

pub returns-in_err-entered-clause-kept : goal.returns-in_err-entered-clause-kept
returns-in_err-entered-clause-kept g c b base s log w all may = record { ok = search rules; stops = (c.in_err-entered.ensures.kept b base s log w all may).stops }

pub returns-then-entered-clause-kept : goal.returns-then-entered-clause-kept
returns-then-entered-clause-kept g c b base s log w all may =
    let done = c.in_ok-entered.ensures.kept b base s log w all may in
    let each = subst (λ (e : Bool). WritesTo g.D.Disk b base s c.args.first (c.args.last + 1) c.args.last c.args.lsns.now c.args.disk.now log c.write_pages.new.table c.write_pages.new.pool c.write_pages.new.disk e) c.if-entered.true done.ok in
    record { ok = writes_end g.D.Disk b base s c.args.first c.args.last c.args.lsns.now c.args.disk.now log c.write_pages.new.table c.write_pages.new.pool c.write_pages.new.disk w.based each; stops = done.stops }

pub returns-clause-kept : goal.returns-clause-kept
returns-clause-kept g c b base s log w all may =
    let done = c.in_ok-entered.ensures.kept b base s log w all may in
    let so = done.ok in
    let synced = c.sync_pages.ensures.kept b base so.now log so.run.stands in
    record {
      ok = on_ok c.sync_pages.result _ _ synced.ok
          (λ is. writes_sync g.D.Disk b base s c.args.first c.args.last c.args.lsns.now c.args.disk.now log c.write_pages.new.table c.sync_pages.new.table c.write_pages.new.pool c.write_pages.new.disk c.sync_pages.new.disk c.in_ok-entered.entered
          w.based so is synced.stops);
      stops = writes_stop g.D.Disk b base s c.args.first c.args.last c.args.lsns.now c.args.disk.now log (c.args.last + 1) c.write_pages.new.table c.write_pages.new.pool c.write_pages.new.disk c.in_ok-entered.entered so c.sync_pages.new.disk synced.stops;
    }

pub returns-then-entered-clause-stays : goal.returns-then-entered-clause-stays
returns-then-entered-clause-stays g c alone some = written_stays c.args.first (lsn_for c.args.lsns.now 0) c.args.table.now c.write_pages.new.table (c.in_ok-entered.ensures.one alone).0 some

pub returns-clause-stays : goal.returns-clause-stays
returns-clause-stays g c alone some = absurd (
    let clash : true ≡ false = sym (room_there c.args.first c.args.table.now some) ∙ sym (c.in_ok-entered.ensures.one alone).1 ∙ c.if-entered.false in cc clash)

pub returns-then-entered-clause-costs : goal.returns-then-entered-clause-costs
returns-then-entered-clause-costs g c =
    costs_entered g.D.Disk (c.args.last + 1 - c.args.first) ((c.args.first ≡ c.args.last) × (has_room c.args.first c.args.table.now ≡ true)) c.args.disk.now c.write_pages.new.disk c.in_ok-entered.ensures.costs

pub returns-clause-costs : goal.returns-clause-costs
returns-clause-costs g c = always c.sync_pages.result _ (
    costs_synced g.D.Disk (c.args.last + 1 - c.args.first) ((c.args.first ≡ c.args.last) × (has_room c.args.first c.args.table.now ≡ true)) c.args.disk.now c.write_pages.new.disk c.sync_pages.new.disk
    (λ room. let clash : true ≡ false = sym room.1 ∙ sym (c.in_ok-entered.ensures.one room.0).1 ∙ c.if-entered.false in cc clash) c.in_ok-entered.ensures.costs c.sync_pages.ensures.costs)
