use Rattle.std.proofs.Common.{rules}
use Rattle.im_page_file.proofs.Standing.{open_synced, stands_synced, sync_stops}
use Rattle.im_page_file.proofs.page_file.sync_pages.Goals as goal

pub returns-in_err-sync-clause-kept : goal.returns-in_err-sync-clause-kept
returns-in_err-sync-clause-kept g c b base s log st = record {
  ok = search rules;
  stops = sync_stops g.D.Disk b base s log c.args.table.now c.args.disk.now st c.sync.new.disk c.sync.ensures.any_moment;
}

pub returns-clause-kept : goal.returns-clause-kept
returns-clause-kept g c b base s log st = record {
  ok = stands_synced g.D.Disk b base s log c.args.table.now c.args.disk.now st c.sync-2.new.self c.sync.new.disk c.sync.ensures.seen c.sync.ensures.outcomes c.in_ok-sync.ensures.durable c.in_ok-sync.ensures.answers.noted c.sync-2.ensures.entry;
  stops = sync_stops g.D.Disk b base s log c.args.table.now c.args.disk.now st c.sync.new.disk c.sync.ensures.any_moment;
}

pub returns-in_err-sync-clause-ready : goal.returns-in_err-sync-clause-ready
returns-in_err-sync-clause-ready g c log is_open works = open_synced g.D.Disk log c.args.disk.now c.sync.new.disk c.sync.ensures.seen c.sync.ensures.outcomes works is_open

pub returns-clause-ready : goal.returns-clause-ready
returns-clause-ready g c log is_open works = open_synced g.D.Disk log c.args.disk.now c.sync.new.disk c.sync.ensures.seen c.sync.ensures.outcomes works is_open
