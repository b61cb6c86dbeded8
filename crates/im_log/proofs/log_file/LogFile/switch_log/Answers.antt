use Rattle.std.proofs.Common.{◌+◌, refl, rules, arith}
use Rattle.im_base_types.specs.declared.file_id.FileId.TheVariants.{Log}
use Rattle.im_log_gate.specs.Gate.{place_of}
use Rattle.im_log.proofs.Switching.{all_synced, going_stops, log_stays, nothing_stops, starts_still, went_on}
use Rattle.im_log.proofs.Runs.{all_durable, none_begun, nothing_sealed}
use Rattle.im_log.proofs.log_file.LogFile.switch_log.Goals as goal

pub returns-in_err-header-clause-kept : goal.returns-in_err-header-clause-kept
returns-in_err-header-clause-kept g c base all durable h pages other =
    let log = c.args.self.now in
    let disk = c.args.disk.now in
    let works = c.if-self.false in
    let start = none_begun log.start log.used (c.requires.ready.filling works) c.requires.empty in
    record {
      ok = search rules;
      stops = λ current has.
          nothing_stops g.D.Disk base all log disk (all_durable g.D.Disk base all durable log disk start c.requires.empty h) (base + place_of log.gate) (g.met.D.Disk.only_now disk)
          (all_synced g.D.Disk log disk (c.requires.ready.ready.reading.durable (c.requires.ready.working works)) pages other) current has;
    }

pub returns-in_err-switch_log-clause-kept : goal.returns-in_err-switch_log-clause-kept
returns-in_err-switch_log-clause-kept g c base all durable h pages other =
    let log = c.args.self.now in
    let disk = c.args.disk.now in
    let works = c.if-self.false in
    let start = none_begun log.start log.used (c.requires.ready.filling works) c.requires.empty in
    record {
      ok = search rules;
      stops = λ current has.
          going_stops g.D.Disk base all log disk (all_durable g.D.Disk base all durable log disk start c.requires.empty h) c.args.next c.in_ok-header.header c.in_ok-header.ensures.header (omega arith)
          (c.requires.ready.starts h.tells) (log.of_gate works) c.switch_log.new.disk current has (c.switch_log.ensures.any_moment (all_synced g.D.Disk log disk (c.requires.ready.ready.reading.durable (c.requires.ready.working works)) pages other));
    }

pub returns-clause-kept : goal.returns-clause-kept
returns-clause-kept g c base all durable h pages other =
    let log = c.args.self.now in
    let disk = c.args.disk.now in
    let works = c.if-self.false in
    let start = none_begun log.start log.used (c.requires.ready.filling works) c.requires.empty in
    let all_so = all_durable g.D.Disk base all durable log disk start c.requires.empty h in
    let on = c.in_ok-switch_log.ensures in
    record {
      ok = went_on g.D.Disk base all log disk all_so c.args.next c.in_ok-header.header c.in_ok-header.ensures.header (omega arith) (c.requires.ready.starts h.tells) (log.of_gate works)
          _ c.switch_log.new.disk refl refl start c.requires.empty on.switched.first (on.switched.starts h.tells) (on.switched.made h.tells) (on.switched.empty h.tells) on.switched.before on.switched.pages (on.switched.durable (all_synced g.D.Disk log disk (c.requires.ready.ready.reading.durable (c.requires.ready.working works)) pages other));
      stops = λ current has.
          going_stops g.D.Disk base all log disk all_so c.args.next c.in_ok-header.header c.in_ok-header.ensures.header (omega arith)
          (c.requires.ready.starts h.tells) (log.of_gate works) c.switch_log.new.disk current has (on.any_moment (all_synced g.D.Disk log disk (c.requires.ready.ready.reading.durable (c.requires.ready.working works)) pages other));
    }

pub returns-in_err-switch_log-clause-outcome : goal.returns-in_err-switch_log-clause-outcome
returns-in_err-switch_log-clause-outcome g c =
    let log = c.args.self.now in
    let old = c.args.disk.now in
    let new = c.switch_log.new.disk in
    record {
      ready = record {
        ready = c.switch_log.ensures.ready.0;
        starts = λ told.
            starts_still log.gate c.switch_log.new.self (g.D.Disk.seen old Log) (g.D.Disk.seen new Log) (c.requires.ready.starts told) c.in_err-switch_log.ensures.stays.same (log_stays g.D.Disk old new c.in_err-switch_log.ensures.stays.changes);
        working = search rules;
        placed = search rules;
        room = search rules;
        sealed = search rules;
        filling = search rules;
      };
      empty = search rules;
      room = search rules;
      few = search rules;
      works = search rules;
      failed = search rules;
      refusals = search rules;
    }

pub returns-clause-outcome : goal.returns-clause-outcome
returns-clause-outcome g c =
    let log = c.args.self.now in
    let works = c.if-self.false in
    let start = none_begun log.start log.used (c.requires.ready.filling works) c.requires.empty in
    let is = c.in_ok-header.ensures.header in
    let first = c.in_ok-switch_log.ensures.switched.first in
    record {
      ready = record {
        ready = c.switch_log.ensures.ready.0;
        starts = c.in_ok-switch_log.ensures.switched.starts;
        working = λ _. first.usable;
        placed = λ _. omega (arith, is.low, first.place);
        room = λ _ some. absurd (omega (arith, some, c.requires.empty));
        sealed = λ _. nothing_sealed _ start;
        filling = λ _ some. absurd (omega (arith, some, start));
      };
      empty = search rules;
      room = search rules;
      few = search rules;
      works = search rules;
      failed = search rules;
      refusals = search rules;
    }
