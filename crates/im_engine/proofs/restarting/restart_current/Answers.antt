use Rattle.std.proofs.Common.{rules, ◌≡◌, Err, refl, ap}
use Rattle.im_base_types.specs.declared.fault.Fault.TheVariants.{Capacity}
use Rattle.im_page_writer.proofs.Cited.{err_on, sound_on}
use Rattle.im_restart.specs.Restart.{RunsOut}
use Rattle.im_restart.proofs.Ends.{opens_read, opens_refused}
use Rattle.im_engine.proofs.Named.{has_current}
use Rattle.im_engine.proofs.NamedRuns.{names_synced, names_then}
use Rattle.im_engine.proofs.Openings.{current_stops, may_restart, named_stops, opened_next, opened_report, opened_rest, upgrade_stops}
use Rattle.im_engine.proofs.CurrentLogs.{chosen_causes, not_full, spells_old, still_unspelled}
use Rattle.im_engine.proofs.restarting.restart_current.Goals as goal

-- ---- what the calls ask

pub open_or_create-requires-clause-working : goal.open_or_create-requires-clause-working
open_or_create-requires-clause-working g c = search rules

pub open_or_create-requires-clause-synced : goal.open_or_create-requires-clause-synced
open_or_create-requires-clause-synced g c = names_synced g.D.Disk c.args.disk.now c.choose.new.disk c.choose.ensures.reads c.requires.synced

-- ---- nothing says which log is the current one

pub returns-in_err-logs-clause-outcome : goal.returns-in_err-logs-clause-outcome
returns-in_err-logs-clause-outcome g c =
    let e = c.in_err-logs.ensures in
    opens_refused g.D.Disk c.from_residual.result c.from_residual.ensures.1 (opens_read g.D.Disk _ c.in_err-logs.field-0.0 refl (chosen_causes c.in_err-logs.field-0.0 e.answers.causes) e.answers.device)

pub returns-in_err-logs-clause-kept : goal.returns-in_err-logs-clause-kept
returns-in_err-logs-clause-kept g c before told stands =
    let e = c.in_err-logs.ensures in
    record {
      sound = sound_on c.from_residual.result c.in_err-logs.field-0.0 _ c.from_residual.ensures.1 (λ same. e.refused (ap Err same) told (has_current before (g.D.Disk.seen c.args.disk.now) stands));
      stops = named_stops g.D.Disk before c.args.disk.now stands c.requires.synced (g.met.D.Disk.only_now c.args.disk.now) c.choose.new.disk e.reads;
      used_up = err_on c.from_residual.result c.in_err-logs.field-0.0 (λ x. x ≡ Capacity → RunsOut stands.b stands.log) c.from_residual.ensures.1 (λ full. not_full c.in_err-logs.field-0.0 e.answers.causes full);
    }

pub returns-in_err-logs-clause-unspelled : goal.returns-in_err-logs-clause-unspelled
returns-in_err-logs-clause-unspelled g c told none =
    let e = c.in_err-logs.ensures in
    (e.reads, err_on c.from_residual.result c.in_err-logs.field-0.0 _ c.from_residual.ensures.1 (chosen_causes c.in_err-logs.field-0.0 e.answers.causes))

-- ---- the restart is refused

pub returns-in_err-restarted-clause-outcome : goal.returns-in_err-restarted-clause-outcome
returns-in_err-restarted-clause-outcome g c = opens_refused g.D.Disk c.from_residual-in_err-restarted.result c.from_residual-in_err-restarted.ensures.1 c.in_err-restarted.ensures.outcome

pub returns-in_err-restarted-clause-kept : goal.returns-in_err-restarted-clause-kept
returns-in_err-restarted-clause-kept g c before told stands =
    let d = g.D.Disk in
    let old = c.args.disk.now in
    let mid = c.choose.new.disk in
    let chosen = c.in_ok-logs.ensures in
    let may = may_restart d before old stands mid chosen.reads (chosen.current told).0 in
    let e = c.in_err-restarted in
    let k = e.ensures.kept stands.b stands.base stands.log told may in
    record {
      sound = sound_on c.from_residual-in_err-restarted.result e.field-0.0 _ c.from_residual-in_err-restarted.ensures.1 k.sound;
      stops = current_stops d before old stands c.requires.synced (g.met.D.Disk.only_now old) mid c.open_or_create.new.disk chosen.reads k.stops;
      used_up = err_on c.from_residual-in_err-restarted.result e.field-0.0 (λ x. x ≡ Capacity → RunsOut stands.b stands.log) c.from_residual-in_err-restarted.ensures.1 (e.ensures.used_up stands.b stands.base stands.log told may);
    }

pub returns-in_err-restarted-clause-unspelled : goal.returns-in_err-restarted-clause-unspelled
returns-in_err-restarted-clause-unspelled g c told none =
    let chosen = c.in_ok-logs.ensures in
    let e = c.in_err-restarted in
    let k = e.ensures.unspelled told (still_unspelled g.D.Disk c.args.disk.now c.choose.new.disk chosen.reads (chosen.current told).0 (chosen.current told).1 none) in
    (names_then g.D.Disk c.args.disk.now c.choose.new.disk chosen.reads c.open_or_create.new.disk k.0, err_on c.from_residual-in_err-restarted.result e.field-0.0 _ c.from_residual-in_err-restarted.ensures.1 k.1)

-- ---- the log does not go on

pub returns-in_err-upgrade-clause-outcome : goal.returns-in_err-upgrade-clause-outcome
returns-in_err-upgrade-clause-outcome g c = opens_refused g.D.Disk c.from_residual-in_err-upgrade.result c.from_residual-in_err-upgrade.ensures.1 c.in_err-upgrade.ensures.outcome

pub returns-in_err-upgrade-clause-kept : goal.returns-in_err-upgrade-clause-kept
returns-in_err-upgrade-clause-kept g c before told stands =
    let d = g.D.Disk in
    let old = c.args.disk.now in
    let mid = c.choose.new.disk in
    let near = c.open_or_create.new.disk in
    let chosen = c.in_ok-logs.ensures in
    let may = may_restart d before old stands mid chosen.reads (chosen.current told).0 in
    let k = c.in_ok-restarted.ensures.kept stands.b stands.base stands.log told may in
    let e = c.in_err-upgrade in
    let up = e.ensures.kept before (opened_rest d before old stands mid chosen.reads (chosen.current told).0 c.in_ok-restarted.restarted near k.sound) in
    record {
      sound = sound_on c.from_residual-in_err-upgrade.result e.field-0.0 _ c.from_residual-in_err-upgrade.ensures.1 up.cause.0;
      stops = upgrade_stops d before old stands c.requires.synced (g.met.D.Disk.only_now old) mid near c.upgrade.new.disk chosen.reads k.stops up.stops;
      used_up = err_on c.from_residual-in_err-upgrade.result e.field-0.0 (λ x. x ≡ Capacity → RunsOut stands.b stands.log) c.from_residual-in_err-upgrade.ensures.1 (λ full. absurd (up.cause.1 full));
    }

pub returns-in_err-upgrade-clause-unspelled : goal.returns-in_err-upgrade-clause-unspelled
returns-in_err-upgrade-clause-unspelled g c told none =
    let chosen = c.in_ok-logs.ensures in
    absurd (still_unspelled g.D.Disk c.args.disk.now c.choose.new.disk chosen.reads (chosen.current told).0 (chosen.current told).1 none (c.in_ok-restarted.ensures.spelled told))

-- ---- the store is open

pub returns-clause-kept : goal.returns-clause-kept
returns-clause-kept g c before told stands =
    let d = g.D.Disk in
    let old = c.args.disk.now in
    let mid = c.choose.new.disk in
    let near = c.open_or_create.new.disk in
    let r = c.in_ok-restarted.restarted in
    let chosen = c.in_ok-logs.ensures in
    let may = may_restart d before old stands mid chosen.reads (chosen.current told).0 in
    let k = c.in_ok-restarted.ensures.kept stands.b stands.base stands.log told may in
    let up = c.in_ok-upgrade.ensures.kept before (opened_rest d before old stands mid chosen.reads (chosen.current told).0 r near k.sound) in
    record {
      sound = record {
        rest = up.ok.rest;
        second = up.ok.second;
        next = opened_next d before old stands mid chosen.reads (chosen.current told).0 r near k.sound;
        report = opened_report d before old stands mid chosen.reads (chosen.current told).0 r near k.sound;
      };
      stops = upgrade_stops d before old stands c.requires.synced (g.met.D.Disk.only_now old) mid near c.upgrade.new.disk chosen.reads k.stops up.stops;
      used_up = tt;
    }

pub returns-clause-first : goal.returns-clause-first
returns-clause-first g c told =
    let says = c.has_first_format-had_first.ensures in
    let first = c.in_ok-logs.ensures.first told in
    (λ is. first.0 (says.0 is), λ has. says.1 (first.1 has))

pub returns-clause-spelled : goal.returns-clause-spelled
returns-clause-spelled g c told =
    let chosen = c.in_ok-logs.ensures in
    spells_old g.D.Disk c.args.disk.now c.choose.new.disk chosen.reads (chosen.current told).0 (chosen.current told).1 (c.in_ok-restarted.ensures.spelled told)

pub returns-clause-unspelled : goal.returns-clause-unspelled
returns-clause-unspelled g c told none =
    let chosen = c.in_ok-logs.ensures in
    absurd (still_unspelled g.D.Disk c.args.disk.now c.choose.new.disk chosen.reads (chosen.current told).0 (chosen.current told).1 none (c.in_ok-restarted.ensures.spelled told))
