use Rattle.std.proofs.Common.{rules, ◌≡◌, ◌≢◌, ◌≤◌, sym, ◌∙◌, ap, subst}
use Rattle.im_base_types.specs.declared.fault.Fault.TheVariants.{Capacity, Memory, NotAStore}
use Rattle.im_base_types.specs.declared.file_id.FileId.TheVariants.{Log}
use Rattle.im_log_gate.specs.Header.{least_number}
use Rattle.im_restart_analysis.specs.Numbers.{IsNextNumber}
use Rattle.im_theory_log.specs.RedoPoints.{redo_point}
use Rattle.im_theory_log.proofs.Fronts.{rises}
use Rattle.im_page_writer.proofs.Cited.{err_on, sound_on, frames_opened}
use Rattle.im_page_writer.specs.declared.page_writer.PageWriter.{PageWriter}
use Rattle.im_theory_tree.specs.Theory.{page_tree}
use Rattle.im_restart.specs.Restart.{RunsOut}
use Rattle.im_restart.proofs.Ends.{alive_log, opens_refused, opens_settled, opens_without, other_cause}
use Rattle.im_restart.proofs.Restarts.{left_unmoved, log_synced, next_least, writer_starts}
use Rattle.im_restart.proofs.SyncedFiles.{synced_as}
use Rattle.im_restart.proofs.open_store.restart.Goals as goal

pub returns-in_err-writer-clause-kept : goal.returns-in_err-writer-clause-kept
returns-in_err-writer-clause-kept g c b base all may pages other is =
    let d = g.D.Disk in
    let cause : c.in_err-writer.field-0.0 ≡ Memory = c.in_err-writer.ensures.refused in
    record {
      sound = sound_on c.from_residual.result _ _ c.from_residual.ensures.1 (λ e. (let clash : Memory ≡ NotAStore = sym cause ∙ e in cc clash));
      stops = left_unmoved d b base all c.args.disk.now (g.met.D.Disk.only_now c.args.disk.now) (log_synced d b base all c.args.found.log c.args.disk.now c.requires.ready c.requires.usable) pages other may.has may.lawful;
    }

pub returns-in_err-room-clause-kept : goal.returns-in_err-room-clause-kept
returns-in_err-room-clause-kept g c b base all may pages other is =
    let d = g.D.Disk in
    let cause : c.in_err-room.field-0.0 ≡ Memory = c.in_err-room.ensures.causes in
    record {
      sound = sound_on c.from_residual-in_err-room.result _ _ c.from_residual-in_err-room.ensures.1 (λ e. (let clash : Memory ≡ NotAStore = sym cause ∙ e in cc clash));
      stops = left_unmoved d b base all c.args.disk.now (g.met.D.Disk.only_now c.args.disk.now) (log_synced d b base all c.args.found.log c.args.disk.now c.requires.ready c.requires.usable) pages other may.has may.lawful;
    }

pub returns-in_err-applied-clause-kept : goal.returns-in_err-applied-clause-kept
returns-in_err-applied-clause-kept g c b base all may pages other is =
    let d = g.D.Disk in
    let w = c.in_ok-writer in
    let synced = synced_as all (redo_point all) c.args.found.last c.synced_of.result c.synced_of.ensures.lsns c.synced_of.ensures.count is.last in
    let stands = writer_starts d b base all c.args.found.log w.writer c.expect.new.self c.synced_of.result c.args.frames c.args.disk.now may.start (rises b page_tree all may.lawful) may.has.covers pages other may.has.newest c.requires.ready is.log c.expect.ensures w.ensures.log w.ensures.pool w.ensures.table w.ensures.failed w.ensures.known synced in
    let k = c.in_err-applied.ensures.kept b base all stands may (least_number (d.seen c.args.disk.now Log)) is.analysis (c.deref.ensures.value ∙ is.changes) in
    record { sound = sound_on c.from_residual-in_err-applied.result _ _ c.from_residual-in_err-applied.ensures.1 k.sound; stops = k.stops }

pub returns-clause-kept : goal.returns-clause-kept
returns-clause-kept g c b base all may pages other is =
    let d = g.D.Disk in
    let w = c.in_ok-writer in
    let synced = synced_as all (redo_point all) c.args.found.last c.synced_of.result c.synced_of.ensures.lsns c.synced_of.ensures.count is.last in
    let stands = writer_starts d b base all c.args.found.log w.writer c.expect.new.self c.synced_of.result c.args.frames c.args.disk.now may.start (rises b page_tree all may.lawful) may.has.covers pages other may.has.newest c.requires.ready is.log c.expect.ensures w.ensures.log w.ensures.pool w.ensures.table w.ensures.failed w.ensures.known synced in
    let k = c.in_ok-applied.ensures.kept b base all stands may (least_number (d.seen c.args.disk.now Log)) is.analysis (c.deref.ensures.value ∙ is.changes) in
    let lowest = least_number (d.seen c.args.disk.now Log) in
    let least = next_least lowest c.args.found.analysed.next all is.numbers is.analysis.next in
    let same : c.first_number.result ≡ c.args.found.analysed.next = c.first_number.ensures.same (subst (λ n. 1 ≤ n) (sym c.in_ok-applied.ensures.next) least) ∙ c.in_ok-applied.ensures.next in
    let number : IsNextNumber lowest c.first_number.result all = subst (λ n. IsNextNumber lowest n all) (sym same) is.analysis.next in
    record { sound = record { restarted = k.sound.0; next = number; report = record { point = is.analysis.point; applied = k.sound.1 } }; stops = k.stops }

pub returns-in_err-writer-clause-redoes : goal.returns-in_err-writer-clause-redoes
returns-in_err-writer-clause-redoes g c b base all may pages other is =
    let cause : c.in_err-writer.field-0.0 ≡ Memory = c.in_err-writer.ensures.refused in
    err_on c.from_residual.result c.in_err-writer.field-0.0 (λ e. e ≢ NotAStore) c.from_residual.ensures.1 (λ e. (let clash : Memory ≡ NotAStore = sym cause ∙ e in cc clash))

pub returns-in_err-room-clause-redoes : goal.returns-in_err-room-clause-redoes
returns-in_err-room-clause-redoes g c b base all may pages other is =
    let cause : c.in_err-room.field-0.0 ≡ Memory = c.in_err-room.ensures.causes in
    err_on c.from_residual-in_err-room.result c.in_err-room.field-0.0 (λ e. e ≢ NotAStore) c.from_residual-in_err-room.ensures.1 (λ e. (let clash : Memory ≡ NotAStore = sym cause ∙ e in cc clash))

pub returns-in_err-applied-clause-redoes : goal.returns-in_err-applied-clause-redoes
returns-in_err-applied-clause-redoes g c b base all may pages other is =
    let d = g.D.Disk in
    let w = c.in_ok-writer in
    let synced = synced_as all (redo_point all) c.args.found.last c.synced_of.result c.synced_of.ensures.lsns c.synced_of.ensures.count is.last in
    let stands = writer_starts d b base all c.args.found.log w.writer c.expect.new.self c.synced_of.result c.args.frames c.args.disk.now may.start may.rises may.has.covers pages other may.has.newest c.requires.ready is.log c.expect.ensures w.ensures.log w.ensures.pool w.ensures.table w.ensures.failed w.ensures.known synced in
    let sound = c.in_err-applied.ensures.redoes b base all stands may.can may.done (least_number (d.seen c.args.disk.now Log)) is.analysis (c.deref.ensures.value ∙ is.changes) in
    err_on c.from_residual-in_err-applied.result c.in_err-applied.field-0.0 (λ e. e ≢ NotAStore) c.from_residual-in_err-applied.ensures.1 sound

pub returns-in_err-writer-clause-outcome : goal.returns-in_err-writer-clause-outcome
returns-in_err-writer-clause-outcome g c = opens_refused g.D.Disk c.from_residual.result c.from_residual.ensures.1 (opens_without g.D.Disk c.in_err-writer.ensures.refused (alive_log g.D.Disk c.args.found.log c.args.disk.now c.requires.ready c.requires.usable))

pub returns-in_err-room-clause-outcome : goal.returns-in_err-room-clause-outcome
returns-in_err-room-clause-outcome g c =
    opens_refused g.D.Disk c.from_residual-in_err-room.result c.from_residual-in_err-room.ensures.1 (opens_without g.D.Disk c.in_err-room.ensures.causes (alive_log g.D.Disk c.args.found.log c.args.disk.now c.requires.ready c.requires.usable))

pub returns-in_err-applied-clause-outcome : goal.returns-in_err-applied-clause-outcome
returns-in_err-applied-clause-outcome g c =
    opens_refused g.D.Disk c.from_residual-in_err-applied.result c.from_residual-in_err-applied.ensures.1 (opens_settled g.D.Disk (ap (λ (w : PageWriter). w.failed) c.expect.ensures ∙ c.in_ok-writer.ensures.failed) c.in_err-applied.ensures.outcome)

pub returns-clause-outcome : goal.returns-clause-outcome
returns-clause-outcome g c = record { ends = c.in_ok-applied.ensures.outcome.ends.alive }

pub returns-clause-restarted : goal.returns-clause-restarted
returns-clause-restarted g c = record {
  ready = search rules;
  works = search rules;
  pool = c.in_ok-applied.ensures.outcome.frames ∙ ap (λ (w : PageWriter). w.pool.frames) c.expect.ensures ∙ frames_opened c.in_ok-writer.writer c.args.frames c.in_ok-writer.ensures.pool;
  least = search rules;
}

pub returns-in_err-writer-clause-used_up : goal.returns-in_err-writer-clause-used_up
returns-in_err-writer-clause-used_up g c b base all may pages other is =
    err_on c.from_residual.result c.in_err-writer.field-0.0 (λ e. e ≡ Capacity → RunsOut b all) c.from_residual.ensures.1 (λ full. other_cause c.in_err-writer.field-0.0 Memory c.in_err-writer.ensures.refused (λ x. cc x) full)

pub returns-in_err-room-clause-used_up : goal.returns-in_err-room-clause-used_up
returns-in_err-room-clause-used_up g c b base all may pages other is =
    err_on c.from_residual-in_err-room.result c.in_err-room.field-0.0 (λ e. e ≡ Capacity → RunsOut b all) c.from_residual-in_err-room.ensures.1 (λ full. other_cause c.in_err-room.field-0.0 Memory c.in_err-room.ensures.causes (λ x. cc x) full)

pub returns-in_err-applied-clause-used_up : goal.returns-in_err-applied-clause-used_up
returns-in_err-applied-clause-used_up g c b base all may pages other is =
    let d = g.D.Disk in
    let w = c.in_ok-writer in
    let synced = synced_as all (redo_point all) c.args.found.last c.synced_of.result c.synced_of.ensures.lsns c.synced_of.ensures.count is.last in
    let stands = writer_starts d b base all c.args.found.log w.writer c.expect.new.self c.synced_of.result c.args.frames c.args.disk.now may.start (rises b page_tree all may.lawful) may.has.covers pages other may.has.newest c.requires.ready is.log c.expect.ensures w.ensures.log w.ensures.pool w.ensures.table w.ensures.failed w.ensures.known synced in
    err_on c.from_residual-in_err-applied.result c.in_err-applied.field-0.0 (λ e. e ≡ Capacity → RunsOut b all) c.from_residual-in_err-applied.ensures.1
    (c.in_err-applied.ensures.used_up b base all stands may (least_number (d.seen c.args.disk.now Log)) is.analysis (c.deref.ensures.value ∙ is.changes))
