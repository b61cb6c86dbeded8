use Rattle.std.proofs.Common.{◌≡◌, ◌≢◌, false, refl, sym, ap, subst}
use Rattle.im_base_types.specs.declared.fault.Fault.TheVariants.{Capacity, NotAStore}
use Rattle.im_base_types.specs.declared.file_id.FileId.TheVariants.{Log, Pages, Log2}
use Rattle.im_base_disk.specs.Disk.{Files}
use Rattle.im_base_disk.proofs.Runs.{only_reads, spares_reads}
use Rattle.im_theory_log.proofs.Fronts.{rises}
use Rattle.im_theory_log.specs.RedoPoints.{redo_point}
use Rattle.im_log.proofs.Above.{open_spared}
use Rattle.im_log_gate.specs.Header.{least_number}
use Rattle.im_page_file.proofs.LogEnds.{still_working}
use Rattle.im_page_writer.proofs.Cited.{err_on, sound_also, sound_on}
use Rattle.im_theory_page.specs.PageFile.{file_page}
use Rattle.im_theory_tree.specs.Theory.{page_tree}
use Rattle.im_theory_tree.proofs.TheoryLaws.{page_tree_laws}
use Rattle.im_restart_analysis.proofs.CountedPages.{names_within, noted_within}
use Rattle.im_restart.specs.Restart.{MayRedo, MayRestart, RunsOut}
use Rattle.im_restart.proofs.Ends.{file_causes, opens_read, opens_refused, read_cause}
use Rattle.im_restart.proofs.Openings.{holds_if_ok}
use Rattle.im_restart.proofs.Restarts.{found_read, left_reading, log_over, log_synced, opened_behind, pages_read}
use Rattle.im_restart.proofs.Steps.{left_then}
use Rattle.im_restart.proofs.open_store.restart_tested.Goals as goal

pub returns-in_err-check_file-clause-outcome : goal.returns-in_err-check_file-clause-outcome
returns-in_err-check_file-clause-outcome g c =
    let e = c.in_err-check_file.ensures in
    opens_refused g.D.Disk c.from_residual.result c.from_residual.ensures.1 (opens_read g.D.Disk _ c.in_err-check_file.field-0.0 refl (file_causes c.in_err-check_file.field-0.0 e.outcome.answers.causes) e.outcome.answers.device)

pub returns-in_err-check_file-clause-kept : goal.returns-in_err-check_file-clause-kept
returns-in_err-check_file-clause-kept g c b base all may pages other is =
    let d = g.D.Disk in
    let old = c.args.disk.now in
    let log = c.args.found.log in
    let over = log_over d b base all log old c.durable_end.result may.start c.requires.ready is.log c.durable_end.ensures in
    let within = names_within b page_tree page_tree_laws all (file_page (d.seen old Pages)) may.lawful may.has.covers in
    let sound = c.in_err-check_file.ensures.sound b all is.log.tells (rises b page_tree all may.lawful) over may.has.covers is.last is.analysis.copies within in
    record {
      sound = sound_on c.from_residual.result _ _ c.from_residual.ensures.1 sound;
      stops = left_reading d b base all old c.check_file.new.disk (g.met.D.Disk.only_now old) (log_synced d b base all log old c.requires.ready c.requires.usable) pages other may.has may.lawful c.in_err-check_file.ensures.outcome.reads;
    }

pub returns-in_err-check_file-clause-redoes : goal.returns-in_err-check_file-clause-redoes
returns-in_err-check_file-clause-redoes g c b base all may pages other is =
    let over = log_over g.D.Disk b base all c.args.found.log c.args.disk.now c.durable_end.result may.start c.requires.ready is.log c.durable_end.ensures in
    let sound = c.in_err-check_file.ensures.sound b all is.log.tells may.rises over may.has.covers is.last is.analysis.copies may.within in
    err_on c.from_residual.result c.in_err-check_file.field-0.0 (λ e. e ≢ NotAStore) c.from_residual.ensures.1 sound

pub restart-requires-clause-ready : goal.restart-requires-clause-ready
restart-requires-clause-ready g c =
    let d = g.D.Disk in
    let mid = c.check_file.new.disk in
    let e = c.in_ok-check_file.ensures in
    let alive : d.failed mid ≡ false = still_working (d.failed mid) (λ lost. let clash = e.outcome.answers.device.1 lost in let never : ⊥ = cc clash in never) in
    open_spared d c.args.found.log c.args.disk.now mid (spares_reads d Log c.args.disk.now mid e.outcome.reads) alive c.requires.ready

pub returns-clause-kept : goal.returns-clause-kept
returns-clause-kept g c b base all may pages other is =
    let d = g.D.Disk in
    let old = c.args.disk.now in
    let mid = c.check_file.new.disk in
    let reads = c.in_ok-check_file.ensures.outcome.reads in
    let again = subst (λ (f : Files). MayRestart b base all f) (sym reads.seen) may in
    let r = c.restart.ensures.kept b base all again (pages_read d b base all old mid reads pages) (only_reads d Log2 old mid reads other) (found_read d b base all c.args.found old mid reads is) in
    let number : least_number (d.seen mid Log) ≡ least_number (d.seen old Log) = ap (λ (f : Files). least_number (f Log)) reads.seen in
    let tested = left_reading d b base all old mid (g.met.D.Disk.only_now old) (log_synced d b base all c.args.found.log old c.requires.ready c.requires.usable) pages other may.has may.lawful reads in
    record {
      sound = sound_also c.restart.result _ _ r.sound (λ made so. opened_behind d b base all old mid c.restart.new.disk made number (ap (λ (f : Files). f Pages) reads.seen) so);
      stops = left_then d b base all old mid c.restart.new.disk tested r.stops;
    }

pub returns-clause-redoes : goal.returns-clause-redoes
returns-clause-redoes g c b base all may pages other is =
    let d = g.D.Disk in
    let old = c.args.disk.now in
    let mid = c.check_file.new.disk in
    let reads = c.in_ok-check_file.ensures.outcome.reads in
    let again = subst (λ (f : Files). MayRedo b base all f) (sym reads.seen) may in
    c.restart.ensures.redoes b base all again (pages_read d b base all old mid reads pages) (only_reads d Log2 old mid reads other) (found_read d b base all c.args.found old mid reads is)

pub returns-in_err-check_file-clause-used_up : goal.returns-in_err-check_file-clause-used_up
returns-in_err-check_file-clause-used_up g c b base all may pages other is =
    err_on c.from_residual.result c.in_err-check_file.field-0.0 (λ e. e ≡ Capacity → RunsOut b all) c.from_residual.ensures.1 (λ full. read_cause c.in_err-check_file.field-0.0 (file_causes c.in_err-check_file.field-0.0 c.in_err-check_file.ensures.outcome.answers.causes) full)

pub returns-clause-used_up : goal.returns-clause-used_up
returns-clause-used_up g c b base all may pages other is =
    let d = g.D.Disk in
    let old = c.args.disk.now in
    let mid = c.check_file.new.disk in
    let reads = c.in_ok-check_file.ensures.outcome.reads in
    let again = subst (λ (f : Files). MayRestart b base all f) (sym reads.seen) may in
    c.restart.ensures.used_up b base all again (pages_read d b base all old mid reads pages) (only_reads d Log2 old mid reads other) (found_read d b base all c.args.found old mid reads is)

pub returns-clause-within : goal.returns-clause-within
returns-clause-within g c base all is =
    holds_if_ok c.restart.result (noted_within all (redo_point all) c.args.found.last (file_page (g.D.Disk.seen c.args.disk.now Pages) 0) is.last (c.in_ok-check_file.ensures.within is.log.tells))
