use Rattle.std.proofs.Common.{ap, sym, ◌∙◌}
use Rattle.im_theory_log.specs.WriterSteps.{opened}
use Rattle.im_restart_analysis.specs.CopyLsns.{copy_lsn}
use Rattle.im_page_writer.specs.Outcome.{no_page}
use Rattle.im_page_writer.proofs.Cited.{sound_also, sound_on, goes_on_start}
use Rattle.im_restart_redo.specs.Changes.{lsns_of}
use Rattle.im_restart_redo.specs.Redo.{lsns_from}
use Rattle.im_restart_redo.proofs.ChangeLsns.{lsns_are}
use Rattle.im_restart_redo.proofs.Applying.{applying_end, applying_start, counted_all}
use Rattle.im_restart_redo.proofs.Counting.{first_opened}
use Rattle.im_restart_redo.proofs.Loading.{waiting_opened}
use Rattle.im_restart_redo.proofs.Recoveries.{recovers_then, recovery_refused, unmoved}
use Rattle.im_restart_redo.proofs.Within.{within_opened}
use Rattle.im_restart_redo.proofs.alone.redo_alone.Goals as goal

pub returns-in_err-load_all-clause-outcome : goal.returns-in_err-load_all-clause-outcome
returns-in_err-load_all-clause-outcome g c =
    recovery_refused g.D.Disk c.from_residual.result c.from_residual.ensures.1 (recovers_then g.D.Disk {m = no_page} (unmoved g.D.Disk c.args.writer.now c.args.disk.now (sym c.has_failed.ensures ∙ c.if-has_failed.false) c.requires.ready) c.in_err-load_all.ensures.outcome)

pub returns-in_err-load_all-clause-kept : goal.returns-in_err-load_all-clause-kept
returns-in_err-load_all-clause-kept g c b base begun file is can at copies changes =
    let d = g.D.Disk in
    let from = c.args.disk.now in
    let within = within_opened d b base begun from file c.args.writer.now from (goes_on_start d b base (opened b begun file) c.args.writer.now from (g.met.D.Disk.only_now from) is) in
    let one = c.in_err-load_all.ensures.kept b base begun file from (opened b begun file) within (waiting_opened b begun file c.args.copies.now (λ p. copies p ∙ ap (λ n. copy_lsn n begun p) at)) (first_opened b begun file) at in
    record { sound = sound_on c.from_residual.result _ _ c.from_residual.ensures.1 one.sound; stops = one.stops }

pub returns-clause-outcome : goal.returns-clause-outcome
returns-clause-outcome g c = recovers_then g.D.Disk {m = no_page} (unmoved g.D.Disk c.args.writer.now c.args.disk.now (sym c.has_failed.ensures ∙ c.if-has_failed.false) c.requires.ready) (recovers_then g.D.Disk c.in_ok-load_all.ensures.outcome c.redo_each.ensures.outcome)

pub returns-clause-kept : goal.returns-clause-kept
returns-clause-kept g c b base begun file is can at copies changes =
    let d = g.D.Disk in
    let from = c.args.disk.now in
    let within = within_opened d b base begun from file c.args.writer.now from (goes_on_start d b base (opened b begun file) c.args.writer.now from (g.met.D.Disk.only_now from) is) in
    let loaded = c.in_ok-load_all.ensures.kept b base begun file from (opened b begun file) within (waiting_opened b begun file c.args.copies.now (λ p. copies p ∙ ap (λ n. copy_lsn n begun p) at)) (first_opened b begun file) at in
    let applying = applying_start d b base begun file from (lsns_of c.args.changes.now) c.load_all.new.writer c.load_all.new.disk loaded.sound (ap lsns_of changes ∙ lsns_are c.args.point begun ∙ ap (λ n. lsns_from n begun) at) in
    let done = c.redo_each.ensures.kept b base begun file from applying can at copies in
    record {
      sound = sound_also c.redo_each.result _ _ done.sound
          (λ n all. (applying_end d b base begun file from n c.redo_each.new.writer c.redo_each.new.disk all, counted_all d b base begun file from n c.redo_each.new.writer c.redo_each.new.disk all));
      stops = done.stops;
    }
