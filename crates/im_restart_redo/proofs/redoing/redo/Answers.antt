use Rattle.std.proofs.Common.{◌≡◌, List, ap, arith, refl, subst, sym, ◌∙◌}
use Rattle.im_base_types.specs.declared.fault.Fault.TheVariants.{Memory, NotAStore}
use Rattle.im_theory_log.specs.Histories.{Rises}
use Rattle.im_theory_log.specs.WriterSteps.{opened}
use Rattle.im_restart_analysis.specs.declared.changes.Change.{Change}
use Rattle.im_restart_analysis.specs.CopyLsns.{copy_lsn}
use Rattle.im_page_writer.specs.Outcome.{mild, no_page}
use Rattle.im_page_writer.proofs.Cited.{err_on, sound_also, sound_on, goes_on_start}
use Rattle.im_restart_redo.specs.Changes.{AreOwn, lsns_of}
use Rattle.im_restart_redo.specs.Redo.{lsns_from}
use Rattle.im_restart_redo.proofs.ChangeLsns.{lsns_are, own_from}
use Rattle.im_restart_redo.proofs.Applying.{applying_end, applying_start, counted_all}
use Rattle.im_restart_redo.proofs.Counting.{first_opened}
use Rattle.im_restart_redo.proofs.Loading.{waiting_opened}
use Rattle.im_restart_redo.proofs.Recoveries.{bytes_mildly, never_memory, no_memory, recovers_more, recovers_then, recovery_own, recovery_refused, refused_for, unmoved}
use Rattle.im_restart_redo.proofs.Within.{leaves_now, within_opened}
use Rattle.im_restart_redo.proofs.redoing.redo.Goals as goal

pub returns-in_err-rounds-clause-outcome : goal.returns-in_err-rounds-clause-outcome
returns-in_err-rounds-clause-outcome g c =
    recovery_own g.D.Disk {m = mild} refl refl refl c.from_residual.result (unmoved g.D.Disk c.args.writer.now c.args.disk.now (sym c.has_failed.ensures ∙ c.if-has_failed.false) c.requires.ready)
    (err_on c.from_residual.result c.in_err-rounds.field-0.0 _ c.from_residual.ensures.1 (ap mild c.in_err-rounds.ensures.refused))

pub returns-in_err-rounds-clause-memory : goal.returns-in_err-rounds-clause-memory
returns-in_err-rounds-clause-memory g c is = (refl, refl)

pub returns-in_err-rounds-clause-kept : goal.returns-in_err-rounds-clause-kept
returns-in_err-rounds-clause-kept g c b base begun file is can at copies changes =
    let d = g.D.Disk in
    let from = c.args.disk.now in
    let within = within_opened d b base begun from file c.args.writer.now from (goes_on_start d b base (opened b begun file) c.args.writer.now from (g.met.D.Disk.only_now from) is) in
    record {
      sound = sound_on c.from_residual.result _ _ c.from_residual.ensures.1 (λ same. let clash : Memory ≡ NotAStore = sym c.in_err-rounds.ensures.refused ∙ same in cc clash);
      stops = leaves_now d b base begun from (opened b begun file) c.args.writer.now from within;
    }

pub returns-in_err-segment-clause-outcome : goal.returns-in_err-segment-clause-outcome
returns-in_err-segment-clause-outcome g c =
    let r = c.from_residual-in_err-segment.result in
    recovery_own g.D.Disk {m = mild} refl refl refl r (unmoved g.D.Disk c.args.writer.now c.args.disk.now (sym c.has_failed.ensures ∙ c.if-has_failed.false) c.requires.ready)
    (err_on r c.in_err-segment.field-0.0 _ c.from_residual-in_err-segment.ensures.1 (ap mild c.in_err-segment.ensures.refused))

pub returns-in_err-segment-clause-memory : goal.returns-in_err-segment-clause-memory
returns-in_err-segment-clause-memory g c is = (refl, refl)

pub returns-in_err-segment-clause-kept : goal.returns-in_err-segment-clause-kept
returns-in_err-segment-clause-kept g c b base begun file is can at copies changes =
    let d = g.D.Disk in
    let from = c.args.disk.now in
    let within = within_opened d b base begun from file c.args.writer.now from (goes_on_start d b base (opened b begun file) c.args.writer.now from (g.met.D.Disk.only_now from) is) in
    record {
      sound = sound_on c.from_residual-in_err-segment.result _ _ c.from_residual-in_err-segment.ensures.1 (λ same. let clash : Memory ≡ NotAStore = sym c.in_err-segment.ensures.refused ∙ same in cc clash);
      stops = leaves_now d b base begun from (opened b begun file) c.args.writer.now from within;
    }

pub redo_all-requires-clause-pages : goal.redo_all-requires-clause-pages
redo_all-requires-clause-pages g c = omega (arith, c.in_ok-rounds.ensures.some)

pub returns-in_err-load_all-clause-outcome : goal.returns-in_err-load_all-clause-outcome
returns-in_err-load_all-clause-outcome g c =
    recovery_refused g.D.Disk c.from_residual-in_err-load_all.result c.from_residual-in_err-load_all.ensures.1 (recovers_then g.D.Disk {m = mild} (unmoved g.D.Disk c.args.writer.now c.args.disk.now (sym c.has_failed.ensures ∙ c.if-has_failed.false) c.requires.ready) (recovers_more g.D.Disk bytes_mildly c.in_err-load_all.ensures.outcome))

pub returns-in_err-load_all-clause-memory : goal.returns-in_err-load_all-clause-memory
returns-in_err-load_all-clause-memory g c is =
    absurd (never_memory g.D.Disk _ c.in_err-load_all.ensures.outcome (refused_for c.from_residual-in_err-load_all.result c.in_err-load_all.field-0.0 Memory c.from_residual-in_err-load_all.ensures.1 is))

pub returns-in_err-load_all-clause-kept : goal.returns-in_err-load_all-clause-kept
returns-in_err-load_all-clause-kept g c b base begun file is can at copies changes =
    let d = g.D.Disk in
    let from = c.args.disk.now in
    let within = within_opened d b base begun from file c.args.writer.now from (goes_on_start d b base (opened b begun file) c.args.writer.now from (g.met.D.Disk.only_now from) is) in
    let one = c.in_err-load_all.ensures.kept b base begun file from (opened b begun file) within (waiting_opened b begun file c.args.copies.now (λ p. copies p ∙ ap (λ n. copy_lsn n begun p) at)) (first_opened b begun file) at in
    record { sound = sound_on c.from_residual-in_err-load_all.result _ _ c.from_residual-in_err-load_all.ensures.1 one.sound; stops = one.stops }

pub returns-clause-outcome : goal.returns-clause-outcome
returns-clause-outcome g c = recovers_then g.D.Disk {m = mild} (unmoved g.D.Disk c.args.writer.now c.args.disk.now (sym c.has_failed.ensures ∙ c.if-has_failed.false) c.requires.ready) (recovers_more g.D.Disk bytes_mildly (recovers_then g.D.Disk {m = no_page} c.in_ok-load_all.ensures.outcome c.redo_all.ensures.outcome))

pub returns-clause-memory : goal.returns-clause-memory
returns-clause-memory g c is = absurd (no_memory g.D.Disk c.redo_all.result c.redo_all.ensures.outcome is)

pub returns-clause-kept : goal.returns-clause-kept
returns-clause-kept g c b base begun file is can at copies changes =
    let d = g.D.Disk in
    let from = c.args.disk.now in
    let within = within_opened d b base begun from file c.args.writer.now from (goes_on_start d b base (opened b begun file) c.args.writer.now from (g.met.D.Disk.only_now from) is) in
    let rises : Rises b begun = within.stands.writing.stands.kept.rises in
    let own : AreOwn begun c.args.changes.now = subst (λ (xs : List Change). AreOwn begun xs) (sym changes) (own_from b c.args.point begun rises) in
    let loaded = c.in_ok-load_all.ensures.kept b base begun file from (opened b begun file) within (waiting_opened b begun file c.args.copies.now (λ p. copies p ∙ ap (λ n. copy_lsn n begun p) at)) (first_opened b begun file) at in
    let applying = applying_start d b base begun file from (lsns_of c.args.changes.now) c.load_all.new.writer c.load_all.new.disk loaded.sound (ap lsns_of changes ∙ lsns_are c.args.point begun ∙ ap (λ n. lsns_from n begun) at) in
    let done = c.redo_all.ensures.kept b base begun file from applying own can at copies in
    record {
      sound = sound_also c.redo_all.result _ _ done.sound
          (λ n all. (applying_end d b base begun file from n c.redo_all.new.writer c.redo_all.new.disk all, counted_all d b base begun file from n c.redo_all.new.writer c.redo_all.new.disk all));
      stops = done.stops;
    }
