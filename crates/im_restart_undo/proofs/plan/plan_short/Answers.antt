use Rattle.std.proofs.Common.{Ok, refl, sym, ap, subst}
use Rattle.im_base_types.specs.declared.fault.Fault.TheVariants.{Memory, NotAStore}
use Rattle.im_base_types.specs.Records.{What}
use Rattle.im_log.specs.Whats.{what_of}
use Rattle.im_log_record.specs.Entry.{view}
use Rattle.im_log_record.specs.declared.record.Record.{Record}
use Rattle.im_page_writer.specs.Outcome.{no_page}
use Rattle.im_page_writer.proofs.Outcomes.{idle, read_more, refused, refuses}
use Rattle.im_smo_pages.specs.Kept.{mild_to_take}
use Rattle.im_tree_search.proofs.Sighted.{at_hidden, at_seen}
use Rattle.im_restart_undo.specs.declared.back.Back.TheVariants.{Plain}
use Rattle.im_restart_undo.specs.Planning.{PlannedAlone}
use Rattle.im_restart_undo.proofs.Plans.{never_both, none_open, short_refused, short_wants, whole_alone}
use Rattle.im_restart_undo.proofs.plan.plan_short.Goals as goal

pub returns-in_err-sight-in-InsertKey-clause-outcome : goal.returns-in_err-sight-in-InsertKey-clause-outcome
returns-in_err-sight-in-InsertKey-clause-outcome g c = refused g.D.Disk c.from_residual.result c.from_residual.ensures.1 (read_more g.D.Disk mild_to_take refl c.in_err-sight-in-InsertKey.ensures.outcome)

pub returns-in_err-sight-in-InsertKey-clause-kept : goal.returns-in_err-sight-in-InsertKey-clause-kept
returns-in_err-sight-in-InsertKey-clause-kept g c pages whole needs =
    short_refused g.D.Disk pages _ c.in_err-sight-in-InsertKey.field-0.0 c.from_residual.result c.from_residual.ensures.1 (c.in_err-sight-in-InsertKey.ensures.kept pages (whole_alone g.D.Disk c.none.result c.none.ensures.pages whole)) c.in_err-sight-in-InsertKey.ensures.outcome

pub returns-in-Seen-clause-outcome : goal.returns-in-Seen-clause-outcome
returns-in-Seen-clause-outcome g c = read_more g.D.Disk mild_to_take refl c.in_ok-sight-in-InsertKey.ensures.outcome

pub returns-in-Seen-clause-kept : goal.returns-in-Seen-clause-kept
returns-in-Seen-clause-kept g c pages whole needs =
    let leaf = at_seen c.in_ok-sight-in-InsertKey.sight c.in-Seen.frame _ _ c.in-Seen.is (c.in_ok-sight-in-InsertKey.ensures.kept pages (whole_alone g.D.Disk c.none.result c.none.ensures.pages whole)) in
    subst (λ (w : What). PlannedAlone pages w (Ok (Plain c.in-Seen.frame.number))) (sym (ap (λ (x : Record). what_of (view x)) c.in-InsertKey.is)) (record { sound = leaf.way; short = tt; used_up = tt })

pub returns-in-Hidden-clause-outcome : goal.returns-in-Hidden-clause-outcome
returns-in-Hidden-clause-outcome g c = refuses g.D.Disk NotAStore refl refl c.in_ok-sight-in-InsertKey.ensures.outcome

pub returns-in-Hidden-clause-kept : goal.returns-in-Hidden-clause-kept
returns-in-Hidden-clause-kept g c pages whole needs = none_open c.none.result c.none.ensures.done (at_hidden c.in_ok-sight-in-InsertKey.sight _ _ (λ frame is. never_both c.in_ok-sight-in-InsertKey.sight frame is c.in-Hidden.is) c.in_ok-sight-in-InsertKey.ensures.leaf)

pub returns-in_default-clause-outcome : goal.returns-in_default-clause-outcome
returns-in_default-clause-outcome g c = refuses g.D.Disk {n = no_page} Memory refl refl (idle g.D.Disk g.met.D.Disk.only_now c.args.writer.now c.args.disk.now c.requires.working c.requires.ready)

pub returns-in_default-clause-kept : goal.returns-in_default-clause-kept
returns-in_default-clause-kept g c pages whole needs = short_wants pages c.args.«record».now c.in_default.not-InsertKey c.requires.key needs
