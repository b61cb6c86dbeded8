use Rattle.std.proofs.Common.{ℕ, ◌∙◌, rules, refl}
use Rattle.im_page_table.proofs.Growing.{if_ok}
use Rattle.im_page_flush.proofs.Goings.{covered_last, leaves_last}
use Rattle.im_page_writer.proofs.LoggedChanges.{err_on}
use Rattle.im_page_writer.proofs.Outcomes.{leaves_of_end, log_refused, logs_then, read_logs, search_of, stands_on}
use Rattle.im_page_writer.proofs.Structure.{refused_not}
use Rattle.im_page_writer.proofs.page_writer.PageWriter.log_after.Goals as goal

pub returns-in_err-frame-clause-outcome : goal.returns-in_err-frame-clause-outcome
returns-in_err-frame-clause-outcome g c = log_refused g.D.Disk c.from_residual.result c.from_residual.ensures.1 (read_logs g.D.Disk refl (search_of g.D.Disk c.in_err-frame.ensures.outcome))

pub returns-in_err-frame-clause-kept : goal.returns-in_err-frame-clause-kept
returns-in_err-frame-clause-kept g c b base s e is over =
    let ready = λ (q : ℕ) (le : _). ((is.writing.stands.kept.pages q).run e over).0 in
    record { ok = search rules; stops = leaves_of_end g.D.Disk c.in_err-frame.ensures.outcome b base s is ready; cause = λ has. err_on c.from_residual.result c.in_err-frame.field-0.0 _ c.from_residual.ensures.1 (c.in_err-frame.ensures.sound b base s is ready) }

pub returns-clause-outcome : goal.returns-clause-outcome
returns-clause-outcome g c = logs_then g.D.Disk (search_of g.D.Disk c.in_ok-frame.ensures.outcome) c.after_logged.ensures.outcome

pub returns-clause-kept : goal.returns-clause-kept
returns-clause-kept g c b base s e is over =
    let held = c.in_ok-frame.ensures.outcome.ends.goes b base s is (λ q le. ((is.writing.stands.kept.pages q).run e over).0) in
    let w = c.hold_with_room.new.self in
    let old = c.args.disk.now in
    let mid = c.hold_with_room.new.disk in
    let k = c.after_logged.ensures.kept b base held.now e (stands_on g.D.Disk b base s old held.now w mid held.on) (held.on.goes.keeps.redo_end ∙ over) in
    record {
      ok = if_ok c.after_logged.result _ _ k.logged.ok (λ lsn done. record { before = held.now; keeps = held.on.goes.keeps; stops = covered_last g.D.Disk b base s old held.now w.log w.table w.pool mid held.on.goes c.after_logged.new.disk k.logged.stops; logged = done });
      stops = leaves_last g.D.Disk b base s old held.now w.log w.table w.pool mid held.on.goes c.after_logged.new.disk k.logged.stops;
      cause = λ has. refused_not c.after_logged.result (λ same. has (c.after_logged.ensures.refused.0 same));
    }
