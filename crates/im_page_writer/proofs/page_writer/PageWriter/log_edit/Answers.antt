use Rattle.std.proofs.Common.{ℕ, ap, subst, sym, ◌∙◌, rules, refl}
use Rattle.im_base_types.specs.Pages.{Page}
use Rattle.im_theory_page.specs.Header.{initial}
use Rattle.im_page_pool.specs.Pool.{held_of}
use Rattle.im_page.specs.LeafEdits.{MayEdit}
use Rattle.im_page_table.proofs.Growing.{if_ok}
use Rattle.im_page_flush.proofs.Goings.{covered_last, leaves_last, leaves_so_far}
use Rattle.im_page_writer.proofs.LeafChanges.{may_edit}
use Rattle.im_page_writer.proofs.LoggedChanges.{at_shows, err_on, failed_cause}
use Rattle.im_page_writer.proofs.Outcomes.{leaves_of_end, log_refused, logs_then, own_logs, read_logs, search_of, stands_on}
use Rattle.im_page_writer.proofs.page_writer.PageWriter.log_edit.Goals as goal

pub returns-in_err-frame-clause-outcome : goal.returns-in_err-frame-clause-outcome
returns-in_err-frame-clause-outcome g c = log_refused g.D.Disk c.from_residual.result c.from_residual.ensures.1 (read_logs g.D.Disk refl (search_of g.D.Disk c.in_err-frame.ensures.outcome))

pub returns-in_err-frame-clause-kept : goal.returns-in_err-frame-clause-kept
returns-in_err-frame-clause-kept g c b base s e is over =
    let ready = λ (q : ℕ) (le : _). ((is.writing.stands.kept.pages q).run e over).0 in
    record { ok = search rules; stops = leaves_of_end g.D.Disk c.in_err-frame.ensures.outcome b base s is ready; cause = λ takes. err_on c.from_residual.result c.in_err-frame.field-0.0 _ c.from_residual.ensures.1 (c.in_err-frame.ensures.sound b base s is ready) }

pub returns-in_err-i-clause-outcome : goal.returns-in_err-i-clause-outcome
returns-in_err-i-clause-outcome g c = log_refused g.D.Disk c.from_residual-in_err-i.result c.from_residual-in_err-i.ensures.1 (read_logs g.D.Disk refl (own_logs g.D.Disk c.in_err-i.ensures.refused.0 (search_of g.D.Disk c.in_ok-frame.ensures.outcome)))

pub returns-in_err-i-clause-kept : goal.returns-in_err-i-clause-kept
returns-in_err-i-clause-kept g c b base s e is over =
    let held = c.in_ok-frame.ensures.outcome.ends.goes b base s is (λ q le. ((is.writing.stands.kept.pages q).run e over).0) in
    let w = c.hold_with_room.new.self in
    let frame = c.in_ok-frame.frame in
    let page = c.page.ensures.page
    ∙ at_shows (held_of w.pool frame.number) frame.place (held.now.pages frame.number) (initial 0) c.in_ok-frame.ensures.at (held.on.goes.writing.pooled.shows frame.number)
    ∙ (held.on.goes.keeps.pages frame.number).page
    ∙ ap (λ (n : ℕ). (s.pages n).page) (c.in_ok-frame.ensures.frame ∙ sym c.requires.page) in
    record {
      ok = search rules;
      stops = leaves_so_far g.D.Disk b base s c.args.disk.now held.now w.log w.table w.pool c.hold_with_room.new.disk held.on.goes;
      cause = λ takes. absurd (c.in_err-i.ensures.refused.1 (subst (λ (x : Page). MayEdit c.args.edit x c.args.key.now) (sym page) (may_edit c.args.edit c.args.key.now c.args.rid _ (c.requires.what.takes _ takes))));
    }

pub returns-clause-outcome : goal.returns-clause-outcome
returns-clause-outcome g c = logs_then g.D.Disk (search_of g.D.Disk c.in_ok-frame.ensures.outcome) c.edit_logged.ensures.outcome

pub returns-clause-kept : goal.returns-clause-kept
returns-clause-kept g c b base s e is over =
    let held = c.in_ok-frame.ensures.outcome.ends.goes b base s is (λ q le. ((is.writing.stands.kept.pages q).run e over).0) in
    let w = c.hold_with_room.new.self in
    let k = c.edit_logged.ensures.kept b base held.now e (stands_on g.D.Disk b base s c.args.disk.now held.now w c.hold_with_room.new.disk held.on) (held.on.goes.keeps.redo_end ∙ over) in
    record {
      ok = if_ok c.edit_logged.result _ _ k.ok (λ lsn done. record { before = held.now; keeps = held.on.goes.keeps; stops = covered_last g.D.Disk b base s c.args.disk.now held.now w.log w.table w.pool c.hold_with_room.new.disk held.on.goes c.edit_logged.new.disk k.stops; logged = done });
      stops = leaves_last g.D.Disk b base s c.args.disk.now held.now w.log w.table w.pool c.hold_with_room.new.disk held.on.goes c.edit_logged.new.disk k.stops;
      cause = λ takes. failed_cause c.edit_logged.result c.edit_logged.ensures.causes;
    }
