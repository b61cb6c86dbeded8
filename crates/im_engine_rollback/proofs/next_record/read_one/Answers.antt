use Rattle.std.proofs.Common.{ℕ, Ok, Err, refl, sym, ◌∙◌, subst}
use Rattle.im_log_record.specs.Entry.{view}
use Rattle.im_log.specs.Spelled.{logged_at}
use Rattle.im_page_writer.proofs.Outcomes.{sound_on}
use Rattle.im_theory_tree.specs.Theory.{page_tree}
use Rattle.im_theory_tree.proofs.TheoryLaws.{page_tree_laws}
use Rattle.im_engine_rollback.specs.Going.{GoesOnAt}
use Rattle.im_engine_rollback.proofs.Ends.{device_not_store, no_record, not_a_store, read_ends, turn_refused_on}
use Rattle.im_restart_analysis.proofs.RecordsRead.{spelled_here, spelled_none}
use Rattle.im_engine_rollback.proofs.Readings.{leads_down, leads_else, next_here}
use Rattle.im_engine_rollback.proofs.next_record.read_one.Goals as goal

pub returns-in_err-size-clause-outcome : goal.returns-in_err-size-clause-outcome
returns-in_err-size-clause-outcome g c = turn_refused_on g.D.Disk c.from_residual.result c.from_residual.ensures.1 (read_ends g.D.Disk {A = ℕ} (Err c.in_err-size.field-0.0) c.in_err-size.ensures.ready c.requires.working c.in_err-size.ensures.failed c.in_err-size.ensures.causes c.in_err-size.ensures.already (c.in_err-size.ensures.device c.requires.working) c.in_err-size.ensures.frames)

pub returns-in_err-size-clause-kept : goal.returns-in_err-size-clause-kept
returns-in_err-size-clause-kept g c b base s e last undo_next going goes some =
    let at = goes.at some in
    let found = c.in_err-size.ensures.found b base s at.found going.stands at.logged (sym at.here) in
    sound_on c.from_residual.result _ _ c.from_residual.ensures.1 (device_not_store c.in_err-size.field-0.0 found.cause)

pub returns-in_err-record-clause-outcome : goal.returns-in_err-record-clause-outcome
returns-in_err-record-clause-outcome g c = turn_refused_on g.D.Disk c.from_residual-in_err-record.result c.from_residual-in_err-record.ensures.1 (no_record g.D.Disk c.in_err-record.ensures.entry.0 (read_ends g.D.Disk {A = ℕ} (Ok c.in_ok-size.size) c.in_ok-size.ensures.ready c.requires.working c.in_ok-size.ensures.failed tt c.in_ok-size.ensures.already (c.in_ok-size.ensures.device c.requires.working) c.in_ok-size.ensures.frames))

pub returns-in_err-record-clause-kept : goal.returns-in_err-record-clause-kept
returns-in_err-record-clause-kept g c b base s e last undo_next going goes some =
    let at = goes.at some in
    let found = c.in_ok-size.ensures.found b base s at.found going.stands at.logged (sym at.here) in
    absurd (spelled_none at.found _ found.ok c.in_err-record.ensures.entry.1)

pub returns-then-transaction-clause-outcome : goal.returns-then-transaction-clause-outcome
returns-then-transaction-clause-outcome g c = not_a_store g.D.Disk (read_ends g.D.Disk {A = ℕ} (Ok c.in_ok-size.size) c.in_ok-size.ensures.ready c.requires.working c.in_ok-size.ensures.failed tt c.in_ok-size.ensures.already (c.in_ok-size.ensures.device c.requires.working) c.in_ok-size.ensures.frames)

pub returns-then-transaction-clause-kept : goal.returns-then-transaction-clause-kept
returns-then-transaction-clause-kept g c b base s e last undo_next going goes some =
    let t = c.args.transaction in
    let at = goes.at some in
    let said = view c.in_ok-record.record in
    let found = c.in_ok-size.ensures.found b base s at.found going.stands at.logged (sym at.here) in
    let here = spelled_here t c.args.lsn s.log at _ found.ok said c.in_ok-record.ensures.entry in
    absurd (c.if-transaction.true (c.transaction.ensures ∙ here.1))

pub returns-then-is_key_record-clause-outcome : goal.returns-then-is_key_record-clause-outcome
returns-then-is_key_record-clause-outcome g c = read_ends g.D.Disk {A = ℕ} (Ok c.in_ok-size.size) c.in_ok-size.ensures.ready c.requires.working c.in_ok-size.ensures.failed tt c.in_ok-size.ensures.already (c.in_ok-size.ensures.device c.requires.working) c.in_ok-size.ensures.frames

pub returns-then-is_key_record-clause-kept : goal.returns-then-is_key_record-clause-kept
returns-then-is_key_record-clause-kept g c b base s e last undo_next going goes some =
    let t = c.args.transaction in
    let at = goes.at some in
    let said = view c.in_ok-record.record in
    let found = c.in_ok-size.ensures.found b base s at.found going.stands at.logged (sym at.here) in
    let here = spelled_here t c.args.lsn s.log at _ found.ok said c.in_ok-record.ensures.entry in
    let key = sym c.is_key_record.ensures ∙ c.if-is_key_record.true in
    (c.in_ok-size.ensures.kept b base s going.stands, next_here b page_tree page_tree_laws s.log t c.args.lsn going.lawful going.owner going.unfinished goes (logged_at c.args.lsn said) here.0 refl here.1 key)

pub returns-in_err-next-clause-outcome : goal.returns-in_err-next-clause-outcome
returns-in_err-next-clause-outcome g c = turn_refused_on g.D.Disk c.from_residual-in_err-next.result c.from_residual-in_err-next.ensures.1 (no_record g.D.Disk c.in_err-next.ensures.refused.0 (read_ends g.D.Disk {A = ℕ} (Ok c.in_ok-size.size) c.in_ok-size.ensures.ready c.requires.working c.in_ok-size.ensures.failed tt c.in_ok-size.ensures.already (c.in_ok-size.ensures.device c.requires.working) c.in_ok-size.ensures.frames))

pub returns-in_err-next-clause-kept : goal.returns-in_err-next-clause-kept
returns-in_err-next-clause-kept g c b base s e last undo_next going goes some =
    let t = c.args.transaction in
    let at = goes.at some in
    let said = view c.in_ok-record.record in
    let found = c.in_ok-size.ensures.found b base s at.found going.stands at.logged (sym at.here) in
    let here = spelled_here t c.args.lsn s.log at _ found.ok said c.in_ok-record.ensures.entry in
    let other = sym c.is_key_record.ensures ∙ c.if-is_key_record.false in
    absurd (leads_down b page_tree page_tree_laws s.log t c.args.lsn going.lawful going.owner going.unfinished goes (logged_at c.args.lsn said) here.0 refl here.1 other c.in_err-next.ensures.refused.1.on)

pub returns-clause-outcome : goal.returns-clause-outcome
returns-clause-outcome g c = read_ends g.D.Disk {A = ℕ} (Ok c.in_ok-size.size) c.in_ok-size.ensures.ready c.requires.working c.in_ok-size.ensures.failed tt c.in_ok-size.ensures.already (c.in_ok-size.ensures.device c.requires.working) c.in_ok-size.ensures.frames

pub returns-clause-kept : goal.returns-clause-kept
returns-clause-kept g c b base s e last undo_next going goes some =
    let t = c.args.transaction in
    let at = goes.at some in
    let said = view c.in_ok-record.record in
    let found = c.in_ok-size.ensures.found b base s at.found going.stands at.logged (sym at.here) in
    let here = spelled_here t c.args.lsn s.log at _ found.ok said c.in_ok-record.ensures.entry in
    let other = sym c.is_key_record.ensures ∙ c.if-is_key_record.false in
    let on = (leads_else b page_tree page_tree_laws s.log t c.args.lsn going.lawful going.owner going.unfinished goes (logged_at c.args.lsn said) here.0 refl here.1 other).0 in
    (c.in_ok-size.ensures.kept b base s going.stands, subst (λ n. GoesOnAt t n s.log) (sym (c.in_ok-next.ensures.other other).1) on)
