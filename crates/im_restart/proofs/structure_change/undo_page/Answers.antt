use Rattle.std.proofs.Common.{◌≡◌, true, refl, sym, ap, subst, ◌∙◌}
use Rattle.im_page_writer.specs.Outcome.{mild}
use Rattle.im_page_writer.proofs.Cited.{err_on, sound_on}
use Rattle.im_restart_redo.proofs.Recoveries.{recovery_own, unmoved}
use Rattle.im_restart.proofs.Ends.{memory_mild}
use Rattle.im_theory_log.specs.Transactions.{last_of}
use Rattle.im_log_record.specs.Entry.{view, prev_of, transaction_of}
use Rattle.im_log.specs.Spelled.{logged_at}
use Rattle.im_restart_analysis.specs.Losers.{is_loser}
use Rattle.im_theory_tree.specs.Theory.{page_tree}
use Rattle.im_restart.proofs.OpenChanges.{open_loser, page_noted}
use Rattle.im_restart.proofs.structure_change.undo_page.Goals as goal

pub returns-in_err-last-clause-outcome : goal.returns-in_err-last-clause-outcome
returns-in_err-last-clause-outcome g c =
    recovery_own g.D.Disk {m = mild} refl refl refl c.from_residual.result (unmoved g.D.Disk c.args.writer.now c.args.disk.now c.requires.working c.requires.ready)
    (err_on c.from_residual.result c.in_err-last.field-0.0 _ c.from_residual.ensures.1 (ap mild c.in_err-last.ensures.refused))

pub returns-clause-outcome : goal.returns-clause-outcome
returns-clause-outcome g c = recovery_own g.D.Disk refl refl refl c.note_row.result c.in_ok-lsn.ensures.outcome (memory_mild c.note_row.result c.note_row.ensures.refused)

pub returns-in_err-last-clause-kept : goal.returns-in_err-last-clause-kept
returns-in_err-last-clause-kept g c b base all s lsn rest stands is going are =
    let loser = subst (λ t. is_loser t s.log ≡ true) (sym c.transaction.ensures) (open_loser b page_tree s.log (logged_at lsn (view c.args.«record».now)) rest is.lawful going) in
    let clash = c.in_err-last.ensures.last s.log are loser in
    absurd (cc clash)

pub returns-in_err-lsn-clause-kept : goal.returns-in_err-lsn-clause-kept
returns-in_err-lsn-clause-kept g c b base all s lsn rest stands is going are =
    let loser = subst (λ t. is_loser t s.log ≡ true) (sym c.transaction.ensures) (open_loser b page_tree s.log (logged_at lsn (view c.args.«record».now)) rest is.lawful going) in
    let one = c.in_ok-last.ensures.last s.log are loser in
    let behind : c.in_ok-last.last ≡ last_of c.transaction.result s.log = cc one in
    let k = c.in_err-lsn.ensures.kept b base all s lsn rest stands is going (behind ∙ ap (λ t. last_of t s.log) c.transaction.ensures) in
    record { sound = sound_on c.from_residual-in_err-lsn.result _ _ c.from_residual-in_err-lsn.ensures.1 k.sound; stops = k.stops }

pub returns-clause-kept : goal.returns-clause-kept
returns-clause-kept g c b base all s lsn rest stands is going are =
    let loser = subst (λ t. is_loser t s.log ≡ true) (sym c.transaction.ensures) (open_loser b page_tree s.log (logged_at lsn (view c.args.«record».now)) rest is.lawful going) in
    let one = c.in_ok-last.ensures.last s.log are loser in
    let behind : c.in_ok-last.last ≡ last_of c.transaction.result s.log = cc one in
    let k = c.in_ok-lsn.ensures.kept b base all s lsn rest stands is going (behind ∙ ap (λ t. last_of t s.log) c.transaction.ensures) in
    page_noted g.D.Disk b base all s (transaction_of (view c.args.«record».now)) (prev_of (view c.args.«record».now)) rest c.in_ok-lsn.lsn c.args.disk.now c.take_back.new.writer c.args.losers.now c.note_row.new.losers c.take_back.new.disk
    c.note_row.result k.sound are c.transaction-2.result c.prev.result c.transaction-2.ensures c.prev.ensures c.note_row.ensures.updates c.note_row.ensures.refused
