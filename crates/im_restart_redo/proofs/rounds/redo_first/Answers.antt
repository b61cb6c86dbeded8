use Rattle.std.proofs.Common.{◌+◌, ℕ, List, drop, sym, subst}
use Rattle.im_page_writer.proofs.Outcomes.{sound_on}
use Rattle.im_restart_redo.specs.Applying.{IsApplying}
use Rattle.im_restart_redo.specs.Changes.{lsns_of}
use Rattle.im_restart_redo.proofs.ChangeLsns.{next_lsn}
use Rattle.im_restart_redo.proofs.Recoveries.{recovery_refused}
use Rattle.im_restart_redo.proofs.rounds.redo_first.Goals as goal

pub returns-in_err-applied-clause-outcome : goal.returns-in_err-applied-clause-outcome
returns-in_err-applied-clause-outcome g c = recovery_refused g.D.Disk c.from_residual.result c.from_residual.ensures.1 c.in_err-applied.ensures.outcome

pub returns-in_err-applied-clause-kept : goal.returns-in_err-applied-clause-kept
returns-in_err-applied-clause-kept g c b base begun file from count so shows can at are =
    let next = next_lsn c.args.changes.now 0 (record { page = 0; said = 0; lsn = 0 }) c.requires.some in
    let so' = subst (λ (left : List ℕ). IsApplying g.D.Disk b base begun file left count from c.args.writer.now c.args.disk.now) next so in
    let one = c.in_err-applied.ensures.kept b base begun file from (drop 1 (lsns_of c.args.changes.now)) count so' shows can at are in
    record { sound = sound_on c.from_residual.result _ _ c.from_residual.ensures.1 one.sound; stops = one.stops }

pub returns-clause-kept : goal.returns-clause-kept
returns-clause-kept g c b base begun file from count so shows can at are =
    let next = next_lsn c.args.changes.now 0 (record { page = 0; said = 0; lsn = 0 }) c.requires.some in
    let so' = subst (λ (left : List ℕ). IsApplying g.D.Disk b base begun file left count from c.args.writer.now c.args.disk.now) next so in
    let one = c.in_ok-applied.ensures.kept b base begun file from (drop 1 (lsns_of c.args.changes.now)) count so' shows can at are in
    record { sound = subst (λ (n : ℕ). IsApplying g.D.Disk b base begun file (drop 1 (lsns_of c.args.changes.now)) (count + n) from c.redo_one.new.writer c.redo_one.new.disk) (sym c.one_if.ensures) one.sound; stops = one.stops }

pub returns-clause-shows : goal.returns-clause-shows
returns-clause-shows g c b base begun file from count so shows =
    let next = next_lsn c.args.changes.now 0 (record { page = 0; said = 0; lsn = 0 }) c.requires.some in
    let so' = subst (λ (left : List ℕ). IsApplying g.D.Disk b base begun file left count from c.args.writer.now c.args.disk.now) next so in
    c.in_ok-applied.ensures.shows b base begun file from (drop 1 (lsns_of c.args.changes.now)) count so' shows
