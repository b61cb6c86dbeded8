use Rattle.std.proofs.Common.{◌≡◌, ◌≤◌, arith, Ok, refl}
use Rattle.im_restart_analysis.proofs.Losers.{loser_number}
use Rattle.im_log_record.specs.Entry.{view, transaction_of}
use Rattle.im_restart.proofs.Ends.{answered_late, done_well, no_store}
use Rattle.im_restart.proofs.Compensations.{compensated_so, refused_so, runs_out}
use Rattle.im_restart.proofs.undo.compensate.Goals as goal

pub returns-then-chain-eq0-clause-outcome : goal.returns-then-chain-eq0-clause-outcome
returns-then-chain-eq0-clause-outcome g c = no_store g.D.Disk c.args.writer.now c.args.disk.now refl c.requires.working c.requires.ready

pub returns-in-Ok-clause-outcome : goal.returns-in-Ok-clause-outcome
returns-in-Ok-clause-outcome g c = done_well g.D.Disk c.in-Ok.ensures.outcome

pub returns-in-Err-clause-outcome : goal.returns-in-Err-clause-outcome
returns-in-Err-clause-outcome g c = answered_late g.D.Disk c.in-Err.fault c.answered.result c.in-Err.ensures.outcome c.answered.ensures.memory c.answered.ensures.others

pub returns-then-chain-eq0-clause-kept : goal.returns-then-chain-eq0-clause-kept
returns-then-chain-eq0-clause-kept g c b base all s stands is to =
    let one : 1 ≤ c.args.chain.transaction = loser_number c.args.chain.transaction s.log to.loser in
    let none : c.args.chain.transaction ≡ 0 = c.if-chain-eq0.true in
    absurd (omega (arith, one, none))

pub returns-in-Ok-clause-kept : goal.returns-in-Ok-clause-kept
returns-in-Ok-clause-kept g c b base all s stands is to =
    compensated_so g.D.Disk b base all s c.args.chain (view c.args.«record».now) c.args.writer.now c.args.disk.now stands is to (transaction_of (view c.args.«record».now)) c.undo_one.new.writer c.undo_one.new.disk (Ok c.in-Ok.lsn)
    c.requires.owner (λ e going next. c.in-Ok.ensures.kept b base s e going next)

pub returns-in-Err-clause-kept : goal.returns-in-Err-clause-kept
returns-in-Err-clause-kept g c b base all s stands is to =
    refused_so g.D.Disk b base all s c.args.chain (view c.args.«record».now) c.args.writer.now c.args.disk.now stands is to (transaction_of (view c.args.«record».now)) c.undo_one.new.writer c.undo_one.new.disk c.in-Err.fault c.answered.result
    c.requires.owner c.answered.ensures.memory c.answered.ensures.others (λ e going next. c.in-Err.ensures.kept b base s e going next)

pub returns-in-Err-clause-used_up : goal.returns-in-Err-clause-used_up
returns-in-Err-clause-used_up g c b base all s stands is to =
    runs_out g.D.Disk b base all s c.args.chain (view c.args.«record».now) c.args.writer.now c.args.disk.now stands is to (transaction_of (view c.args.«record».now)) c.undo_one.new.writer c.undo_one.new.disk c.in-Err.fault c.answered.result
    c.requires.owner c.answered.ensures.numbers (λ e going next. c.in-Err.ensures.kept b base s e going next)
