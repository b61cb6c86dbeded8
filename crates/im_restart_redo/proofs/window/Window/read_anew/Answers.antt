use Rattle.std.proofs.Common.{take, refl, rules, arith}
use Rattle.im_base_disk.proofs.Runs.{reads_then}
use Rattle.im_log.proofs.Spans.{nothing_spans}
use Rattle.im_page_writer.specs.Outcome.{no_page}
use Rattle.im_restart_redo.proofs.Recoveries.{moved, read_none, recovers_then, recovery_refused}
use Rattle.im_restart_redo.proofs.Windows.{brought_there}
use Rattle.im_restart_redo.proofs.window.Window.read_anew.Goals as goal

pub returns-in_err-refill-clause-outcome : goal.returns-in_err-refill-clause-outcome
returns-in_err-refill-clause-outcome g c = recovery_refused g.D.Disk c.from_residual.result c.from_residual.ensures.1 c.in_err-refill.ensures.outcome

pub returns-in_err-refill-clause-found : goal.returns-in_err-refill-clause-found
returns-in_err-refill-clause-found g c b base s log r st also has same =
    let cause = c.in_err-refill.ensures.cause in
    record { ok = search rules; cause = search (rules, cause) }

pub returns-in-Some-clause-outcome : goal.returns-in-Some-clause-outcome
returns-in-Some-clause-outcome g c = c.in_ok-refill.ensures.outcome

pub returns-in-Some-clause-shows : goal.returns-in-Some-clause-shows
returns-in-Some-clause-shows g c b base s log st also = c.in_ok-refill.ensures.shows b base s log st also

pub returns-in-Some-clause-found : goal.returns-in-Some-clause-found
returns-in-Some-clause-found g c b base s log r st also has same =
    record { ok = c.in-Some.ensures.found log r (c.in_ok-refill.ensures.shows b base s log st also) has same; cause = search rules }

pub returns-in_err-size-clause-outcome : goal.returns-in_err-size-clause-outcome
returns-in_err-size-clause-outcome g c =
    let d = g.D.Disk in
    let o = c.in_ok-refill.ensures.outcome in
    let r = c.in_err-size.ensures in
    recovery_refused d c.from_residual-in_err-size.result c.from_residual-in_err-size.ensures.1
    (recovers_then d {m = no_page} o (read_none d c.refill.new.writer c.read_at.new.self c.read_at.new.disk o.ends.works r.ready r.frames refl _ c.in_err-size.field-0.0 refl r.failed r.causes r.already r.device))

pub returns-in_err-size-clause-found : goal.returns-in_err-size-clause-found
returns-in_err-size-clause-found g c b base s log r st also has same =
    let cause = (c.in_err-size.ensures.found b base s r (c.in_ok-refill.ensures.kept b base s st) (also r has) same).cause in
    record { ok = search rules; cause = search (rules, cause) }

pub returns-clause-outcome : goal.returns-clause-outcome
returns-clause-outcome g c =
    let d = g.D.Disk in
    let o = c.in_ok-refill.ensures.outcome in
    let r = c.in_ok-size.ensures in
    recovers_then d {m = no_page} o (moved d c.refill.new.writer c.read_at.new.self c.read_at.new.disk o.ends.works r.ready r.frames r.works)

pub returns-clause-kept : goal.returns-clause-kept
returns-clause-kept g c b base s st = c.in_ok-size.ensures.kept b base s (c.in_ok-refill.ensures.kept b base s st)

pub returns-clause-shows : goal.returns-clause-shows
returns-clause-shows g c b base s log st also = nothing_spans log _ (take 0 c.read_at.new.room) refl

pub returns-clause-found : goal.returns-clause-found
returns-clause-found g c b base s log r st also has same =
    record { ok = brought_there r c.read_at.new.room c.in_ok-size.size (c.in_ok-size.ensures.found b base s r (c.in_ok-refill.ensures.kept b base s st) (also r has) same).ok; cause = search rules }

pub returns-clause-within : goal.returns-clause-within
returns-clause-within g c =
    let r = c.in_ok-size.ensures in
    record { ordered = omega arith; within = omega (arith, r.size.1, r.room, c.in_ok-refill.ensures.room, c.requires.room) }

pub returns-clause-reads : goal.returns-clause-reads
returns-clause-reads g c = reads_then g.D.Disk c.args.disk.now c.refill.new.disk c.read_at.new.disk c.refill.ensures.reads c.read_at.ensures.reads
