use Rattle.std.proofs.Common.{refl, subst}
use Rattle.im_page_writer.specs.Outcome.{mild}
use Rattle.im_restart_redo.proofs.Recoveries.{recovery_own, unmoved}
use Rattle.im_restart.proofs.Ends.{either_mild}
use Rattle.im_theory_log.proofs.Fronts.{rises}
use Rattle.im_theory_tree.specs.Theory.{page_tree}
use Rattle.im_restart.specs.LoserChains.{GoesOnAt}
use Rattle.im_restart.proofs.Undos.{step_end, step_put}
use Rattle.im_restart.proofs.undo.put_or_end.Goals as goal

pub returns-else-lsn-eq0-clause-outcome : goal.returns-else-lsn-eq0-clause-outcome
returns-else-lsn-eq0-clause-outcome g c =
    recovery_own g.D.Disk {m = mild} refl refl refl c.put_chain.result (unmoved g.D.Disk c.args.writer.now c.args.disk.now c.requires.working c.requires.ready) (either_mild c.put_chain.result c.put_chain.ensures.causes)

pub returns-then-lsn-eq0-clause-kept : goal.returns-then-lsn-eq0-clause-kept
returns-then-lsn-eq0-clause-kept g c b base all s out stands is are left goes =
    let none : GoesOnAt c.args.chain 0 s.log = subst (λ l. GoesOnAt c.args.chain l s.log) c.if-lsn-eq0.true goes in
    step_end g.D.Disk b base all s c.args.chain.transaction out c.args.chains.now c.args.disk.now c.end.new.writer c.end.new.disk c.end.result is are (c.end.ensures.kept b base all s stands is none)

pub returns-else-lsn-eq0-clause-kept : goal.returns-else-lsn-eq0-clause-kept
returns-else-lsn-eq0-clause-kept g c b base all s out stands is are left goes =
    step_put g.D.Disk b base all s c.args.chain.transaction out c.put_chain.new.chains c.args.writer.now c.args.disk.now c.put_chain.result (g.met.D.Disk.only_now c.args.disk.now) stands is
    (c.put_chain.ensures.kept b out s.log (rises b page_tree s.log is.can.lawful) are left goes c.if-lsn-eq0.false)
