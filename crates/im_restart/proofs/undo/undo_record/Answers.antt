use Rattle.std.proofs.Common.{◌≡◌, ap, refl, sym, ◌∙◌, subst}
use Rattle.im_smo_pages.specs.Kept.{mild_to_take}
use Rattle.im_smo_pages.proofs.Goings.{take_mildly as take_mild}
use Rattle.im_page_writer.specs.Outcome.{mild}
use Rattle.im_page_writer.proofs.LoggedChanges.{err_on}
use Rattle.im_restart_redo.proofs.Recoveries.{recovers_more, recovery_own, unmoved}
use Rattle.im_base_types.specs.declared.fault.Fault.TheVariants.{Capacity, NotAStore}
use Rattle.im_restart.specs.Restart.{RunsOut}
use Rattle.im_restart.proofs.Ends.{no_numbers, no_store, other_cause}
use Rattle.im_theory_tree.specs.Theory.{page_tree}
use Rattle.im_theory_tree.proofs.TheoryLaws.{page_tree_laws}
use Rattle.im_restart.specs.LoserChains.{GoesOnAt}
use Rattle.im_restart.proofs.Readings.{leads_so, leads_somewhere, to_undo_here}
use Rattle.im_log_record.specs.Entry.{view}
use Rattle.im_restart.proofs.undo.undo_record.Goals as goal

pub returns-then-transaction-chain-clause-outcome : goal.returns-then-transaction-chain-clause-outcome
returns-then-transaction-chain-clause-outcome g c = no_store g.D.Disk c.args.writer.now c.args.disk.now refl c.requires.working c.requires.ready

pub returns-in_err-next-clause-outcome : goal.returns-in_err-next-clause-outcome
returns-in_err-next-clause-outcome g c =
    recovery_own g.D.Disk {m = mild} refl refl refl c.from_residual.result (unmoved g.D.Disk c.args.writer.now c.args.disk.now c.requires.working c.requires.ready)
    (err_on c.from_residual.result c.in_err-next.field-0.0 _ c.from_residual.ensures.1 (ap mild_to_take c.in_err-next.ensures.refused.0))

pub returns-else-is_key_record-clause-outcome : goal.returns-else-is_key_record-clause-outcome
returns-else-is_key_record-clause-outcome g c = recovers_more g.D.Disk take_mild c.put_or_end.ensures.outcome

pub returns-in_err-next-clause-kept : goal.returns-in_err-next-clause-kept
returns-in_err-next-clause-kept g c b base all s out stands is are left goes there mine latest =
    absurd (leads_somewhere b page_tree page_tree_laws s.log c.args.chain c.args.lsn (view c.args.«record».now) is.can goes there mine c.in_err-next.ensures.refused.1)

pub returns-then-is_key_record-clause-kept : goal.returns-then-is_key_record-clause-kept
returns-then-is_key_record-clause-kept g c b base all s out stands is are left goes there mine latest =
    let key = sym c.is_key_record.ensures ∙ c.if-is_key_record.true in
    c.undo_key.ensures.kept b base all s out stands is are left (to_undo_here b page_tree page_tree_laws s.log c.args.chain c.args.lsn (view c.args.«record».now) is.can goes there mine key latest)

pub returns-else-is_key_record-clause-kept : goal.returns-else-is_key_record-clause-kept
returns-else-is_key_record-clause-kept g c b base all s out stands is are left goes there mine latest =
    let other = c.in_ok-next.ensures.other (sym c.is_key_record.ensures ∙ c.if-is_key_record.false) in
    let on = leads_so b page_tree page_tree_laws s.log c.args.chain c.args.lsn (view c.args.«record».now) is.can goes there mine other.0 in
    c.put_or_end.ensures.kept b base all s out stands is are left (subst (λ n. GoesOnAt c.args.chain n s.log) (sym other.1) on)

pub returns-in_err-next-clause-used_up : goal.returns-in_err-next-clause-used_up
returns-in_err-next-clause-used_up g c b base all s stands is goes there mine latest =
    err_on c.from_residual.result c.in_err-next.field-0.0 (λ e. e ≡ Capacity → RunsOut b all) c.from_residual.ensures.1 (λ full. other_cause c.in_err-next.field-0.0 NotAStore c.in_err-next.ensures.refused.0 (λ x. cc x) full)

pub returns-then-is_key_record-clause-used_up : goal.returns-then-is_key_record-clause-used_up
returns-then-is_key_record-clause-used_up g c b base all s stands is goes there mine latest =
    let key = sym c.is_key_record.ensures ∙ c.if-is_key_record.true in
    c.undo_key.ensures.used_up b base all s stands is (to_undo_here b page_tree page_tree_laws s.log c.args.chain c.args.lsn (view c.args.«record».now) is.can goes there mine key latest)

pub returns-else-is_key_record-clause-used_up : goal.returns-else-is_key_record-clause-used_up
returns-else-is_key_record-clause-used_up g c b base all s stands is goes there mine latest = no_numbers g.D.Disk c.put_or_end.result c.put_or_end.ensures.outcome (RunsOut b all)
