use Rattle.std.proofs.Common.{◌∙◌}
use Rattle.im_page_table.proofs.Growing.{on_ok}
use Rattle.im_page_writer.specs.Outcome.{AsksNothing}
use Rattle.im_page_writer.proofs.FlushedRows.{synced_clean}
use Rattle.im_page_writer.proofs.Outcomes.{behind, handed_on, none_still, stands_on}
use Rattle.im_page_writer.proofs.TableRoom.{no_entries}
use Rattle.im_page_writer.proofs.page_writer.PageWriter.flush_and_sync.Goals as goal

pub returns-in_err-flush_all-clause-outcome : goal.returns-in_err-flush_all-clause-outcome
returns-in_err-flush_all-clause-outcome g c = handed_on g.D.Disk c.from_residual.result c.from_residual.ensures.1 c.in_err-flush_all.ensures.outcome

pub returns-in_err-flush_every-clause-outcome : goal.returns-in_err-flush_every-clause-outcome
returns-in_err-flush_every-clause-outcome g c =
    handed_on g.D.Disk c.from_residual-in_err-flush_every.result c.from_residual-in_err-flush_every.ensures.1 (behind g.D.Disk AsksNothing none_still c.in_ok-flush_all.ensures.outcome c.in_err-flush_every.ensures.outcome)

pub returns-clause-outcome : goal.returns-clause-outcome
returns-clause-outcome g c =
    behind g.D.Disk AsksNothing none_still (behind g.D.Disk AsksNothing none_still c.in_ok-flush_all.ensures.outcome c.in_ok-flush_every.ensures.outcome) c.sync_written.ensures.outcome

pub returns-clause-empty : goal.returns-clause-empty
returns-clause-empty g c b base s is =
    let d = g.D.Disk in
    let w = c.flush_all.new.self in
    let first = c.flush_all.new.disk in
    let x = c.flush_every.new.self in
    let second = c.flush_every.new.disk in
    let one = c.in_ok-flush_all.ensures.outcome.ends.goes b base s is tt in
    let two = c.in_ok-flush_every.ensures.kept b base one.now (stands_on d b base s c.args.disk.now one.now w first one.on) in
    on_ok c.sync_written.result _ _ (c.sync_written.ensures.kept b base two.now (stands_on d b base one.now first two.now x second two.on))
    (λ on. no_entries c.sync_written.new.self.table.entries (λ p. on.goes.writing.entries p ∙ synced_clean (two.now.pages p).entry (two.written p)))
