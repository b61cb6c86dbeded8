use Rattle.im_page_writer.specs.Outcome.{AsksNothing}
use Rattle.im_page_table.proofs.Growing.{on_ok}
use Rattle.im_page_writer.proofs.Outcomes.{behind, handed_on, none_still, stands_on}
use Rattle.im_page_flush.proofs.Placing.{held_then}
use Rattle.im_page_writer.proofs.Writers.{goes_on_then}
use Rattle.im_page_writer.proofs.page_writer.PageWriter.flush_for_room.Goals as goal

pub returns-in_err-flush_half-clause-outcome : goal.returns-in_err-flush_half-clause-outcome
returns-in_err-flush_half-clause-outcome g c = handed_on g.D.Disk c.from_residual.result c.from_residual.ensures.1 c.in_err-flush_half.ensures.outcome

pub returns-clause-outcome : goal.returns-clause-outcome
returns-clause-outcome g c = behind g.D.Disk AsksNothing none_still c.in_ok-flush_half.ensures.outcome c.flush_one.ensures.outcome

pub returns-clause-kept : goal.returns-clause-kept
returns-clause-kept g c b base s is =
    let old = c.args.disk.now in
    let mid = c.flush_half.new.self in
    let disk = c.flush_half.new.disk in
    let first = c.in_ok-flush_half.ensures.outcome.ends.goes b base s is tt in
    let t = first.now in
    on_ok c.flush_one.result _ _ (c.flush_one.ensures.kept b base t (stands_on g.D.Disk b base s old t mid disk first.on))
    (λ f. record { now = f.now; on = goes_on_then g.D.Disk b base s old t mid disk first.on f.now c.flush_one.new.self c.flush_one.new.disk f.on; written = f.written; in_file = f.in_file })

pub returns-clause-held : goal.returns-clause-held
returns-clause-held g c = on_ok c.flush_one.result _ _ c.flush_one.ensures.held (λ held. held_then c.args.self.now.pool c.flush_half.new.self.pool c.flush_one.new.self.pool c.in_ok-flush_half.ensures.held held)
