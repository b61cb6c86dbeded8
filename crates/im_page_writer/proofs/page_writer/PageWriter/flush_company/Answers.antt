use Rattle.std.proofs.Common.{subst, ◌∙◌}
use Rattle.im_page_pool.specs.Pool.{PoolView}
use Rattle.im_page_writer.specs.Outcome.{AsksNothing}
use Rattle.im_page_flush.specs.Writing.{SameHeld}
use Rattle.im_page_table.proofs.Growing.{on_ok}
use Rattle.im_page_writer.proofs.Outcomes.{behind, handed_on, none_still}
use Rattle.im_page_writer.proofs.page_writer.PageWriter.flush_company.Goals as goal

pub returns-in_err-note_copies-clause-outcome : goal.returns-in_err-note_copies-clause-outcome
returns-in_err-note_copies-clause-outcome g c = handed_on g.D.Disk c.from_residual.result c.from_residual.ensures.1 c.in_err-note_copies.ensures.outcome

pub returns-in_err-note_copies-2-clause-outcome : goal.returns-in_err-note_copies-2-clause-outcome
returns-in_err-note_copies-2-clause-outcome g c = handed_on g.D.Disk c.from_residual-in_err-note_copies-2.result c.from_residual-in_err-note_copies-2.ensures.1 (behind g.D.Disk AsksNothing none_still c.in_ok-note_copies.ensures.outcome c.in_err-note_copies-2.ensures.outcome)

pub returns-clause-outcome : goal.returns-clause-outcome
returns-clause-outcome g c = behind g.D.Disk AsksNothing none_still (behind g.D.Disk AsksNothing none_still c.in_ok-note_copies.ensures.outcome c.in_ok-note_copies-2.ensures.outcome) c.flush_copied.ensures.outcome

pub returns-clause-held : goal.returns-clause-held
returns-clause-held g c = on_ok c.flush_copied.result _ _ c.flush_copied.ensures.held (λ held. subst (λ (pool : PoolView). SameHeld pool c.flush_copied.new.self.pool) (c.note_copies-2.ensures.pool ∙ c.note_copies.ensures.pool) held)
