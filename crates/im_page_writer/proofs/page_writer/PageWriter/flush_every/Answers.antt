use Rattle.std.proofs.Common.{refl}
use Rattle.im_page_table.proofs.Growing.{on_ok}
use Rattle.im_page_writer.specs.Outcome.{fault_of, none_mild, AsksNothing}
use Rattle.im_page_writer.proofs.FlushedRows.{all_written}
use Rattle.im_page_writer.proofs.SameWriter.{outcome_as}
use Rattle.im_page_writer.proofs.page_writer.PageWriter.flush_every.Goals as goal

pub returns-clause-outcome : goal.returns-clause-outcome
returns-clause-outcome g c =
    outcome_as g.D.Disk c.args.self.now _ c.args.disk.now refl refl refl refl refl AsksNothing none_mild c.flush_numbers.new.self c.flush_numbers.new.disk (fault_of c.flush_numbers.result) c.flush_numbers.ensures.outcome

pub returns-clause-kept : goal.returns-clause-kept
returns-clause-kept g c b base s is =
    on_ok c.flush_numbers.result _ _ (c.flush_numbers.ensures.kept b base s (record { working = is.working; writing = is.writing; known = is.known }))
    (λ so. all_written g.D.Disk b base s c.copy_numbers.new.numbers.items c.args.disk.now c.args.self.now.table c.flush_numbers.new.self c.flush_numbers.new.disk is.writing.entries c.copy_numbers.ensures.all so)

pub returns-clause-none : goal.returns-clause-none
returns-clause-none g c none = c.flush_numbers.ensures.none (c.copy_numbers.ensures.none none)
