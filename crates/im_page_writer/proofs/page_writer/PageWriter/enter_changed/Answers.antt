use Rattle.std.proofs.Common.{Option, ◌||◌}
use Rattle.im_theory_log.specs.Writer.{DirtyEntry}
use Rattle.im_theory_log.specs.WriterSteps.{at_point, is_copied}
use Rattle.im_page_writer.proofs.Loans.{entries_most}
use Rattle.im_page_writer.proofs.page_writer.PageWriter.enter_changed.Goals as goal

pub returns-clause-most : goal.returns-clause-most
returns-clause-most c = entries_most c.args.number (λ (o : Option DirtyEntry). at_point (c.args.copied || is_copied o) c.args.point) c.args.self.now.table c.enter_at_point.new.self c.enter_at_point.ensures.table
