use Rattle.std.proofs.Common.{inr}
use Rattle.im_page_writer.proofs.LoggedChanges.{err_on}
use Rattle.im_page_writer.proofs.page_writer.PageWriter.redo_held.Goals as goal

pub returns-in_err-frame-clause-refused : goal.returns-in_err-frame-clause-refused
returns-in_err-frame-clause-refused c = let none = c.in_err-frame.ensures.refused in err_on c.from_residual.result c.in_err-frame.field-0.0 _ c.from_residual.ensures.1 (none.0, inr none.1)
