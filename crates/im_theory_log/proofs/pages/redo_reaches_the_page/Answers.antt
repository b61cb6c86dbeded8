use Rattle.im_theory_log.proofs.PageLaws.{redo_reaches_the_page}
use Rattle.im_theory_log.proofs.pages.redo_reaches_the_page.Goals as goal

pub returns : goal.returns
returns c = redo_reaches_the_page
