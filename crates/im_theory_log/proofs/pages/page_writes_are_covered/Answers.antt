use Rattle.im_theory_log.proofs.PageLaws.{page_writes_are_covered}
use Rattle.im_theory_log.proofs.pages.page_writes_are_covered.Goals as goal

pub returns : goal.returns
returns c = page_writes_are_covered
