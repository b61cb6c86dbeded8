use Rattle.im_theory_log.proofs.PageLaws.{reached_may_be_copied}
use Rattle.im_theory_log.proofs.pages.reached_pages_may_be_copied.Goals as goal

pub returns : goal.returns
returns c = reached_may_be_copied
