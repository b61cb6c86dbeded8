use Rattle.im_theory_log.proofs.PageLaws.{cover_is_kept}
use Rattle.im_theory_log.proofs.pages.cover_is_kept.Goals as goal

pub returns : goal.returns
returns c = cover_is_kept
