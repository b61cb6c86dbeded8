use Rattle.im_page_rounds.proofs.Changes.{changes_alone}
use Rattle.im_page_rounds.proofs.round_laws.pages_need_changes_alone.Goals as goal

pub returns : goal.returns
returns c = changes_alone
