use Rattle.im_page_rounds.proofs.Pages.{own_records}
use Rattle.im_page_rounds.proofs.round_laws.pages_need_their_own_records.Goals as goal

pub returns : goal.returns
returns c = own_records
