use Rattle.im_smo_log.proofs.PageBytes.{behind_is}
use Rattle.im_smo_log.proofs.page_bytes.behind.Goals as goal

pub returns-clause-page : goal.returns-clause-page
returns-clause-page c = behind_is c.bytes.result.now c.args.page.now c.bytes.ensures.page c.bytes.ensures.len
