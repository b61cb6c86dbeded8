use Rattle.std.proofs.Common.{rules}
use Rattle.im_page_writer.proofs.page_writer.PageWriter.read_at.Goals as goal

pub returns-in_err-size-clause-found : goal.returns-in_err-size-clause-found
returns-in_err-size-clause-found g c b base s r st has same =
    let cause = (c.in_err-size.ensures.found base s.log s.durable r st.writing.stands.log_is has same).cause in
    record { ok = search rules; cause = search (rules, cause) }

pub returns-clause-found : goal.returns-clause-found
returns-clause-found g c b base s r st has same = c.in_ok-size.ensures.found base s.log s.durable r st.writing.stands.log_is has same
