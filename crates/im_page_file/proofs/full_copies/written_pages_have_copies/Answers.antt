use Rattle.im_theory_log.proofs.WriterCovers.{full_copy}
use Rattle.im_page_file.proofs.full_copies.written_pages_have_copies.Goals as goal

pub returns : goal.returns
returns g c disk b base s log table st p unsynced = full_copy b s st.kept p unsynced
