use Rattle.im_engine_rollback.proofs.SplitsBack.{others_leave_splits_back, pages_leave_splits_back, splits_back_begin}
use Rattle.im_engine_rollback.proofs.split_laws.splits_go_on_back.Goals as goal

pub returns-clause-begins : goal.returns-clause-begins
returns-clause-begins g c = splits_back_begin g.D.Disk

pub returns-clause-others : goal.returns-clause-others
returns-clause-others g c = others_leave_splits_back

pub returns-clause-pages : goal.returns-clause-pages
returns-clause-pages g c = pages_leave_splits_back
