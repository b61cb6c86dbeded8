use Rattle.im_files_belonging.proofs.Short.{by_first}
use Rattle.im_files_belonging.proofs.pages.is_cut.Goals as goal

pub returns-else-lacks_beside_none : goal.returns-else-lacks_beside_none
returns-else-lacks_beside_none c =
    by_first c.args.folder.now c.current_of-current.result c.left_of-left.result c.base.result c.current_of-current.ensures c.left_of-left.ensures c.base.ensures
    c.lacks_beside_none.result c.lacks_first.result c.lacks_beside_none.ensures c.if-lacks_beside_none.false c.lacks_first.ensures
