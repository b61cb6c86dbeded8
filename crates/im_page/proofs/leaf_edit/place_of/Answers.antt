use Rattle.std.proofs.Common.{refl}
use Rattle.im_page.proofs.KeyLists.{absent_at}
use Rattle.im_page.proofs.leaf_edit.place_of.Goals as goal

pub returns-in-Err-clause-refused : goal.returns-in-Err-clause-refused
returns-in-Err-clause-refused c = (refl, λ can. can.has (absent_at c.args.page.now.body.entries c.args.key.now c.in-Err.field-0 c.in-Err.ensures))
