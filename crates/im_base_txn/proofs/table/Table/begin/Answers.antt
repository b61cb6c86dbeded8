use Rattle.im_base_txn.proofs.LookUps.{table_begun}
use Rattle.im_base_txn.proofs.table.Table.begin.Goals as goal

pub invariant_of-self : goal.invariant_of-self
invariant_of-self c = table_begun c.args.number c.push.new.self.items c.args.self.now c.self.inside.rows.items c.push.ensures.items c.self.view_is c.requires.room c.requires.above c.self.invariant
