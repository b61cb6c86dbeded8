use Rattle.im_engine.proofs.Numbers.{owned_by}
use Rattle.im_engine.proofs.transactions.Transactions.find.Goals as goal

pub returns-clause-owned : goal.returns-clause-owned
returns-clause-owned c = owned_by c.args.number c.self.inside.table c.self.invariant.2 c.find.result c.find.ensures
