use Rattle.std.proofs.Common.{sym, ◌∙◌}
use Rattle.im_page_pool.proofs.PoolLemmas.{within, page_there, sets}
use Rattle.im_page_pool.proofs.pool.Pool.exchange.Goals as goal

pub exchange-requires : goal.exchange-requires
exchange-requires c = within c.self.inside.frames c.self.inside.places c.self.inside.gets.count c.args.self.now c.self.invariant c.self.view_is c.args.frame c.requires

pub returns-clause-out : goal.returns-clause-out
returns-clause-out c = c.exchange.ensures.out ∙ sym (page_there c.self.inside.frames c.self.inside.places c.self.inside.gets.count c.args.self.now c.self.invariant c.self.view_is c.args.frame c.requires)

pub returns-clause-here : goal.returns-clause-here
returns-clause-here c = sets c.self.inside.frames c.self.inside.places c.self.inside.gets.count c.args.self.now c.self.invariant c.self.view_is c.args.frame c.requires c.args.page.now.value c.args.changed c.exchange.new.self c.exchange.ensures.put
