use Rattle.std.proofs.Common.{◌∙◌, sym}
use Rattle.im_page_pool.proofs.PoolLemmas.{within, page_there}
use Rattle.im_page_pool.proofs.pool.Pool.page.Goals as goal

pub page-requires : goal.page-requires
page-requires c = within c.self.inside.frames c.self.inside.places c.self.inside.gets.count c.args.self.now c.self.invariant c.self.view_is c.args.frame c.requires

pub returns : goal.returns
returns c = record { page = c.page.ensures ∙ sym (page_there c.self.inside.frames c.self.inside.places c.self.inside.gets.count c.args.self.now c.self.invariant c.self.view_is c.args.frame c.requires) }
