use Rattle.std.proofs.Common.{◌∙◌, sym}
use Rattle.im_page_pool.proofs.PoolLemmas.{within, mark_there}
use Rattle.im_page_pool.proofs.pool.Pool.is_changed.Goals as goal

pub is_changed-requires : goal.is_changed-requires
is_changed-requires c = within c.self.inside.frames c.self.inside.places c.self.inside.gets.count c.args.self.now c.self.invariant c.self.view_is c.args.frame c.requires

pub returns : goal.returns
returns c = c.is_changed.ensures ∙ sym (mark_there c.self.inside.frames c.self.inside.places c.self.inside.gets.count c.args.self.now c.self.invariant c.self.view_is c.args.frame c.requires)
