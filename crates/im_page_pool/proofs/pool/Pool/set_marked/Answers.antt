use Rattle.std.proofs.Common.{true, sym, subst}
use Rattle.im_base_types.specs.Pages.{Page}
use Rattle.im_page_pool.specs.Frames.{stored_at}
use Rattle.im_page_pool.specs.Pool.{Changes}
use Rattle.im_page_pool.proofs.PoolLemmas.{seen_as, within, page_there, sets}
use Rattle.im_page_pool.proofs.pool.Pool.set_marked.Goals as goal

pub set_marked-requires : goal.set_marked-requires
set_marked-requires c = within c.self.inside.frames c.self.inside.places c.self.inside.gets.count c.args.self.now c.self.invariant c.self.view_is c.args.frame c.requires

pub returns : goal.returns
returns c =
    subst (λ (page : Page). Changes c.args.frame (record page { body = record page.body { marked = c.args.marked } }) c.args.self.now (seen_as c.set_marked.new.self c.self.inside.places.taken c.self.inside.gets.count)) (sym (page_there c.self.inside.frames c.self.inside.places c.self.inside.gets.count c.args.self.now c.self.invariant c.self.view_is c.args.frame c.requires))
    (sets c.self.inside.frames c.self.inside.places c.self.inside.gets.count c.args.self.now c.self.invariant c.self.view_is c.args.frame c.requires (record (stored_at c.self.inside.frames c.args.frame.place).page { body = record (stored_at c.self.inside.frames c.args.frame.place).page.body { marked = c.args.marked } }) true c.set_marked.new.self c.set_marked.ensures)
