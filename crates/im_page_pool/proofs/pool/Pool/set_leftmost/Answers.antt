use Rattle.std.proofs.Common.{true, sym, subst}
use Rattle.im_base_types.specs.Pages.{Page}
use Rattle.im_theory_page.specs.Header.{HasLeftmost}
use Rattle.im_page_pool.specs.Frames.{stored_at}
use Rattle.im_page_pool.specs.Pool.{Changes}
use Rattle.im_page_pool.proofs.PoolLemmas.{seen_as, within, page_there, sets}
use Rattle.im_page_pool.proofs.pool.Pool.set_leftmost.Goals as goal

pub set_leftmost-requires-clause-place : goal.set_leftmost-requires-clause-place
set_leftmost-requires-clause-place c = within c.self.inside.frames c.self.inside.places c.self.inside.gets.count c.args.self.now c.self.invariant c.self.view_is c.args.frame c.requires.held

pub set_leftmost-requires-clause-holds : goal.set_leftmost-requires-clause-holds
set_leftmost-requires-clause-holds c = subst (λ (page : Page). HasLeftmost page.body.kind) (page_there c.self.inside.frames c.self.inside.places c.self.inside.gets.count c.args.self.now c.self.invariant c.self.view_is c.args.frame c.requires.held) c.requires.holds

pub returns : goal.returns
returns c =
    subst (λ (page : Page). Changes c.args.frame (record page { body = record page.body { leftmost = c.args.leftmost } }) c.args.self.now (seen_as c.set_leftmost.new.self c.self.inside.places.taken c.self.inside.gets.count)) (sym (page_there c.self.inside.frames c.self.inside.places c.self.inside.gets.count c.args.self.now c.self.invariant c.self.view_is c.args.frame c.requires.held))
    (sets c.self.inside.frames c.self.inside.places c.self.inside.gets.count c.args.self.now c.self.invariant c.self.view_is c.args.frame c.requires.held (record (stored_at c.self.inside.frames c.args.frame.place).page { body = record (stored_at c.self.inside.frames c.args.frame.place).page.body { leftmost = c.args.leftmost } }) true c.set_leftmost.new.self c.set_leftmost.ensures)
