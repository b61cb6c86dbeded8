use Rattle.std.proofs.Common.{◌<◌, length, true, sym, subst, remove}
use Rattle.im_base_types.specs.Pages.{Page}
use Rattle.im_theory_page.specs.Page.{HoldsEntries, with_entries}
use Rattle.im_page_pool.specs.Frames.{stored_at}
use Rattle.im_page_pool.specs.Pool.{Changes}
use Rattle.im_page_pool.proofs.PoolLemmas.{seen_as, within, page_there, sets}
use Rattle.im_page_pool.proofs.pool.Pool.remove.Goals as goal

pub remove-requires-clause-place : goal.remove-requires-clause-place
remove-requires-clause-place c = within c.self.inside.frames c.self.inside.places c.self.inside.gets.count c.args.self.now c.self.invariant c.self.view_is c.args.frame c.requires.held

pub remove-requires-clause-holds : goal.remove-requires-clause-holds
remove-requires-clause-holds c = subst (λ (page : Page). HoldsEntries page.body.kind) (page_there c.self.inside.frames c.self.inside.places c.self.inside.gets.count c.args.self.now c.self.invariant c.self.view_is c.args.frame c.requires.held) c.requires.holds

pub remove-requires-clause-within : goal.remove-requires-clause-within
remove-requires-clause-within c = subst (λ (page : Page). c.args.i < length page.body.entries) (page_there c.self.inside.frames c.self.inside.places c.self.inside.gets.count c.args.self.now c.self.invariant c.self.view_is c.args.frame c.requires.held) c.requires.within

pub returns : goal.returns
returns c =
    let there = page_there c.self.inside.frames c.self.inside.places c.self.inside.gets.count c.args.self.now c.self.invariant c.self.view_is c.args.frame c.requires.held in
    subst (λ (page : Page). Changes c.args.frame (with_entries page (remove page.body.entries c.args.i)) c.args.self.now (seen_as c.remove.new.self c.self.inside.places.taken c.self.inside.gets.count)) (sym there)
    (sets c.self.inside.frames c.self.inside.places c.self.inside.gets.count c.args.self.now c.self.invariant c.self.view_is c.args.frame c.requires.held (with_entries (stored_at c.self.inside.frames c.args.frame.place).page (remove (stored_at c.self.inside.frames c.args.frame.place).page.body.entries c.args.i)) true c.remove.new.self c.remove.ensures)
