use Rattle.std.proofs.Common.{◌≡◌, ◌↔◌, ◌+◌, ◌≤◌, ◌<◌, ◌^◌, true, sym, subst, IsOk, insert}
use Rattle.std.proofs.lemmas.Result.{on_ok_weaker}
use Rattle.im_base_types.specs.Pages.{Page}
use Rattle.im_base_types.specs.declared.page_kind.PageKind.TheVariants.{Inner}
use Rattle.im_theory_page.specs.Entry.{Parts, taken, size}
use Rattle.im_theory_page.specs.Page.{HoldsEntries, is_leaf_kind, with_entries}
use Rattle.im_page_pool.specs.Frames.{stored_at, Puts}
use Rattle.im_page_pool.specs.Pool.{Changes}
use Rattle.im_page_pool.proofs.PoolLemmas.{seen_as, within, page_there, sets}
use Rattle.im_page_pool.proofs.pool.Pool.insert.Goals as goal

pub insert-requires-clause-place : goal.insert-requires-clause-place
insert-requires-clause-place c = within c.self.inside.frames c.self.inside.places c.self.inside.gets.count c.args.self.now c.self.invariant c.self.view_is c.args.frame c.requires.held

pub insert-requires-clause-holds : goal.insert-requires-clause-holds
insert-requires-clause-holds c = subst (λ (page : Page). HoldsEntries page.body.kind) (page_there c.self.inside.frames c.self.inside.places c.self.inside.gets.count c.args.self.now c.self.invariant c.self.view_is c.args.frame c.requires.held) c.requires.holds

pub insert-requires-clause-parts : goal.insert-requires-clause-parts
insert-requires-clause-parts c = subst (λ (page : Page). Parts page.body.entries c.args.key.now c.args.i c.args.i) (page_there c.self.inside.frames c.self.inside.places c.self.inside.gets.count c.args.self.now c.self.invariant c.self.view_is c.args.frame c.requires.held) c.requires.place

pub insert-requires-clause-fits : goal.insert-requires-clause-fits
insert-requires-clause-fits c = subst (λ (page : Page). page.body.kind ≡ Inner → c.args.value < 2 ^ 32) (page_there c.self.inside.frames c.self.inside.places c.self.inside.gets.count c.args.self.now c.self.invariant c.self.view_is c.args.frame c.requires.held) c.requires.fits

pub returns-clause-ok : goal.returns-clause-ok
returns-clause-ok c =
    let there = page_there c.self.inside.frames c.self.inside.places c.self.inside.gets.count c.args.self.now c.self.invariant c.self.view_is c.args.frame c.requires.held in
    on_ok_weaker c.insert.result
    (λ (put : Puts c.args.frame.place (with_entries (stored_at c.self.inside.frames c.args.frame.place).page (insert (stored_at c.self.inside.frames c.args.frame.place).page.body.entries c.args.i (c.args.key.now, c.args.value))) c.self.inside.frames c.insert.new.self).
    subst (λ (page : Page). Changes c.args.frame (with_entries page (insert page.body.entries c.args.i (c.args.key.now, c.args.value))) c.args.self.now (seen_as c.insert.new.self c.self.inside.places.taken c.self.inside.gets.count)) (sym there)
    (sets c.self.inside.frames c.self.inside.places c.self.inside.gets.count c.args.self.now c.self.invariant c.self.view_is c.args.frame c.requires.held (with_entries (stored_at c.self.inside.frames c.args.frame.place).page (insert (stored_at c.self.inside.frames c.args.frame.place).page.body.entries c.args.i (c.args.key.now, c.args.value))) true c.insert.new.self put))
    c.insert.ensures.ok

pub returns-clause-full : goal.returns-clause-full
returns-clause-full c =
    subst (λ (page : Page). IsOk c.insert.result ↔ (taken (is_leaf_kind page.body.kind) page.body.entries + size (is_leaf_kind page.body.kind) (c.args.key.now, c.args.value) + 2 ≤ 4064))
    (sym (page_there c.self.inside.frames c.self.inside.places c.self.inside.gets.count c.args.self.now c.self.invariant c.self.view_is c.args.frame c.requires.held)) c.insert.ensures.full
