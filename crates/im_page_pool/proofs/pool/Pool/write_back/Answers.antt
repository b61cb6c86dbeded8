use Rattle.std.proofs.Common.{false, refl, sym, subst, ◌∙◌}
use Rattle.im_base_types.specs.Pages.{Page}
use Rattle.im_base_types.specs.declared.file_id.FileId.TheVariants.{Pages}
use Rattle.im_page_pool.specs.Writes.{WritesPage}
use Rattle.im_page_pool.specs.Frames.{stored_at}
use Rattle.im_page_pool.specs.Inside.{held_at}
use Rattle.im_page_pool.specs.Pool.{Sets}
use Rattle.im_page_pool.proofs.PoolLemmas.{seen_as, within, page_there, sets, found, found_at, seen_written}
use Rattle.im_page_pool.proofs.pool.Pool.write_back.Goals as goal

pub page-requires : goal.page-requires
page-requires g c = within c.self.inside.frames c.self.inside.places c.self.inside.gets.count c.args.self.now c.self.invariant c.self.view_is c.args.frame c.requires.held

pub set_unchanged-requires : goal.set_unchanged-requires
set_unchanged-requires g c = within c.self.inside.frames c.self.inside.places c.self.inside.gets.count c.args.self.now c.self.invariant c.self.view_is c.args.frame c.requires.held

pub returns-clause-ok : goal.returns-clause-ok
returns-clause-ok g c =
    subst (λ (page : Page). Sets c.args.frame page false c.args.self.now (seen_as c.set_unchanged.new.self c.self.inside.places.taken c.self.inside.gets.count)) (sym (page_there c.self.inside.frames c.self.inside.places c.self.inside.gets.count c.args.self.now c.self.invariant c.self.view_is c.args.frame c.requires.held))
    (sets c.self.inside.frames c.self.inside.places c.self.inside.gets.count c.args.self.now c.self.invariant c.self.view_is c.args.frame c.requires.held (stored_at c.self.inside.frames c.args.frame.place).page false c.set_unchanged.new.self c.set_unchanged.ensures)

pub returns-clause-written : goal.returns-clause-written
returns-clause-written g c told =
    subst (λ (page : Page). WritesPage c.args.frame.number page (g.D.Disk.seen c.args.disk.now Pages) (g.D.Disk.seen c.write_page.new.disk Pages)) (c.page.ensures ∙ sym (page_there c.self.inside.frames c.self.inside.places c.self.inside.gets.count c.args.self.now c.self.invariant c.self.view_is c.args.frame c.requires.held))
    (c.in_ok-write_page.ensures.written told)

pub returns-clause-seen : goal.returns-clause-seen
returns-clause-seen g c told =
    seen_written c.args.frame (stored_at c.self.inside.frames c.args.frame.place).page false c.args.self.now (seen_as c.set_unchanged.new.self c.self.inside.places.taken c.self.inside.gets.count)
    (sets c.self.inside.frames c.self.inside.places c.self.inside.gets.count c.args.self.now c.self.invariant c.self.view_is c.args.frame c.requires.held (stored_at c.self.inside.frames c.args.frame.place).page false c.set_unchanged.new.self c.set_unchanged.ensures)
    (held_at c.self.inside.frames c.args.frame.place) (found c.self.inside.frames c.self.inside.places c.self.inside.gets.count c.args.self.now c.self.invariant c.self.view_is c.args.frame.number c.args.frame.place (found_at c.self.inside.frames c.self.inside.places c.self.inside.gets.count c.args.self.now c.self.invariant c.self.view_is c.args.frame c.requires.held)) refl
    (g.D.Disk.seen c.args.disk.now Pages) (g.D.Disk.seen c.write_page.new.disk Pages) (c.in_ok-write_page.ensures.written told).others
