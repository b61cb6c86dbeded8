use Rattle.std.proofs.Common.{true, sym, subst}
use Rattle.im_base_types.specs.Pages.{Page}
use Rattle.im_base_types.specs.declared.page_kind.PageKind.TheVariants.{Leaf}
use Rattle.im_theory_page.specs.Header.{empty_body}
use Rattle.im_page_pool.specs.Frames.{stored_at}
use Rattle.im_page_pool.specs.Pool.{Changes}
use Rattle.im_page_pool.proofs.PoolLemmas.{seen_as, within, page_there, sets}
use Rattle.im_page_pool.proofs.pool.Pool.become_leaf.Goals as goal

pub become_leaf-requires : goal.become_leaf-requires
become_leaf-requires c = within c.self.inside.frames c.self.inside.places c.self.inside.gets.count c.args.self.now c.self.invariant c.self.view_is c.args.frame c.requires

pub returns : goal.returns
returns c =
    subst (λ (page : Page). Changes c.args.frame (record { lsn = page.lsn; body = empty_body Leaf 0 c.args.prev c.args.next 0 }) c.args.self.now (seen_as c.become_leaf.new.self c.self.inside.places.taken c.self.inside.gets.count)) (sym (page_there c.self.inside.frames c.self.inside.places c.self.inside.gets.count c.args.self.now c.self.invariant c.self.view_is c.args.frame c.requires))
    (sets c.self.inside.frames c.self.inside.places c.self.inside.gets.count c.args.self.now c.self.invariant c.self.view_is c.args.frame c.requires (record { lsn = (stored_at c.self.inside.frames c.args.frame.place).page.lsn; body = empty_body Leaf 0 c.args.prev c.args.next 0 }) true c.become_leaf.new.self c.become_leaf.ensures)
