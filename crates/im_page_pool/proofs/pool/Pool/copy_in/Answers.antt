use Rattle.std.proofs.Common.{◌≡◌, true, Some, sym, ap, ◌∙◌}
use Rattle.std.proofs.lemmas.Result.{on_ok_weaker}
use Rattle.im_base_types.specs.Pages.{Page}
use Rattle.im_theory_page.specs.Page.{page_of}
use Rattle.im_page_pool.specs.Frames.{stored_at, Puts}
use Rattle.im_page_pool.proofs.PoolLemmas.{seen_as, sets_shown, within, page_now, sets, found_at}
use Rattle.im_page_pool.proofs.pool.Pool.copy_in.Goals as goal

pub load-requires : goal.load-requires
load-requires c = within c.self.inside.frames c.self.inside.places c.self.inside.gets.count c.args.self.now c.self.invariant c.self.view_is c.args.frame c.requires

pub returns-clause-ok : goal.returns-clause-ok
returns-clause-ok c =
    on_ok_weaker c.load.result
    (λ (put : Puts c.args.frame.place (stored_at c.load.new.self c.args.frame.place).page c.self.inside.frames c.load.new.self).
    sets_shown c.args.frame (stored_at c.load.new.self c.args.frame.place).page true c.args.self.now (seen_as c.load.new.self c.self.inside.places.taken c.self.inside.gets.count)
    (sets c.self.inside.frames c.self.inside.places c.self.inside.gets.count c.args.self.now c.self.invariant c.self.view_is c.args.frame c.requires (stored_at c.load.new.self c.args.frame.place).page true c.load.new.self put))
    c.load.ensures.put

pub returns-clause-page : goal.returns-clause-page
returns-clause-page c =
    on_ok_weaker c.load.result
    (λ (is : page_of c.args.bytes.now ≡ Some (stored_at c.load.new.self c.args.frame.place).page).
    is ∙ ap (λ (x : Page). Some x) (sym (page_now c.load.new.self c.self.inside.places.taken c.self.inside.gets.count c.args.frame.number c.args.frame.place (found_at c.self.inside.frames c.self.inside.places c.self.inside.gets.count c.args.self.now c.self.invariant c.self.view_is c.args.frame c.requires))))
    c.load.ensures.page
