use Rattle.std.proofs.Common.{true, ap, rules, ◌∙◌, arith}
use Rattle.std.proofs.lemmas.Grind.{common_steps}
use Rattle.im_base_types.specs.Pages.{Page}
use Rattle.im_page_pool.specs.Frames.{Stored}
use Rattle.im_page_pool.proofs.FrameLemmas.{puts}
use Rattle.im_page_pool.proofs.frames.Frames.set_leftmost.Goals as goal

pub returns : goal.returns
returns c = puts c.self.inside.slots.items c.reach.new.slots.items c.args.self.now c.self.inside.count c.args.place c.self.invariant.0 c.requires.place c.self.view_is c.reach.ensures.same c.reach.ensures.there
    (λ (s : Stored). record { page = record s.page { body = record s.page.body { leftmost = c.args.leftmost } }; changed = true }) (record { page = c.slot.inside.page; changed = c.slot.inside.changed }) _ (c.slot.view_is ∙ first_of (search rules, grind (arith, common_steps))) (ap (λ (page : Page). record { page = page; changed = true }) c.set_leftmost.ensures)
