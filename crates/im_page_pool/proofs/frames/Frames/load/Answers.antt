use Rattle.std.proofs.Common.{true, refl, rules, ◌∙◌, arith}
use Rattle.std.proofs.lemmas.Grind.{common_steps}
use Rattle.im_page_pool.specs.Frames.{Stored}
use Rattle.im_page_pool.proofs.FrameLemmas.{puts, set_told}
use Rattle.im_page_pool.proofs.frames.Frames.load.Goals as goal

pub returns-clause-put : goal.returns-clause-put
returns-clause-put c = set_told c.args.self.now _ c.args.place c.load.new.self true c.requires (puts c.self.inside.slots.items c.reach.new.slots.items c.args.self.now c.self.inside.count c.args.place c.self.invariant.0 c.requires c.self.view_is c.reach.ensures.same c.reach.ensures.there
    (λ (s : Stored). record { page = c.load.new.self; changed = true }) (record { page = c.slot.inside.page; changed = c.slot.inside.changed }) _ (c.slot.view_is ∙ first_of (search rules, grind (arith, common_steps))) refl)
