use Rattle.std.proofs.Common.{true, ap, insert, rules, ◌∙◌, arith}
use Rattle.std.proofs.lemmas.Grind.{common_steps}
use Rattle.im_base_types.specs.Pages.{Page}
use Rattle.im_theory_page.specs.Page.{with_entries}
use Rattle.im_page_pool.specs.Frames.{Stored}
use Rattle.im_page_pool.proofs.FrameLemmas.{puts}
use Rattle.im_page_pool.proofs.frames.Frames.insert.Goals as goal

pub returns-clause-ok : goal.returns-clause-ok
returns-clause-ok c = puts c.self.inside.slots.items c.reach.new.slots.items c.args.self.now c.self.inside.count c.args.place c.self.invariant.0 c.requires.place c.self.view_is c.reach.ensures.same c.reach.ensures.there
    (λ (s : Stored). record { page = with_entries s.page (insert s.page.body.entries c.args.i (c.args.key.now, c.args.value)); changed = true }) (record { page = c.slot.inside.page; changed = c.slot.inside.changed }) _ (c.slot.view_is ∙ first_of (search rules, grind (arith, common_steps))) (ap (λ (page : Page). record { page = page; changed = true }) c.in_ok-insert.ensures.ok)
