use Rattle.std.proofs.Common.{sym, ap, ◌∙◌}
use Rattle.im_base_types.specs.Pages.{Body}
use Rattle.im_smo_pages.proofs.Holding.{held_there}
use Rattle.im_smo_split.proofs.leaves.next_in.Goals as goal

pub returns-in-Some : goal.returns-in-Some
returns-in-Some c pages has = c.next.ensures ∙ sym (ap (λ (b : Body). b.next) (held_there pages c.args.images.now c.args.number c.in-Some.page.now c.in-Some.ensures.page))
