use Rattle.std.proofs.Common.{Option, ap, ◌∙◌}
use Rattle.im_base_types.specs.Pages.{Page}
use Rattle.im_smo_pages.proofs.ImageLemmas.{body_or, applied_image, applied_put, plan_knows, plan_ascends, put_without, put_rising}
use Rattle.im_smo_pages.proofs.tree_steps.images_are_a_plan.Goals as goal

pub returns-clause-there : goal.returns-clause-there
returns-clause-there c pages xs q p is = applied_image pages xs q ∙ ap (λ (o : Option Page). body_or o (pages q)) is

pub returns-clause-elsewhere : goal.returns-clause-elsewhere
returns-clause-elsewhere c pages xs q is = applied_image pages xs q ∙ ap (λ (o : Option Page). body_or o (pages q)) is

pub returns-clause-put : goal.returns-clause-put
returns-clause-put c pages xs n p up x = applied_put pages xs n p x up

pub returns-clause-put_back : goal.returns-clause-put_back
returns-clause-put_back c = put_without

pub returns-clause-knows : goal.returns-clause-knows
returns-clause-knows c = plan_knows

pub returns-clause-ascends : goal.returns-clause-ascends
returns-clause-ascends c = plan_ascends

pub returns-clause-rises : goal.returns-clause-rises
returns-clause-rises c = put_rising
