use Rattle.std.proofs.Common.{◌≡◌, zero, true, [], sym, ap, ◌∙◌, subst}
use Rattle.std.proofs.Math.Path.{fun_ext}
use Rattle.im_theory_page.specs.Split.{HasRoom}
use Rattle.im_theory_tree.specs.Levels.{Pages, walk}
use Rattle.im_theory_tree.specs.Good.{IsGoodTree}
use Rattle.im_theory_tree.specs.Search.{IsOnWay}
use Rattle.im_smo_pages.specs.Seen.{seen}
use Rattle.im_smo_split.proofs.left_to_split.plans_make_room.Goals as goal

pub returns-clause-good : goal.returns-clause-good
returns-clause-good c dense store key max images leaf plan pages same =
    let is : pages ≡ seen store images = fun_ext same in
    (subst (λ (x : Pages). IsGoodTree x []) (sym is) plan.good, ap walk is ∙ plan.same)

pub returns-clause-room : goal.returns-clause-room
returns-clause-room c dense store key max images leaf plan pages same p way =
    let is : pages ≡ seen store images = fun_ext same in
    subst (λ (x : Pages). HasRoom true (x p).entries (key, 0)) (sym is) (plan.fits p (subst (λ (x : Pages). IsOnWay x zero key p) is way))
