use Rattle.std.proofs.Common.{rules, ◌≡◌, take, length, ap, ◌∙◌}
use Rattle.im_base_types.specs.Pages.{Body}
use Rattle.im_smo_pages.specs.Bodies.{says, inner_body}
use Rattle.im_smo_pages.proofs.PartLemmas.{inner_with}
use Rattle.im_smo_pages.proofs.splits.halve_inner.Goals as goal

pub returns-clause-left : goal.returns-clause-left
returns-clause-left c =
    let page : Body = c.args.page.now.body in
    let made : c.copy_entries.new.self ≡ says c.args.left.now (inner_body c.args.page.now.body.level c.args.page.now.body.leftmost (take c.args.up c.args.page.now.body.entries)) = search rules in
    made ∙ ap (λ (b : Body). says c.args.left.now b)
    (inner_with page (length page.entries) page.level page.leftmost (take c.args.up page.entries) c.requires.kind c.law_content.ensures.header)
