use Rattle.std.proofs.Common.{ap, []}
use Rattle.im_base_types.specs.Pages.{Page}
use Rattle.im_theory_page.specs.Header.{leaf_body}
use Rattle.im_smo_pages.proofs.Becoming.{becomes_this}
use Rattle.im_smo_pages.proofs.images.Images.empty_root.Goals as goal

pub returns-clause-new : goal.returns-clause-new
returns-clause-new c =
    becomes_this c.args.self.now c.put.new.self 1 c.empty_root.new.root (leaf_body 0 0 []) c.law_rise.ensures c.in_ok-put.ensures.new (ap (λ (p : Page). p.body) c.empty_root.ensures)
