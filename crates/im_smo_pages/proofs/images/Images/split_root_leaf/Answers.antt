use Rattle.std.proofs.Common.{ap, ◌∙◌}
use Rattle.im_smo_pages.specs.Images.{put_image}
use Rattle.im_smo_pages.proofs.Parting.{parts_root_leaf}
use Rattle.im_smo_pages.proofs.images.Images.split_root_leaf.Goals as goal

pub returns-clause-parts : goal.returns-clause-parts
returns-clause-parts c =
    parts_root_leaf c.args.self.now c.put-3.new.self c.args.page.now _ _ _ _ _ _ c.args.l c.args.r c.in_ok-n.n c.law_rise.ensures c.in_ok-n.ensures.split
    (c.in_ok-put-3.ensures.new ∙ ap (put_image c.args.l _) (c.in_ok-put-2.ensures.new ∙ ap (put_image c.args.r _) c.in_ok-put.ensures.new))
