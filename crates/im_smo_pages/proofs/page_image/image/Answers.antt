use Rattle.std.proofs.Common.{refl, ◌∙◌}
use Rattle.im_page_writer.proofs.Outcomes.{idle, sound_also}
use Rattle.im_smo_pages.proofs.ImageLemmas.{without_none}
use Rattle.im_smo_pages.proofs.Results.{on_err}
use Rattle.im_smo_pages.proofs.Seeing.{image_is, none_is}
use Rattle.im_smo_pages.proofs.page_image.image.Goals as goal

pub returns-in-Some-clause-outcome : goal.returns-in-Some-clause-outcome
returns-in-Some-clause-outcome g c = idle g.D.Disk g.met.D.Disk.only_now c.args.writer.now c.args.disk.now c.requires.working c.requires.ready

pub returns-in-Some-clause-kept : goal.returns-in-Some-clause-kept
returns-in-Some-clause-kept g c pages has = image_is pages c.args.images.now c.args.number c.in-Some.page.value c.in-Some.ensures.page

pub returns-in-None-clause-kept : goal.returns-in-None-clause-kept
returns-in-None-clause-kept g c pages has = sound_also c.pool_copy.result _ _ (c.pool_copy.ensures.kept pages has) (λ p is. is ∙ none_is pages c.args.images.now c.args.number (c.in-None.ensures.none refl))

pub returns-in-None-clause-same : goal.returns-in-None-clause-same
returns-in-None-clause-same g c = on_err c.pool_copy.result _ (c.take.ensures.new ∙ without_none c.args.number c.args.images.now (c.in-None.ensures.none refl))
