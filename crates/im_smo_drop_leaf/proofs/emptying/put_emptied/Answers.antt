use Rattle.std.proofs.Common.{refl}
use Rattle.im_page_writer.specs.Outcome.{mild}
use Rattle.im_page_writer.proofs.Outcomes.{ends_own, sound_on}
use Rattle.im_smo_pages.proofs.Goings.{mildly}
use Rattle.im_smo_drop_leaf.proofs.WithoutEntries.{put_says}
use Rattle.im_smo_drop_leaf.proofs.emptying.put_emptied.Goals as goal

pub returns-in_err-page-clause-kept : goal.returns-in_err-page-clause-kept
returns-in_err-page-clause-kept g c pages has none level one = sound_on c.from_residual.result _ _ c.from_residual.ensures.1 (c.in_err-page.ensures.kept pages has)

pub returns-clause-outcome : goal.returns-clause-outcome
returns-clause-outcome g c = ends_own g.D.Disk mild refl refl refl c.put_last.result c.in_ok-page.ensures.outcome (mildly c.put_last.result c.put_last.ensures.causes)

pub returns-clause-kept : goal.returns-clause-kept
returns-clause-kept g c pages has none level one =
    put_says pages c.args.number c.in_ok-page.page.value c.args.images.now c.image.new.images c.put_last.new.images c.put_last.result none (c.in_ok-page.ensures.kept pages has) c.in_ok-page.ensures.images c.put_last.ensures.new
    c.put_last.ensures.beside c.put_last.ensures.sound level one
