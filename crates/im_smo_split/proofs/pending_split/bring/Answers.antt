use Rattle.std.proofs.Common.{refl}
use Rattle.im_page_writer.specs.Outcome.{mild}
use Rattle.im_page_writer.proofs.Outcomes.{ends_own, sound_on}
use Rattle.im_smo_pages.proofs.Goings.{mildly_copied}
use Rattle.im_smo_split.proofs.Bringing.{brought}
use Rattle.im_smo_split.proofs.pending_split.bring.Goals as goal

pub returns-in_err-page-clause-kept : goal.returns-in_err-page-clause-kept
returns-in_err-page-clause-kept g c store has = sound_on c.from_residual.result _ _ c.from_residual.ensures.1 (c.in_err-page.ensures.kept store has)

pub returns-clause-outcome : goal.returns-clause-outcome
returns-clause-outcome g c = ends_own g.D.Disk mild refl refl refl c.put.result c.in_ok-page.ensures.outcome (mildly_copied c.put.result c.put.ensures.refused)

pub returns-clause-kept : goal.returns-clause-kept
returns-clause-kept g c store has =
    brought store c.args.images.now c.args.number c.put.new.self c.law_rise.ensures c.in_ok-page.page.value (c.in_ok-page.ensures.kept store has)
    c.image.new.images c.in_ok-page.ensures.images c.put.result c.put.ensures.new c.put.ensures.refused
