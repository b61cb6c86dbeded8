use Rattle.std.proofs.Common.{List, subst, sym}
use Rattle.im_page_rounds.specs.declared.round_page.RoundPage.{RoundPage}
use Rattle.im_page_rounds.specs.Workers.{AreDealt}
use Rattle.im_page_rounds.proofs.workers.work.Goals as goal

pub returns-clause-taken : goal.returns-clause-taken
returns-clause-taken g c rs pages changed stand these among all =
    c.redo_own-worker.ensures.taken rs pages changed stand (subst (λ (x : List RoundPage). AreDealt c.args.workers c.args.number c.args.numbers.now x pages changed) (sym c.as_mut_slice.ensures.value) these) among all
