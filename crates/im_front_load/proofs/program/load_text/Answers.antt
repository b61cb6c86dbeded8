use Rattle.im_front_load.proofs.Refusals.{for_ok}
use Rattle.im_front_load.proofs.program.load_text.Goals as goal

pub returns-in-Ok-clause-loaded : goal.returns-in-Ok-clause-loaded
returns-in-Ok-clause-loaded g c =
    for_ok c.print_loaded.result _ (λ status zero. record { closed = c.in-Ok.loaded.closed; run = c.in-Ok.ensures.run; steps = c.in-Ok.ensures.steps })
