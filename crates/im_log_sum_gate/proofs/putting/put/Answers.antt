use Rattle.im_log_sum_gate.proofs.putting.put.Goals as goal

pub returns-then-keeps_sums-clause-any_moment : goal.returns-then-keeps_sums-clause-any_moment
returns-then-keeps_sums-clause-any_moment g c h before bs ends clear may = c.put_once.ensures.any_moment h before bs (λ told. clear told c.if-clear.true) may

pub returns-then-opened-clause-any_moment : goal.returns-then-opened-clause-any_moment
returns-then-opened-clause-any_moment g c h before bs ends clear may = c.put_closing.ensures.any_moment h before bs ends may

pub returns-clause-any_moment : goal.returns-clause-any_moment
returns-clause-any_moment g c h before bs ends clear may = c.put_twice.ensures.any_moment h before bs may
