use Rattle.std.proofs.Common.{refl}
use Rattle.im_smo_log.proofs.page_record.log_closing.Goals as goal

pub returns-clause-kept : goal.returns-clause-kept
returns-clause-kept g c b base s e is over = c.log_only.ensures.kept b base s e is over (record { page = λ l p. refl; copy = λ l. refl; point = refl })
