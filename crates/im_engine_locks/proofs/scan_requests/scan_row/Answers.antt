use Rattle.std.proofs.Common.{◌∙◌}
use Rattle.im_engine_locks.specs.Requests.{named_if}
use Rattle.im_engine_locks.proofs.ScanRows.{scan_asked}
use Rattle.im_engine_locks.proofs.scan_requests.scan_row.Goals as goal

pub returns-in-Ok-clause-row : goal.returns-in-Ok-clause-row
returns-in-Ok-clause-row c = λ m lo hi n is. c.in-Ok.ensures ∙ scan_asked m lo hi n c.args.entries.now (named_if c.args.end) is
