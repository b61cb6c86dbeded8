use Rattle.std.proofs.Common.{Bool, sym, ◌∙◌, ap}
use Rattle.im_engine_locks.specs.Requests.{named}
use Rattle.im_engine_access.specs.ChangePlans.{asks_row}
use Rattle.im_engine_access.proofs.Names.{finds_gap}
use Rattle.im_engine_access.proofs.inserting_beside.row_for.Goals as goal

pub returns-then-lasts : goal.returns-then-lasts
returns-then-lasts c m rid none name = c.insert_row_to_finish.ensures m name ∙ ap (λ (x : Bool). asks_row x c.args.key.now rid m) (sym c.if-lasts.true)

pub returns : goal.returns
returns c m rid none name = c.insert_row.ensures m rid (finds_gap m c.args.key.now (named c.args.next) none name) ∙ ap (λ (x : Bool). asks_row x c.args.key.now rid m) (sym c.if-lasts.false)
