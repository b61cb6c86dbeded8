use Rattle.im_restart_undo.proofs.PlaceLaws.{key_tells}
use Rattle.im_restart_undo.proofs.place.has_key.Goals as goal

pub returns-in-Err : goal.returns-in-Err
returns-in-Err c = key_tells c.args.page.now.body.entries c.args.key.now c.in-Err.field-0 c.in-Err.ensures
