use Rattle.im_restart_redo.proofs.Windows.{empty_shows}
use Rattle.im_restart_redo.proofs.window.Window.empty.Goals as goal

pub returns-clause-shows : goal.returns-clause-shows
returns-clause-shows c log room = empty_shows log 0 room
