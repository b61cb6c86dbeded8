-- The page that a structure change leaves.
use Rattle.std.specs.Prelude.{Option, None, Some}
use Rattle.im_base_types.specs.Pages.{Body}
use Rattle.im_base_types.specs.Records.{What, Smo, UndoSmo}

-- what a structure change, or its undo, makes of its page, but for the LSN
abbrev pub after_in : What → Option Body
after_in (Smo old new) = Some new
after_in (UndoSmo new) = Some new
after_in _ = None
