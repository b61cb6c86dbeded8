-- What single records say to analysis.
use Rattle.std.specs.Prelude.{ℕ, Option, None, Some}
use Rattle.im_base_types.specs.Records.{What, Smo, UndoSmo, Image, Checkpoint}

-- the page of which a record holds a full copy
abbrev pub copied_page : ℕ → What → Option ℕ
copied_page p (Smo before after) = Some p
copied_page p (UndoSmo after) = Some p
copied_page p (Image copy) = Some p
copied_page p _ = None

-- the next number that a Checkpoint names, 0 for other records
abbrev pub next_in : What → ℕ
next_in (Checkpoint next active dirty) = next
next_in _ = 0
