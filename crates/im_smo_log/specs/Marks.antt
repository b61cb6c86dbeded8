-- The mark of a structure change under way, on a page that it leaves.
use Rattle.std.specs.Prelude.{Bool, true, false}
use Rattle.im_base_types.specs.Pages.{Body}

-- a page, with the mark where it is asked for
abbrev pub marked_if : Bool → Body → Body
marked_if true body = record body { marked = true }
marked_if false body = body
