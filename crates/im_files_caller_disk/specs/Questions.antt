-- What is asked of a caller.
use Rattle.std.specs.Prelude.{◌+◌, ◌==◌, ◌∷◌, [], ℕ, List, Bool, true, false, slice_index, if◌then◌else◌}
use Rattle.im_base_types.specs.declared.file_id.FileId.{FileId}
use Rattle.im_base_types.specs.declared.file_id.FileId.TheVariants.{Log, Pages, Log2}

-- a question: its kind, the number of its file, a place and a length; and the bytes that come after it
abbrev pub Question : Type 0
Question = List ℕ × List ℕ

-- the number of a file, of a store or of a copy
abbrev pub file_number : Bool → FileId → ℕ
file_number false Log = 0
file_number false Pages = 1
file_number false Log2 = 2
file_number true Log = 3
file_number true Pages = 4
file_number true Log2 = 5

-- how many of the questions are of a kind
abbrev pub asked_of : ℕ → List Question → ℕ
asked_of kind [] = 0
asked_of kind (q ∷ qs) = (if slice_index q.0 0 == kind then 1 else 0) + asked_of kind qs
