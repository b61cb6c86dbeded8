-- Refusals of a split after which the writer goes on.
use Rattle.std.specs.Prelude.{ℕ, Bool, true, false, Option, is_some}
use Rattle.im_base_types.specs.declared.fault.Fault.{Fault}
use Rattle.im_base_types.specs.declared.fault.Fault.TheVariants.{Capacity, Memory, NotAStore, PagesFull}

-- for bytes that are no store's; or for want of pages, where there is a limit
abbrev pub mild_to_grow : Option ℕ → Fault → Bool
mild_to_grow max NotAStore = true
mild_to_grow max PagesFull = is_some max
mild_to_grow max e = false

-- or for want of memory, or of page numbers or levels
abbrev pub mild_to_split : Option ℕ → Fault → Bool
mild_to_split max Memory = true
mild_to_split max NotAStore = true
mild_to_split max Capacity = true
mild_to_split max PagesFull = is_some max
mild_to_split max e = false
