use Rattle.std.proofs.Common.{ℕ, List, [], ap, ◌∙◌}
use Rattle.im_base_disk.specs.Disk.{both}
use Rattle.im_tool_every.proofs.every.new_disk.Goals as goal

pub returns-clause-empty : goal.returns-clause-empty
returns-clause-empty c = c.new-3.ensures.seen ∙ ap (λ (l : List ℕ). both l c.new-2.result.items) c.new.ensures.items ∙ ap (λ (l : List ℕ). both [] l) c.new-2.ensures.items
