use Rattle.std.proofs.Common.{List, sym, ◌∙◌, ap, Vec, Global, ℕ}
use Rattle.im_tool_judge.specs.Judged.{held_entries}
use Rattle.im_tool_judge.proofs.Entries.{empty_entries}
use Rattle.im_tool_judge.proofs.sorted.Sorted.new.Goals as goal

pub returns : goal.returns
returns c = ap (λ (l : List (Vec ℕ Global × ℕ)). held_entries l) c.new.ensures.items ∙ sym empty_entries
