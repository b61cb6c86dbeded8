use Rattle.std.proofs.Common.{ℕ, List, take, drop, ◌∙◌, ap}
use Rattle.std.specs.Int.{w64, from_be_bytes}
use Rattle.im_log_header.proofs.Beginnings.{number_padded}
use Rattle.im_log_header.proofs.beginning.number_in.Goals as goal

pub returns : goal.returns
returns c =
    c.number.ensures
    ∙ ap (λ (l : List ℕ). from_be_bytes w64 (take 8 (drop c.args.at l))) c.padded.ensures
    ∙ number_padded c.args.at c.requires.room c.args.head.now
