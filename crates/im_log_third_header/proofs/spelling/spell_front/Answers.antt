use Rattle.std.proofs.Common.{ℕ, List, ◌++◌, take, drop, ◌∙◌, ap}
use Rattle.im_log_third_header.proofs.spelling.spell_front.Goals as goal

pub returns-clause-front : goal.returns-clause-front
returns-clause-front c = c.put_salt.ensures.put ∙ ap (λ (bytes : List ℕ). take 39 bytes ++ c.args.header.now.salt ++ drop 42 bytes) c.spell_numbers-bytes.ensures
