use Rattle.std.proofs.Common.{◌++◌, ◌∷◌, [], ℕ, take, ap, ◌∙◌}
use Rattle.im_log_record.specs.Spelling.{front}
use Rattle.im_log_record.proofs.Buffers.{six_puts}
use Rattle.im_log_record.proofs.writing.put_front.Goals as goal

pub returns-clause-front : goal.returns-clause-front
unfolding front
returns-clause-front c =
    six_puts _ _ _ _ _ _ _ _ _ _ _ _ _ c.put32-at.ensures.front
    (c.put-at.ensures.front ∙ ap (λ (n : ℕ). take c.put32-at.result c.put32-at.new.out ++ (n ∷ [])) c.number.ensures)
    c.put64-at.ensures.front c.put64-at-2.ensures.front c.put64-at-3.ensures.front c.put32.ensures.front
