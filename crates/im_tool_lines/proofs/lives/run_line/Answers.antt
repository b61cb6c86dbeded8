use Rattle.std.proofs.Common.{List, ℕ, [], ◌∷◌, ◌++◌, sym, subst, append-nil}
use Rattle.im_base_model_disk.specs.contracts.model_disk.ModelDiskDisk.TheImpl.{ghosts}
use Rattle.im_tool_lines.specs.declared.raw_line.RawLine.{RawLine}
use Rattle.im_tool_lines.specs.declared.life_answers.RawReply.TheVariants as replies
use Rattle.im_tool_lines.specs.Lives.{asked_of, acked_of}
use Rattle.im_tool_lines.specs.Living.{IsLiving}
use Rattle.im_tool_lines.proofs.lives.run_line.Goals as goal

pub returns-in-Ok-clause-living : goal.returns-in-Ok-clause-living
returns-in-Ok-clause-living c before asked acked living =
    subst (λ (line : RawLine). IsLiving ghosts before (asked ++ asked_of (line ∷ [])) (acked ++ acked_of (line ∷ []) (replies.Put ∷ [])) c.put.new.gate c.put.new.disk) (sym c.in-Put.is)
    (c.in-Ok.ensures.living before asked acked living)

pub returns-in-Err-clause-living : goal.returns-in-Err-clause-living
returns-in-Err-clause-living c before asked acked living =
    subst (λ (line : RawLine). IsLiving ghosts before (asked ++ asked_of (line ∷ [])) (acked ++ acked_of (line ∷ []) (replies.Stopped ∷ [])) c.put.new.gate c.put.new.disk) (sym c.in-Put.is)
    (subst (λ (l : List (List ℕ)). IsLiving ghosts before (asked ++ c.in-Put.batch.records.items ∷ []) l c.put.new.gate c.put.new.disk) (sym (append-nil acked))
    (c.in-Err.ensures.living before asked acked living))

pub returns-in-Err-2-clause-living : goal.returns-in-Err-2-clause-living
returns-in-Err-2-clause-living c before asked acked living =
    subst (λ (line : RawLine). IsLiving ghosts before (asked ++ asked_of (line ∷ [])) (acked ++ acked_of (line ∷ []) (replies.Refused c.in-Err.field-0 ∷ [])) c.put.new.gate c.put.new.disk) (sym c.in-Put.is)
    (subst (λ (l : List (List ℕ)). IsLiving ghosts before (asked ++ c.in-Put.batch.records.items ∷ []) l c.put.new.gate c.put.new.disk) (sym (append-nil acked))
    (c.in-Err.ensures.living before asked acked living))
