-- What upkeep makes of an engine.
use Rattle.std.specs.Prelude.{◌≡◌, true}
use Rattle.im_base_disk.specs.declared.disk.Disk.{Ghosts}
use Rattle.im_base_steps.specs.declared.step.Step.{Step}
use Rattle.im_base_steps.specs.declared.reply.Reply.{Reply}
use Rattle.im_base_steps.specs.Calls.{asked_by}
use Rattle.im_base_steps.specs.Replies.{is_service}
use Rattle.im_engine.specs.declared.engine.Engine.{Engine}
use Rattle.im_engine.specs.Told.{IsStep}

module _ {D : Type 0} (d : Ghosts D) where
  -- The engine made steps that are of no transaction, one after another: page writes, forces, Checkpoints, Switches.
  pub data IsKeptUp (old : Engine D d) : Engine D d → Type 0 where
    none : IsKeptUp old old
    more : (mid new : Engine D d) (step : Step) (reply : Reply) → IsKeptUp old mid → is_service (asked_by step) ≡ true → IsStep d step reply mid new → IsKeptUp old new
