-- What is known within a life of a store in a script, and how its engine is opened.
use Rattle.std.specs.Prelude.{◌≡◌, ◌≢◌, ℕ, ◌^◌, ◌-◌, nat_lt, if◌then◌else◌, List, Option, Some, None}
use Rattle.im_base_types.specs.Changes.{Effect}
use Rattle.im_base_types.specs.Lives.{Shown}
use Rattle.im_theory_machine.specs.View.{View}
use Rattle.im_base_disk.specs.Disk.{Files}
use Rattle.im_base_disk.specs.declared.disk.Disk.{Ghosts}
use Rattle.im_log_gate.specs.Gate.{place_of}
use Rattle.im_engine.specs.declared.config.Config.{Config}
use Rattle.im_engine.specs.declared.engine.Engine.{Engine}
use Rattle.im_engine.specs.Stands.{Allowed}
use Rattle.im_engine.specs.Running.{IsLife}
use Rattle.im_tool_lines.specs.declared.store_life.StoreLine.{StoreLine}
use Rattle.im_tool_lines.specs.declared.store_life.LifeOptions.{LifeOptions}
use Rattle.im_tool_lines.specs.declared.store_answers.StoreReply.{StoreReply}
use Rattle.im_tool_lines.specs.declared.store_answers.StoreReply.TheVariants as replies
use Rattle.im_tool_lines.specs.StoreShown.{shown_after}

-- The life has shown this, and its engine is some view of the machine of transactions.
abbrev pub GoesOn : {D : Type 0} (d : Ghosts D) → List Effect → Shown → Engine D d → Type 0
GoesOn d before s e = (v : View) × IsLife d before s v e

-- A line was run: what a stop leaves is allowed by what is shown, and where none came the life goes on.
pub record LineKept {D : Type 0} (d : Ghosts D) (before : List Effect) (s : Shown) (line : StoreLine) (reply : StoreReply) (new : Engine D d) : Type 0 where
  pub after : reply ≢ replies.Stopped → GoesOn d before (shown_after s line reply) new
  pub stops : (c : Files) → d.may_leave new.disk c → Allowed before (shown_after s line reply) c

-- where the gate stands in the file of the current log, at which what is durable of it ends
abbrev pub gate_of : {D : Type 0} (d : Ghosts D) → Engine D d → ℕ
gate_of d e = place_of e.writer.log.gate

-- an option's number, or this one where it is left out
abbrev pub number_or : ℕ → Option ℕ → ℕ
number_or n None = n
number_or n (Some given) = given

-- the number, or the greatest of 32 bits where it is greater
abbrev pub in_32_bits : ℕ → ℕ
in_32_bits n = if nat_lt n (2 ^ 32) then n else 2 ^ 32 - 1

-- What options of a life give an engine: 64 frames, 1,000,000 pages and one worker where they are left out, no frames more, whether structure changes are made page by page, whether Commits wait, and whether splits are dense. Page numbers have 32 bits.
pub record IsConfigOf (options : LifeOptions) (config : Config) : Type 0 where
  pub frames : config.frames ≡ number_or 64 options.frames
  pub more : config.more.frames ≡ 0
  pub max_pages : config.max_pages ≡ in_32_bits (number_or 1000000 options.max_pages)
  pub stepped : config.stepped ≡ options.stepped
  pub group : config.group ≡ options.group
  pub dense : config.dense ≡ options.dense
  pub workers : config.workers ≡ number_or 1 options.workers
