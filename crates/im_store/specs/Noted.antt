-- What upkeep notes of an engine.
use Rattle.std.specs.Prelude.{◌≡◌, ◌-◌, ◌==◌, ℕ, Bool, true, false, Option, None, Some, max, min}
use Rattle.im_base_disk.specs.declared.disk.Disk.{Ghosts}
use Rattle.im_base_types.specs.declared.tables.DirtyPage.{DirtyPage}
use Rattle.im_page_table.specs.DirtyTable.{oldest}
use Rattle.im_base_steps.specs.declared.step.Step.{Step}
use Rattle.im_base_steps.specs.declared.step.Step.TheVariants.{Checkpoint, Switch}
use Rattle.im_base_steps.specs.declared.reply.Reply.{Reply}
use Rattle.im_base_steps.specs.declared.reply.Reply.TheVariants.{Done}
use Rattle.im_engine.specs.declared.engine.Engine.{Engine}
use Rattle.im_engine.specs.Told.{IsStep}
use Rattle.im_store.specs.declared.ahead.Ahead.{Ahead}
use Rattle.im_store.specs.declared.ahead.Ahead.TheVariants.{Unseen}
use Rattle.im_store.specs.declared.bounds.Bounds.{Bounds}
use Rattle.im_store.specs.declared.upkeep.Upkeep.{Upkeep}
use Rattle.im_store.specs.Numbers.{durable_end_of, log_length_of}
use Rattle.im_store.specs.Upkeep.{IsKeptUp}

-- from where an opening redoes over these dirty pages after a Checkpoint, before which the durable log ended there
abbrev pub redo_point_over : Option DirtyPage → ℕ → ℕ
redo_point_over (Some change) end = min change.rec_lsn end
redo_point_over None end = end

-- a step that was made, with no more to tell
abbrev pub is_done : Reply → Bool
is_done Done = true
is_done _ = false

-- whether a log of the first format is left to be replaced: a Switch that is done replaces it
abbrev pub is_left : (done : Bool) → Step → Bool → Bool
is_left false step is = is
is_left true Switch is = false
is_left true _ is = is

-- what was written ahead of a Switch, and nothing once that is done
abbrev pub ahead_after : (done : Bool) → Step → Ahead → Ahead
ahead_after false step ahead = ahead
ahead_after true Switch ahead = Unseen
ahead_after true _ ahead = ahead

-- whether the log that was left may begin with no batch: a Switch that is done left one that was so long before it
abbrev pub is_bare_after : (done : Bool) → Step → (length : ℕ) → Bool → Bool
is_bare_after false step length is = is
is_bare_after true Switch length is = length == 47
is_bare_after true _ length is = is

-- Nothing was noted.
abbrev pub IsStill : Upkeep → Upkeep → Type 0
IsStill u v = (v.from ≡ u.from) × (v.is_upgraded ≡ u.is_upgraded) × (v.is_bare ≡ u.is_bare) × (v.begun ≡ u.begun) × (v.is_long ≡ u.is_long)

module _ {D : Type 0} (d : Ghosts D) where
  -- Upkeep of a store that was just opened: it redid from where its opening did, or from the begin of its log, no page is known yet, and a log may have a long file.
  abbrev pub fresh : Bounds → Engine D d → Upkeep
  fresh bounds e = record { bounds = bounds; from = max e.report.point (durable_end_of d e - log_length_of d e); pages = 0; ahead = Unseen; is_upgraded = false; begun = durable_end_of d e - log_length_of d e; is_long = true; is_bare = false }

  -- from where an opening would redo, were the store to stop after a step: from elsewhere than before only after a Checkpoint or a Switch that is done
  abbrev pub redo_from : (done : Bool) → Step → (end : ℕ) → Engine D d → ℕ → ℕ
  redo_from false step end new from = from
  redo_from true Checkpoint end new from = redo_point_over (oldest new.writer.table) end
  redo_from true Switch end new from = durable_end_of d new
  redo_from true _ end new from = from

  -- What is noted after a step with its reply, before which the durable log ended there and was so long.
  abbrev pub noted : Step → Reply → (end length : ℕ) → Engine D d → Upkeep → Upkeep
  noted step reply end length new u = record u {
    from = redo_from (is_done reply) step end new u.from;
    ahead = ahead_after (is_done reply) step u.ahead;
    is_upgraded = is_left (is_done reply) step u.is_upgraded;
    is_bare = is_bare_after (is_done reply) step length u.is_bare;
  }

  -- The engine made this step, and after it this is noted of the redo point, of a log of the first format and of the one that was left. Of the opening all stands.
  pub record IsNotedBy (step : Step) (u : Upkeep) (old new : Engine D d) (v : Upkeep) : Type 0 where
    pub reply : Reply
    pub made : IsStep d step reply old new
    pub from : v.from ≡ redo_from (is_done reply) step (durable_end_of d old) new u.from
    pub left : v.is_upgraded ≡ is_left (is_done reply) step u.is_upgraded
    pub bare : v.is_bare ≡ is_bare_after (is_done reply) step (log_length_of d old) u.is_bare
    pub begun : v.begun ≡ u.begun
    pub long : v.is_long ≡ u.is_long

  -- That is noted after the last step of upkeep, or as before where it made none after which anything is.
  pub data IsNoted (u : Upkeep) (old new : Engine D d) (v : Upkeep) : Type 0 where
    as_before : IsStill u v → IsNoted u old new v
    after_last : (mid : Engine D d) (step : Step) → IsKeptUp d old mid → IsNotedBy step u mid new v → IsNoted u old new v
