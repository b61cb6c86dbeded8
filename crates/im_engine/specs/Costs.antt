-- What a step costs in device calls.
use Rattle.std.specs.Prelude.{◌≡◌, ◌≤◌, ◌+◌, ℕ}
use Rattle.im_base_disk.specs.declared.disk.Disk.{Ghosts}
use Rattle.im_base_disk.specs.Runs.{Costs, CostsAtMost, Forces}
use Rattle.im_base_steps.specs.declared.reply.Reply.{Reply}
use Rattle.im_base_steps.specs.declared.reply.Reply.TheVariants.{Committed, More, Done}

module _ {D : Type 0} (d : Ghosts D) where
  -- A Commit, over a log in whose buffer so many bytes wait: at most two forces, and just one where its record, of 33 bytes, fits into the buffer; however it ends, at most four writes and four syncs.
  pub record CommitCosts (used : ℕ) (HasChanges : Type 0) (reply : Reply) (old new : D) : Type 0 where
    pub most : CostsAtMost d 4 4 old new
    pub forces : reply ≡ Committed → Forces d 2 old new
    pub one : reply ≡ Committed → HasChanges → used + 33 ≤ 16384 → Costs d 2 2 old new
    -- one that waits calls no device where its record fits, and makes at most one force for room, else
    pub buffered : reply ≡ More → used + 33 ≤ 16384 → new ≡ old
    pub room : reply ≡ More → Forces d 1 old new
    -- and so does one of which no change stands
    pub ends : reply ≡ Committed → (HasChanges → ⊥) → Forces d 1 old new

  -- A Rollback logs an End at most, for which the buffer may be emptied.
  abbrev pub RollbackCosts : (old new : D) → Type 0
  RollbackCosts old new = CostsAtMost d 2 2 old new

  -- A force of a log in whose buffer so many bytes wait: two writes and two syncs, where any do; however it ends, no more.
  pub record ForceCosts (used : ℕ) (reply : Reply) (old new : D) : Type 0 where
    pub most : CostsAtMost d 2 2 old new
    pub one : reply ≡ Done → 1 ≤ used → Costs d 2 2 old new
