-- How a call of a disk ends: what it leaves, how it may be refused, and what it costs then.
use Rattle.std.specs.Prelude.{◌≡◌, ◌⊎◌, ◌↔◌, ℕ, Bool, false, true, List, Result, Err, IfErr, OnOk}
use Rattle.im_base_types.specs.declared.fault.Fault.{Fault}
use Rattle.im_base_types.specs.declared.fault.Fault.TheVariants.{Device, Failed}
use Rattle.im_base_types.specs.declared.file_id.FileId.{FileId}
use Rattle.im_base_disk.specs.declared.disk.Disk.{Ghosts}
use Rattle.im_base_disk.specs.Disk.{InFile, Follows, Stepped}
use Rattle.im_base_disk.specs.Runs.{LeavesOnly, ChangesOnly, Reads, Costs, CostsAtMost}

-- The refusals of a call of a disk: those of its own, and `Device`, which the disk notes.
pub record AnswersOr {A : Type 0} (own : Fault → Type 0) (lost : Bool) (result : Result A Fault) : Type 0 where
  pub causes : IfErr result (λ e. own e ⊎ (e ≡ Device))
  pub device : result ≡ Err Device ↔ (lost ≡ true)

-- The refusals of a call of what refuses every call once one failed: `Failed` exactly where it had failed before, those of its own, and `Device`, which the disk notes.
pub record Refusals {A : Type 0} (own : Fault → Type 0) (before lost : Bool) (result : Result A Fault) : Type 0 where
  pub causes : IfErr result (λ e. (e ≡ Failed) ⊎ own e ⊎ (e ≡ Device))
  pub already : result ≡ Err Failed ↔ (before ≡ true)
  pub device : before ≡ false → result ≡ Err Device ↔ (lost ≡ true)

module _ {D : Type 0} (d : Ghosts D) where
  -- The outcome of a call that only reads.
  pub record ReadsOr {A : Type 0} (own : Fault → Type 0) (old new : D) (result : Result A Fault) : Type 0 where
    pub reads : Reads d old new
    pub answers : AnswersOr own (d.failed new) result

  -- So many writes and so many syncs, and no more where it is refused.
  pub record CostsUpTo {A : Type 0} (w s : ℕ) (old new : D) (result : Result A Fault) : Type 0 where
    pub ok : OnOk result (Costs d w s old new)
    pub most : CostsAtMost d w s old new

  -- A run changes this file alone: a stop after it, or at any moment within, leaves the file as after this step, and the others as before.
  pub record WritesIn (file : FileId) (step : List ℕ → List ℕ → Type 0) (old new : D) : Type 0 where
    pub crash : Follows (InFile file step) (d.may_leave old) (d.may_leave new)
    pub changes : ChangesOnly d file old new
    pub any_moment : LeavesOnly d old new (Stepped (InFile file step) (d.may_leave old))
