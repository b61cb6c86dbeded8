-- What the headers of two logs say of which is the current one.
use Rattle.std.specs.Prelude.{true, false}
use Rattle.im_base_disk.specs.Disk.{Files}
use Rattle.im_log_choice.specs.declared.choosing.Choice.{Choice}
use Rattle.im_log_choice.specs.declared.choosing.Choice.TheVariants.{First, Second, Neither}
use Rattle.im_log_choice.specs.Current.{IsCurrent, HasCurrent}

-- The log is the current one, or the other log, or nothing says which.
abbrev pub IsChosen : Choice → Files → Type 0
IsChosen First files = IsCurrent false files × HasCurrent files
IsChosen Second files = IsCurrent true files × HasCurrent files
IsChosen Neither files = ¬ (HasCurrent files)
