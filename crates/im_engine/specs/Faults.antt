-- How a store answers a refusal of the calls below: as it is, where a step may be answered so, and else that it has failed.
use Rattle.std.specs.Prelude.{Bool, true, false}
use Rattle.im_base_types.specs.declared.fault.Fault.{Fault}
use Rattle.im_base_types.specs.declared.fault.Fault.TheVariants as faults

abbrev pub told_as : Fault → Fault
told_as faults.PagesFull = faults.PagesFull
told_as faults.Capacity = faults.Capacity
told_as faults.LogFull = faults.LogFull
told_as faults.Device = faults.Device
told_as faults.Memory = faults.Memory
told_as faults.NotAStore = faults.NotAStore
told_as e = faults.Failed

-- whether the engine has failed after it
abbrev pub ends_engine : Fault → Bool
ends_engine faults.PagesFull = false
ends_engine faults.Memory = false
ends_engine e = true

-- how it answers one of a call that only looks, which a structure change under way may have refused
abbrev pub told_look : Fault → Fault
told_look faults.Unfinished = faults.Unfinished
told_look e = told_as e
