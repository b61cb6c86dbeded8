-- The numbers of refusals.
use Rattle.std.specs.Prelude.{ℕ}
use Rattle.im_base_types.specs.declared.fault.Fault.{Fault}
use Rattle.im_base_types.specs.declared.fault.Fault.TheVariants.{NoTransaction, MustRollBack, KeyLength, RollingBack, PagesFull, Capacity, LogFull, Device, Memory, Failed, NotAStore, TooMany, PoolSize, TraceFull, Busy, BadScript, Unfinished, Workers, Locked}

-- the number of a refusal
abbrev pub number_of : Fault → ℕ
number_of NoTransaction = 1
number_of MustRollBack = 2
number_of KeyLength = 3
number_of RollingBack = 4
number_of PagesFull = 5
number_of Capacity = 6
number_of LogFull = 7
number_of Device = 8
number_of Memory = 9
number_of Failed = 10
number_of NotAStore = 11
number_of TooMany = 12
number_of PoolSize = 13
number_of TraceFull = 14
number_of Busy = 15
number_of BadScript = 16
number_of Unfinished = 17
number_of Workers = 18
number_of Locked = 19
