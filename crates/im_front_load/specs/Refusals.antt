-- Why a load is refused.
use Rattle.std.specs.Prelude.{◌≡◌, ◌⊎◌, IfSome}
use Rattle.im_base_types.specs.declared.fault.Fault.{Fault}
use Rattle.im_base_types.specs.declared.fault.Fault.TheVariants.{Memory, TooMany}
use Rattle.im_theory_store_trait.specs.declared.store.Store.{Ghosts}
use Rattle.im_base_types.specs.Answers.{Step}
use Rattle.im_front.specs.Acknowledged.{IsFullFor}
use Rattle.im_front.specs.Writing.{CameToNothing}
use Rattle.im_front_load.specs.declared.job.Ended.{Ended}

-- A step of it came to nothing: it was made, and refused so; it was not made, since the store was broken or the trace full for it; or there was no memory.
abbrev pub IsStopped : {E : Type 0} → Ghosts E → Fault → Type 0
IsStopped d fault = CameToNothing d ((step : Step) × IsFullFor d step) fault ⊎ (fault ≡ Memory)

-- why a task stopped, if it did not come to its end
abbrev pub StopsFor : {E L : Type 0} → Ghosts E → Ended L → Type 0
StopsFor d e = IfSome e.fault (IsStopped d)

-- So was the load; or it could not begin: the entries were refused so, or a share.
abbrev pub IsUnloaded : {E : Type 0} → Ghosts E → Fault → Type 0
IsUnloaded {E} d fault = IsStopped d fault ⊎ (fault ≡ TooMany) ⊎ ((old new : E) × d.refuses old new fault)
