-- What answers a cut of the trace first.
use Rattle.std.specs.Prelude.{◌≡◌, ◌<◌, ◌+◌, true, false, List, [], length, Result, Err, OnOk}
use Rattle.im_base_types.specs.Changes.{Effect}
use Rattle.im_base_types.specs.Lives.{Shown}
use Rattle.im_base_types.specs.declared.fault.Fault.{Fault}
use Rattle.im_base_types.specs.declared.fault.Fault.TheVariants.{Failed, Busy}
use Rattle.im_theory_machine.specs.View.{View}
use Rattle.im_theory_store_trait.specs.declared.store.Store.{Ghosts}
use Rattle.im_front.specs.Traces.{trace_of}
use Rattle.im_front.specs.Held.{State, IsCut, WhyNotCut}
use Rattle.im_front.specs.Acknowledged.{WasIn}

-- That the engine has failed is told first, and then that a transaction is active. Where the trace is cut none is.
pub record ComesFirst {E : Type 0} (d : Ghosts E) (engine : E) (result : Result Unit Fault) : Type 0 where
  pub failed : (before : List Effect) (s : Shown) (v : View) → d.life before s v engine → v.failed ≡ true → result ≡ Err Failed
  pub busy : (before : List Effect) (s : Shown) (v : View) → d.life before s v engine → v.failed ≡ false → 0 < v.active → result ≡ Err Busy
  pub idle : OnOk result (d.actives engine ≡ 0)

-- Behind the lock a cut was refused, from one moment to the next, and this is why.
pub record WasNotCut {E : Type 0} (d : Ghosts E) (fault : Fault) : Type 0 where
  pub was : State E
  pub now : State E
  pub both : WasIn d was × WasIn d now
  pub why : WhyNotCut d was now fault

-- Behind the lock the trace was cut, from one moment to the next: no step is left in it, and its base holds what they came to. The counts stay.
pub record WasCut {E : Type 0} (d : Ghosts E) : Type 0 where
  pub was : State E
  pub now : State E
  pub both : WasIn d was × WasIn d now
  pub emptied : (now.trace ≡ []) × (now.cut ≡ was.cut + length was.trace) × (now.kept ≡ was.counts) × (now.counts ≡ was.counts)
  pub base : d.tells → IsCut was.base now.base (trace_of was.trace)
