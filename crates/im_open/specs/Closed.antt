-- What becomes of the store of a folder that is closed.
use Rattle.std.specs.Prelude.{◌≡◌, IfErr, OnOk, Result, Err}
use Rattle.im_base_types.specs.declared.fault.Fault.{Fault}
use Rattle.im_base_types.specs.declared.fault.Fault.TheVariants.{Device}
use Rattle.im_base_disk.specs.declared.disk.Disk.{Ghosts}
use Rattle.im_store.specs.Stores.{IsEnd}
use Rattle.im_store.specs.declared.open_store.OpenStore.{OpenStore}

module _ {D : Type 0} (d : Ghosts D) (cuts : D → Result Unit Fault → Type 0) where
  -- It ended as any store does, and what that was refused is told. Where nothing was, its folder cut the logs of the files that the end left, and nobody wrote to them before: what that answered is told, so `Device` where a log was not cut.
  pub record IsClosedHere (s : OpenStore D d) (result : Result Unit Fault) : Type 0 where
    pub ended : Result Unit Fault
    pub left : D
    pub end : IsEnd d s ended left
    pub refused : IfErr ended (λ e. result ≡ Err e)
    pub cut : OnOk ended (cuts left result)
    pub uncut : OnOk ended (IfErr result (λ e. e ≡ Device))
