-- What a call for a load makes, and what it is told.
use Rattle.std.specs.Prelude.{◌≡◌, ◌<◌, ◌≤◌, ◌⊎◌, ◌↔◌, ◌^◌, true, false, List, [], ◌∷◌, ◌++◌, length, Option, None, Some, IfSome, OnOk, Result}
use Rattle.im_base_types.specs.Pages.{Entry}
use Rattle.im_base_types.specs.declared.fault.Fault.{Fault}
use Rattle.im_base_types.specs.declared.fault.Fault.TheVariants.{Device, KeyLength, Memory, NotAStore}
use Rattle.im_base_types.specs.Faults.{number_of}
use Rattle.im_base_disk.specs.declared.disk.Disk.{Ghosts}
use Rattle.im_base_disk.specs.Disk.{Answers}
use Rattle.im_base_disk.specs.Runs.{IsSynced, LeavesOnly, Reads}
use Rattle.im_load.specs.Edge.{IsAboveAll}
use Rattle.im_load.specs.Files.{AreEmpty, AreHalf, AreLeft, AreOfLoad}
use Rattle.im_load.specs.HasTaken.{IsLoading, LoaderRefuses}
use Rattle.im_calls.specs.declared.call.Call.{Call}
use Rattle.im_calls.specs.Calls.{TellsWord, Refuses, asked_bytes}
use Rattle.im_calls.specs.Sessions.{TellsEnd}
use Rattle.im_calls.specs.declared.loading.Loading.{Loading}

-- the entry that a call asks to put
abbrev pub asked_entry : Call → Entry
asked_entry asked = (asked_bytes asked.key_len asked.key, asked.number)

module _ {D : Type 0} (d : Ghosts D) where
  -- No load is begun: `NotAStore` is of files that have a byte, `Device` of a call that failed. They were only read.
  pub record IsNotBegun (disk : D) (told : Call) : Type 0 where
    pub fault : Fault
    pub tells : Refuses told (number_of fault)
    pub left : D
    pub reads : Reads d disk left
    pub causes : ((fault ≡ NotAStore) × (d.tells → ¬ (AreEmpty (d.seen left)))) ⊎ (fault ≡ Memory) ⊎ ((fault ≡ Device) × (d.failed left ≡ true))

  -- A load is begun into files without bytes, and that is told; or why not.
  abbrev pub IsLoadBegun : D → Call → Option (Loading D) → Type 0
  IsLoadBegun disk told None = IsNotBegun disk told
  IsLoadBegun disk told (Some l) = TellsWord told 14 0 × (d.failed l.disk ≡ false) × (d.tells → AreEmpty (d.seen l.disk)) × (IsSynced d disk → IsLoading d disk l.loader l.disk [])

  -- An entry is taken, after all others, and told as Inserted.
  pub record IsTaken (asked told : Call) (old new : Loading D) : Type 0 where
    pub tells : TellsWord told 6 0
    pub taken : (from : D) (es : List Entry) → IsLoading d from old.loader old.disk es → IsAboveAll (asked_entry asked).0 es × IsLoading d from new.loader new.disk (es ++ asked_entry asked ∷ [])

  -- Its key is not above all, which is told as Duplicate, and nothing changed.
  pub record IsNotTaken (asked told : Call) (old new : Loading D) : Type 0 where
    pub tells : TellsWord told 7 0
    pub same : (new.loader ≡ old.loader) × (new.disk ≡ old.disk)
    pub falls : (from : D) (es : List Entry) → IsLoading d from old.loader old.disk es → IsAboveAll (asked_entry asked).0 es → ⊥

  -- An entry is refused, and the load is over: `KeyLength` just where its key has no byte or too many, `Capacity` only where the pages are used up, `NotAStore` of no load that was begun, and
  -- `Device` just where a call failed. A stop leaves no store.
  pub record IsPutRefused (asked told : Call) (old : Loading D) : Type 0 where
    pub fault : Fault
    pub tells : Refuses told (number_of fault)
    pub left : Loading D
    pub key_length : (fault ≡ KeyLength) ↔ ((length (asked_entry asked).0 < 1) ⊎ (255 < length (asked_entry asked).0))
    pub device : (fault ≡ Device) ↔ (d.failed left.disk ≡ true)
    pub causes : ((fault ≡ KeyLength) ⊎ LoaderRefuses left.loader ((from : D) (es : List Entry) → IsLoading d from old.loader old.disk es → ⊥) fault) ⊎ (fault ≡ Device)
    pub stops : (from : D) (es : List Entry) → IsLoading d from old.loader old.disk es → LeavesOnly d from left.disk AreHalf

  -- what becomes of a put: where it is refused, the load is over
  abbrev pub IsPut : Call → Call → Loading D → Option (Loading D) → Type 0
  IsPut asked told old None = IsPutRefused asked told old
  IsPut asked told old (Some new) = (d.failed new.disk ≡ false) × (IsTaken asked told old new ⊎ IsNotTaken asked told old new)

  -- The load is ended, as the loader ends it, and that is told.
  pub record IsLoadEnded (told : Call) (old : Loading D) (disk : D) : Type 0 where
    pub result : Result Unit Fault
    pub tells : TellsEnd told result
    pub answers : Answers (d.failed disk) result
    pub loaded : (from : D) (es : List Entry) → IsLoading d from old.loader old.disk es → OnOk result (d.tells → AreOfLoad es (d.seen disk))
    pub synced : (from : D) (es : List Entry) → IsLoading d from old.loader old.disk es → OnOk result (IsSynced d disk)
    pub stops : (from : D) (es : List Entry) → IsLoading d from old.loader old.disk es → LeavesOnly d from disk (AreLeft es)

  -- One begins into these files, over the descriptors that are asked; a number that no descriptor has is answered as a device that fails.
  pub record IsLoadBegunOver (disk : D) (asked told : Call) (new : Option (Loading D)) : Type 0 where
    pub none : (2 ^ 31 ≤ asked.key_len) ⊎ (2 ^ 31 ≤ asked.hi_len) → Refuses told 8 × (new ≡ None)
    pub begun : asked.key_len < 2 ^ 31 → asked.hi_len < 2 ^ 31 → IsLoadBegun disk told new

  -- What becomes of a load by a call for one. It begins where no store is open, and lets one go that went on; beside a store that is open none begins. One whose disk has failed is over.
  pub record Loads (is_closed : Type 0) (begins : Option (Loading D) → Type 0) (asked told : Call) (old new : Option (Loading D)) : Type 0 where
    pub begun : asked.step ≡ 21 → is_closed → begins new
    pub barred : asked.step ≡ 21 → (is_closed → ⊥) → Refuses told 10 × (new ≡ old)
    pub none : old ≡ None → (asked.step ≡ 22) ⊎ (asked.step ≡ 23) → Refuses told 10 × (new ≡ None)
    pub lost : IfSome old (λ load. (asked.step ≡ 22) ⊎ (asked.step ≡ 23) → d.failed load.disk ≡ true → Refuses told 10 × (new ≡ None))
    pub put : IfSome old (λ load. asked.step ≡ 22 → d.failed load.disk ≡ false → IsPut asked told load new)
    pub ended : asked.step ≡ 23 → new ≡ None
    pub left : IfSome old (λ load. asked.step ≡ 23 → d.failed load.disk ≡ false → (disk : D) × IsLoadEnded told load disk)
