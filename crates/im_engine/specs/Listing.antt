-- What comes of asking an engine for all its entries, and of an opening that is made for them.
use Rattle.std.specs.Prelude.{◌≡◌, ◌≢◌, List, Option, None, Some, Result, Ok, Err, IfOk, IfErr}
use Rattle.std.specs.Global.{Vec}
use Rattle.im_base_types.specs.declared.fault.Fault.{Fault}
use Rattle.im_base_types.specs.declared.fault.Fault.TheVariants.{NotAStore}
use Rattle.im_base_types.specs.Changes.{Effect}
use Rattle.im_base_types.specs.Lives.{Shown}
use Rattle.im_base_types.specs.Pages.{Entry}
use Rattle.im_base_disk.specs.declared.disk.Disk.{Ghosts}
use Rattle.im_page_writer.specs.Outcome.{fault_of}
use Rattle.im_theory_machine.specs.View.{View}
use Rattle.im_engine.specs.declared.config.Config.{Config}
use Rattle.im_engine.specs.declared.engine.Engine.{Engine}
use Rattle.im_engine.specs.Kept.{LookKept, EntriesKept}
use Rattle.im_engine.specs.Looking.{Looks}
use Rattle.im_engine.specs.Opening.{IsOpening}
use Rattle.im_engine.specs.Running.{IsLife}

-- the entries that were handed out, if any were
abbrev pub handed_out : Result (Vec Entry) Fault → Option (List Entry)
handed_out (Ok list) = Some list.items
handed_out (Err fault) = None

module _ {D : Type 0} (d : Ghosts D) where
  -- An engine was asked for all its entries, and is the new one after that: it handed these out, or refused so.
  pub record IsListing (found : Result (Vec Entry) Fault) (old new : Engine D d) : Type 0 where
    -- why it refuses, and what it is then: one that had failed says so alone, and one that is refused memory, or finds bytes that are no store's, goes on
    pub outcome : Looks d (fault_of found) old new
    pub kept : (before : List Effect) (s : Shown) (v : View) → IsLife d before s v old → LookKept d before s v old new
    -- the entries of an engine whose life is known
    pub entries : IfOk found (λ list. (before : List Effect) (s : Shown) (v : View) → IsLife d before s v old → EntriesKept before s v list.items)
    pub never : IfErr found (λ fault. (before : List Effect) (s : Shown) (v : View) → IsLife d before s v old → fault ≢ NotAStore)

  -- What came of an opening, and the disk then: what the engine answered when it was asked for its entries, or why there is no engine.
  abbrev pub IsFoundBy : Result (Vec Entry) Fault → D → Result (Engine D d) (Fault × D) → Type 0
  IsFoundBy found new (Ok e) = (listed : Engine D d) × IsListing found e listed × (new ≡ listed.disk)
  IsFoundBy found new (Err x) = (found ≡ Err x.0) × (new ≡ x.1)

  -- A look: an engine was opened on the disk and asked for its entries, and the disk handed on.
  pub record IsLook (config : Config) (old : D) (found : Result (Vec Entry) Fault) (new : D) : Type 0 where
    pub result : Result (Engine D d) (Fault × D)
    pub opening : IsOpening d config old result
    pub by : IsFoundBy found new result
