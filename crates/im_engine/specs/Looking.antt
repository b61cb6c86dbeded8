-- How calls end that only look.
use Rattle.std.specs.Prelude.{◌≡◌, ◌≢◌, ◌↔◌, ℕ, Bool, true, false, List, Option, Some, None, Result, Ok, Err, is_some, IfOk, IfSome, find, if◌then◌else◌, length}
use Rattle.im_base_types.specs.Changes.{Effect}
use Rattle.im_base_types.specs.Lives.{Shown}
use Rattle.im_base_types.specs.Pages.{Page}
use Rattle.im_base_types.specs.declared.fault.Fault.{Fault}
use Rattle.im_base_types.specs.declared.fault.Fault.TheVariants.{Device, Failed, NoTransaction, Unfinished}
use Rattle.im_base_txn.specs.declared.transaction.Transaction.{Transaction}
use Rattle.im_base_txn.specs.Rows.{is_of, is_waiting}
use Rattle.im_theory_machine.specs.View.{View}
use Rattle.im_base_disk.specs.declared.disk.Disk.{Ghosts}
use Rattle.im_page.specs.declared.header.Header.{Header}
use Rattle.im_engine.specs.declared.engine.Engine.{Engine}
use Rattle.im_engine.specs.Faults.{ends_engine}
use Rattle.im_engine.specs.Running.{IsLife}
use Rattle.im_engine.specs.Told.{ReadCause}

-- what the header of a page says
abbrev pub header_of : Page → Header
header_of page = record { kind = page.body.kind; level = page.body.level; count = length page.body.entries }

-- whether a call that was refused so, if it was, leaves a working engine failed
abbrev pub broken_by : Option Fault → Bool
broken_by None = false
broken_by (Some fault) = ends_engine fault

-- how many changes of the transaction of a row stand, as that is told
abbrev pub standing : Option Transaction → Result ℕ Fault
standing None = Err NoTransaction
standing (Some row) = if is_waiting row then Err NoTransaction else Ok row.changes

module _ {D : Type 0} (d : Ghosts D) where
  -- What is told of how many changes of a transaction stand: of a store as many as its net has.
  pub record Counts (t : ℕ) (e : Engine D d) (told : Result ℕ Fault) : Type 0 where
    pub failed : e.failed ≡ true → told ≡ Err Failed
    pub works : e.failed ≡ false → told ≡ standing (find (is_of t) e.txns.rows)
    pub net : IfOk told (λ n. (before : List Effect) (s : Shown) (v : View) → IsLife d before s v e → n ≡ length ((v.txns t).net))

  -- How a search of a working engine ends: it is refused only for a cause that a search has, and told that the disk has failed just where it has; a refusal may break the engine, and the rest is as it was.
  pub record Searched (why : Option Fault) (old new : Engine D d) : Type 0 where
    pub cause : IfSome why (ReadCause d new.writer.log new.disk)
    pub device : (why ≡ Some Device) ↔ (d.failed new.disk ≡ true)
    pub failed : new.failed ≡ broken_by why
    pub frames : new.writer.pool.frames ≡ old.writer.pool.frames
    pub txns : new.txns ≡ old.txns
    pub locks : new.locks ≡ old.locks
    pub max_pages : new.max_pages ≡ old.max_pages
    pub dense : new.dense ≡ old.dense
    pub report : new.report ≡ old.report
    pub stepped : new.stepped ≡ old.stepped
    pub under : new.under ≡ old.under

  -- How a call ends that only looks: an engine that has failed answers that alone and stays as it was, and so does one that is asked for its whole tree while a structure change is under way; any other ends as a search.
  pub record Looks (why : Option Fault) (old new : Engine D d) : Type 0 where
    pub failed : (why ≡ Some Failed) ↔ (old.failed ≡ true)
    pub same : old.failed ≡ true → new ≡ old
    -- a structure change under way: all is as it was
    pub unfinished : why ≡ Some Unfinished → (is_some old.under ≡ true) × (new ≡ old)
    pub searched : old.failed ≡ false → why ≢ Some Unfinished → Searched why old new
