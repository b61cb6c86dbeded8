-- Lives of a store in a script, as engines run them: which calls the answers come from, and on which disks.
use Rattle.std.specs.Prelude.{◌≡◌, ◌⊎◌, ◌↔◌, ◌<◌, ◌≤◌, ◌+◌, ℕ, true, false, List, [], ◌∷◌, Option, None, Result, Ok, Err, IfOk, IfErr, MatchResult}
use Rattle.std.specs.Global.{Vec}
use Rattle.std.specs.Result.{IsErrAnd}
use Rattle.im_base_types.specs.declared.fault.Fault.{Fault}
use Rattle.im_base_types.specs.declared.fault.Fault.TheVariants.{Memory, Device, LogFull, NotAStore, PoolSize, Capacity, Workers}
use Rattle.im_base_steps.specs.declared.step.Step.{Step}
use Rattle.im_base_steps.specs.declared.reply.Reply.{Reply}
use Rattle.im_base_types.specs.Changes.{Effect}
use Rattle.im_base_types.specs.Lives.{Shown}
use Rattle.im_theory_machine.specs.View.{View}
use Rattle.im_base_types.specs.Pages.{Entry}
use Rattle.im_base_disk.specs.declared.disk.Disk.{Ghosts}
use Rattle.im_base_model_disk.specs.declared.model_disk.ModelDisk.{ModelDisk}
use Rattle.im_base_model_disk.specs.declared.stop.Stop.{Stop}
use Rattle.im_base_disk.specs.Disk.{three}
use Rattle.im_base_model_disk.specs.Model.{IsFresh, model_calls}
use Rattle.im_base_two_logs.specs.declared.renamed.Renamed.{Renamed}
use Rattle.im_log_choice.specs.Switching.{ReadsNamed}
use Rattle.im_page_pool.specs.Pool.{page_at}
use Rattle.im_page_writer.specs.Outcome.{fault_of}
use Rattle.im_base_types.specs.declared.redo_report.RedoReport.{RedoReport}
use Rattle.im_restart.specs.Restart.{IsFullLog}
use Rattle.im_engine.specs.declared.config.Config.{Config}
use Rattle.im_page.specs.declared.header.Header.{Header}
use Rattle.im_engine.specs.declared.engine.Engine.{Engine}
use Rattle.im_engine.specs.Looking.{Counts, Looks, header_of}
use Rattle.im_engine.specs.Listing.{IsFoundBy}
use Rattle.im_engine.specs.Kept.{OpenKept, LookKept, disk_of}
use Rattle.im_engine.specs.Running.{IsLife}
use Rattle.im_engine.specs.Stands.{StandsFor, SpellsCurrent}
use Rattle.im_engine.specs.Told.{IsStep, Where}
use Rattle.im_tool_lines.specs.declared.life_answers.Opening.TheVariants as openings
use Rattle.im_tool_lines.specs.declared.store_life.StoreLine.{StoreLine}
use Rattle.im_tool_lines.specs.declared.store_life.StoreLine.TheVariants as lines
use Rattle.im_tool_lines.specs.declared.store_life.LifeOptions.{LifeOptions}
use Rattle.im_tool_lines.specs.declared.store_life.StoreLife.{StoreLife}
use Rattle.im_tool_lines.specs.declared.store_script.StoreScript.{StoreScript}
use Rattle.im_tool_lines.specs.declared.store_answers.StoreReply.{StoreReply}
use Rattle.im_tool_lines.specs.declared.store_answers.StoreReply.TheVariants as replies
use Rattle.im_tool_lines.specs.declared.store_answers.StoreAnswers.{StoreAnswers}
use Rattle.im_tool_drill.specs.declared.store_drilled.StoreDrilled.{StoreDrilled}
use Rattle.im_tool_lines.specs.Stops.{IsArmedAll, HasCome, IsNextDisk, IsOpenedOr}
use Rattle.im_tool_drill.specs.StoreLives.{IsConfigOf, gate_of}

-- a life whose options are left out
abbrev pub no_options : LifeOptions
no_options = record { frames = None; max_pages = None; failing_call = None; failing_read = None; stepped = false; group = false; dense = false; workers = None }

-- Each report among these replies is this one.
abbrev pub AllReport : RedoReport → List StoreReply → Type 0
AllReport report [] = Unit {0}
AllReport report (replies.Redo told ∷ others) = (told ≡ report) × AllReport report others
AllReport report (_ ∷ others) = AllReport report others

-- a disk whose logs have their own names
abbrev pub IsByOwnNames : ModelDisk → Renamed ModelDisk → Type 0
IsByOwnNames disk named = (named.disk ≡ disk) × (named.swapped ≡ false)

module _ (d : Ghosts (Renamed ModelDisk)) where
  -- A step was made by the engine, and its reply is the engine's, unless the stop fell into it.
  pub record IsStepRun (stop : Option Stop) (step : Step) (told : StoreReply) (old new : Engine (Renamed ModelDisk) d) : Type 0 where
    pub reply : Reply
    pub made : IsStep d step reply old new
    pub says : Where (HasCome stop new.disk.disk) (told ≡ replies.Stopped) (told ≡ replies.Step reply)

  -- The engine was asked what a page is for, and what is told is its answer, unless the stop fell into it.
  pub record IsLookRun (stop : Option Stop) (page : ℕ) (told : StoreReply) (old new : Engine (Renamed ModelDisk) d) : Type 0 where
    pub header : Result Header Fault
    pub shows : IfOk header (λ h. h ≡ header_of (page_at new.writer.pool page))
    pub outcome : Looks d (fault_of header) old new
    pub kept : (before : List Effect) (s : Shown) (v : View) → IsLife d before s v old → LookKept d before s v old new
    pub says : Where (HasCome stop new.disk.disk) (told ≡ replies.Stopped) (MatchResult header (λ h. told ≡ replies.Page page h) (λ f. told ≡ replies.Refused f))

  -- The engine was asked how many changes of a transaction stand, and what is told is its answer.
  pub record IsCountRun (t : ℕ) (told : StoreReply) (old : Engine (Renamed ModelDisk) d) : Type 0 where
    pub count : Result ℕ Fault
    pub counts : Counts d t old count
    pub says : MatchResult count (λ n. told ≡ replies.Changes n) (λ f. told ≡ replies.Refused f)

  -- A line was run by the engine. `calls` counts the device calls so far, `redo` tells the engine's report, `log` where the durable log ends.
  abbrev pub IsLineRun : Option Stop → StoreLine → StoreReply → Engine (Renamed ModelDisk) d → Engine (Renamed ModelDisk) d → Type 0
  IsLineRun stop (lines.Step step) told old new = IsStepRun stop step told old new
  IsLineRun stop (lines.Page page) told old new = IsLookRun stop page told old new
  IsLineRun stop lines.Calls told old new = (told ≡ replies.Calls (model_calls old.disk.disk)) × (new ≡ old)
  IsLineRun stop lines.Redo told old new = (told ≡ replies.Redo old.report) × (new ≡ old)
  IsLineRun stop lines.Log told old new = (told ≡ replies.Log (gate_of d old)) × (new ≡ old)
  IsLineRun stop (lines.Changes t) told old new = IsCountRun t told old × (new ≡ old)

  -- The lines that have replies were run in turn, each by the engine that the one before it left.
  abbrev pub AreLinesRun : Option Stop → List StoreLine → List StoreReply → Engine (Renamed ModelDisk) d → Engine (Renamed ModelDisk) d → Type 0
  AreLinesRun stop [] [] old new = new ≡ old
  AreLinesRun stop (line ∷ rest) [] old new = new ≡ old
  AreLinesRun stop (line ∷ rest) (told ∷ others) old new = (mid : Engine (Renamed ModelDisk) d) × IsLineRun stop line told old mid × AreLinesRun stop rest others mid new
  AreLinesRun stop [] (told ∷ others) old new = ⊥

  -- What an engine that is opened with these options answers. It is refused only for want of memory, by the disk, because the files are no store,
  -- for want of room in the log or of page numbers, or by the number of its frames, and after that of its workers, and by these exactly where they are too few or too many. Where
  -- the current log's bytes are no log's it only reads and is never told that a log is full; that comes only where the log's file is full.
  pub record IsOpening (options : LifeOptions) (old : Renamed ModelDisk) (result : Result (Engine (Renamed ModelDisk) d) (Fault × Renamed ModelDisk)) : Type 0 where
    pub config : Config
    pub of : IsConfigOf options config
    pub kept : (before : List Effect) (stands : StandsFor before (d.seen old)) → OpenKept d before old stands result
    pub opened : IfOk result (λ e. (e.failed ≡ false) × (e.txns.rows ≡ []) × (e.locks ≡ []) × (e.max_pages ≡ config.max_pages))
    pub pool : IfOk result (λ e. e.writer.pool.frames ≡ config.frames + config.more.frames)
    pub frames : IsErrAnd result (λ x. x.0 ≡ PoolSize) ↔ ((config.frames < 8) ⊎ (1024 < config.frames))
    pub workers : IsErrAnd result (λ x. x.0 ≡ Workers) ↔ ((8 ≤ config.frames) × (config.frames ≤ 1024)) × ((config.workers < 1) ⊎ (16 < config.workers))
    pub device : IsErrAnd result (λ x. x.0 ≡ Device) ↔ (d.failed (disk_of d result) ≡ true)
    pub causes : IfErr result (λ x. (x.0 ≡ PoolSize) ⊎ (x.0 ≡ Workers) ⊎ (x.0 ≡ Memory) ⊎ (x.0 ≡ Device) ⊎ (x.0 ≡ NotAStore) ⊎ (x.0 ≡ LogFull) ⊎ (x.0 ≡ Capacity))
    pub spelled : IfOk result (λ e. d.tells → SpellsCurrent (d.seen old))
    pub unspelled : d.tells → ¬ (SpellsCurrent (d.seen old)) → ReadsNamed d old (disk_of d result) × IfErr result (λ x. (x.0 ≡ PoolSize) ⊎ (x.0 ≡ Workers) ⊎ (x.0 ≡ Memory) ⊎ (x.0 ≡ Device) ⊎ (x.0 ≡ NotAStore))
    pub full : IfErr result (λ x. x.0 ≡ LogFull → d.tells → IsFullLog (d.seen x.1))

  -- The answers of a life whose opening came out so: its number of device calls, and the replies of its lines, of which each report is that of this
  -- opening (`OpenKept.report` has what it says); or why there is no engine, and no reply.
  abbrev pub AreAnswersOf : Option Stop → List StoreLine → StoreAnswers → ModelDisk → Result (Engine (Renamed ModelDisk) d) (Fault × Renamed ModelDisk) → Type 0
  AreAnswersOf stop all told new (Ok e) = (told.opening ≡ openings.Open (model_calls e.disk.disk)) × (last : Engine (Renamed ModelDisk) d) × AreLinesRun stop all told.replies.items e last × (new ≡ last.disk.disk) × AllReport e.report told.replies.items
  AreAnswersOf stop all told new (Err x) = IsOpenedOr stop x.1.disk told.opening x.0 × (told.replies.items ≡ []) × (new ≡ x.1.disk)

  -- A life was run: its stop, and the device call and the read that fail in it, were armed, an engine was opened on the disk, in which Commits wait or do not, and it made the lines.
  pub record IsLifeRun (life : StoreLife) (told : StoreAnswers) (old new : ModelDisk) : Type 0 where
    pub armed : ModelDisk
    pub arms : IsArmedAll life.stop life.options.failing_call life.options.failing_read old armed
    pub named : Renamed ModelDisk
    pub own : IsByOwnNames armed named
    pub result : Result (Engine (Renamed ModelDisk) d) (Fault × Renamed ModelDisk)
    pub opening : IsOpening life.options named result
    pub group : IfOk result (λ e. e.txns.group ≡ life.options.group)
    pub answers : AreAnswersOf life.stop life.lines.items told new result

  -- The last opening was made on this disk, and left it so.
  pub record IsLastRun (old : ModelDisk) (last : Result (Vec Entry) Fault) (new : ModelDisk) : Type 0 where
    pub named : Renamed ModelDisk
    pub own : IsByOwnNames old named
    pub result : Result (Engine (Renamed ModelDisk) d) (Fault × Renamed ModelDisk)
    pub opening : IsOpening no_options named result
    pub end : Renamed ModelDisk
    pub found : IsFoundBy d last end result
    pub left : new ≡ end.disk

module _ (model : Ghosts ModelDisk) (d : Ghosts (Renamed ModelDisk)) where
  -- The lives were run in turn, each on what the stop of the one before it left.
  abbrev pub AreLivesRun : List StoreLife → List StoreAnswers → ModelDisk → ModelDisk → Type 0
  AreLivesRun [] [] old new = new ≡ old
  AreLivesRun (life ∷ rest) (told ∷ others) old new = (left : ModelDisk) × (next : ModelDisk) × IsLifeRun d life told old left × IsNextDisk model left next × AreLivesRun rest others next new
  AreLivesRun _ _ old new = ⊥

  -- The lives of a script were run on a disk that begins with the script's files, and then one opening more.
  pub record IsRun (script : StoreScript) (told : StoreDrilled) : Type 0 where
    pub first : ModelDisk
    pub fresh : IsFresh first
    pub seen : model.seen first ≡ three script.log.items script.pages.items script.log2.items
    pub end : ModelDisk
    pub lives : AreLivesRun script.lives.items told.lives.items first end
    pub last : IsLastRun d end told.last told.disk
