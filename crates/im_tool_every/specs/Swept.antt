-- Lives that are stopped everywhere, and the openings after them.
use Rattle.std.specs.Prelude.{◌≡◌, ◌↔◌, ℕ, Bool, true, List, [], ◌∷◌, Some, None}
use Rattle.std.specs.Global.{Vec}
use Rattle.im_base_types.specs.Changes as changes
use Rattle.im_base_types.specs.Changes.{Effect}
use Rattle.im_base_types.specs.Lives.{Asked, nothing_shown}
use Rattle.im_base_types.specs.Pages.{Entry}
use Rattle.im_base_disk.specs.declared.disk.Disk.{Ghosts}
use Rattle.im_base_disk.specs.Disk.{three}
use Rattle.im_base_model_disk.specs.declared.model_disk.ModelDisk.{ModelDisk}
use Rattle.im_base_model_disk.specs.declared.stop.Stop.{Stop}
use Rattle.im_base_model_disk.specs.Model.{IsFresh, model_calls}
use Rattle.im_base_two_logs.specs.declared.renamed.Renamed.{Renamed}
use Rattle.im_tool_lines.specs.declared.store_answers.StoreAnswers.{StoreAnswers}
use Rattle.im_tool_lines.specs.declared.store_answers.StoreReply.{StoreReply}
use Rattle.im_tool_lines.specs.declared.store_life.LifeOptions.{LifeOptions}
use Rattle.im_tool_lines.specs.declared.store_life.StoreLife.{StoreLife}
use Rattle.im_tool_lines.specs.declared.store_life.StoreLine.{StoreLine}
use Rattle.im_tool_lines.specs.Stops.{IsNextDisk}
use Rattle.im_tool_lines.specs.StoreShown.{shown_by_lines}
use Rattle.im_tool_drill.specs.StoreRuns.{IsLifeRun}
use Rattle.im_tool_judge.specs.declared.change.AskedEffect.{AskedEffect}
use Rattle.im_tool_judge.specs.Judged.{asked_in}
use Rattle.im_tool_every.specs.declared.every.Counts.{Counts}
use Rattle.im_tool_every.specs.declared.start.Start.{Start}
use Rattle.im_tool_every.specs.declared.ways.Stops.{Stops}
use Rattle.im_tool_every.specs.declared.ways.Way.{Way}
use Rattle.im_tool_every.specs.Counted.{counted, one_restart, one_stop, none_counted, AreCalls, AreInTurn, IsAtEnd, IsJudgedIn}
use Rattle.im_tool_every.specs.Opened.{IsBegun}
use Rattle.im_tool_every.specs.Stopped.{ways_of, IsLeftIn, IsStopAt, IsStoppedIn}

-- entries put in turn, in front of an effect, which has the newest first
abbrev pub put_before : List Entry → Effect → Effect
put_before [] e = e
put_before (entry ∷ entries) e = put_before entries (changes.Put entry.0 entry.1 ∷ e)

-- what a life asked, as its lines and replies show
abbrev pub asked_of : List StoreLine → List StoreReply → List Asked
asked_of lines replies = (shown_by_lines nothing_shown lines replies).asked

-- what a life began with, as one effect that was acknowledged
abbrev pub begun_with : List Entry → Asked
begun_with entries = record { txn = 0; effect = put_before entries []; acked = true }

-- The same options and lines, whatever the stop.
pub record IsSameLife (old new : StoreLife) : Type 0 where
  pub options : new.options ≡ old.options
  pub lines : new.lines ≡ old.lines

module _ (model : Ghosts ModelDisk) (d : Ghosts (Renamed ModelDisk)) where
  -- An opening on what is left of a disk was stopped within this call in this way, and what that left was judged.
  pub record IsRestart (options : LifeOptions) (asked : List AskedEffect) (disk : ModelDisk) (call : ℕ) (way : Way) (old new : Counts) : Type 0 where
    pub next : ModelDisk
    pub stopped : IsStoppedIn model d way.keeps_single options call way disk next
    pub calls : ℕ
    pub judged : IsJudgedIn model d options asked next calls (one_restart old) new

  -- in each way
  abbrev pub AreRestartsAt : LifeOptions → List AskedEffect → Stops → ModelDisk → ℕ → Counts → Counts → Type 0
  AreRestartsAt options asked stops disk call old new = AreInTurn (λ way. IsRestart options asked disk call way) (ways_of stops) old new

  -- What is left of a disk was opened and judged, and that opening was stopped within each of its calls, and at the end where that is such a place.
  pub record AreRestarts (options : LifeOptions) (asked : List AskedEffect) (stops : Stops) (disk : ModelDisk) (old new : Counts) : Type 0 where
    pub calls : ℕ
    pub plain : Counts
    pub judged : IsJudgedIn model d options asked disk calls old plain
    pub last : Counts
    pub each : AreCalls (AreRestartsAt options asked stops disk) calls plain last
    pub at_end : IsAtEnd (AreRestartsAt options asked stops disk 0) stops last new

  -- A life that begins with this was stopped within this call in this way, and each opening after it.
  pub record IsLifeStopped (start : Start) (options : LifeOptions) (lines : Vec StoreLine) (stops : Stops) (call : ℕ) (way : Way) (old new : Counts) : Type 0 where
    pub stop : Stop
    pub is_at : IsStopAt call way stop
    pub disk : ModelDisk
    pub begins : IsNextDisk model start.disk disk
    pub told : StoreAnswers
    pub end : ModelDisk
    pub run : IsLifeRun d (record { options = options; lines = lines; stop = Some stop }) told disk end
    pub begun : Bool
    pub verdict : begun ≡ true ↔ IsBegun told.opening
    pub asked : List AskedEffect
    pub asks : asked_in asked ≡ begun_with start.entries.items ∷ asked_of lines.items told.replies.items
    pub left : ModelDisk
    pub leaves : IsLeftIn model way.keeps_single way end left
    pub restarts : AreRestarts options asked stops left (counted begun (one_stop old)) new

  -- in each way
  abbrev pub AreStopsAt : Start → LifeOptions → Vec StoreLine → Stops → ℕ → Counts → Counts → Type 0
  AreStopsAt start options lines stops call old new = AreInTurn (λ way. IsLifeStopped start options lines stops call way) (ways_of stops) old new

  -- A life that begins with this was made without a stop, and then stopped within each of the device calls that it made, and at the end where that is such a
  -- place: so many stops and stopped openings there were, and so many of the verdicts on what they left were bad.
  pub record IsEveryStop (start : Start) (life : StoreLife) (stops : Stops) (counts : Counts) : Type 0 where
    pub disk : ModelDisk
    pub begins : IsNextDisk model start.disk disk
    pub told : StoreAnswers
    pub end : ModelDisk
    pub run : IsLifeRun d (record { options = life.options; lines = life.lines; stop = None }) told disk end
    pub begun : Bool
    pub verdict : begun ≡ true ↔ IsBegun told.opening
    pub last : Counts
    pub each : AreCalls (AreStopsAt start life.options life.lines stops) (model_calls end) (counted begun none_counted) last
    pub at_end : IsAtEnd (AreStopsAt start life.options life.lines stops 0) stops last counts

  -- A life of a new store was made as it stands, and what it left was opened, and that opening stopped everywhere.
  pub record IsEveryRestart (life : StoreLife) (stops : Stops) (old new : Counts) : Type 0 where
    pub disk : ModelDisk
    pub fresh : IsFresh disk
    pub empty : model.seen disk ≡ three [] [] []
    pub told : StoreAnswers
    pub end : ModelDisk
    pub run : IsLifeRun d life told disk end
    pub begun : Bool
    pub verdict : begun ≡ true ↔ IsBegun told.opening
    pub asked : List AskedEffect
    pub asks : asked_in asked ≡ asked_of life.lines.items told.replies.items
    pub left : ModelDisk
    pub leaves : IsNextDisk model end left
    pub restarts : AreRestarts life.options asked stops left (counted begun old) new
