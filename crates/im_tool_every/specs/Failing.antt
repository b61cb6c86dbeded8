-- Lives in which a device call fails, or a read.
use Rattle.std.specs.Prelude.{◌≡◌, ◌↔◌, ◌⊎◌, ◌≤◌, ◌+◌, min, ℕ, Bool, true, false, List, [], ◌∷◌, Option, Some, None, Result, Ok, Err, IfOk}
use Rattle.std.specs.Global.{Vec}
use Rattle.im_base_types.specs.declared.fault.Fault.{Fault}
use Rattle.im_base_disk.specs.declared.disk.Disk.{Ghosts}
use Rattle.im_base_model_disk.specs.declared.model_disk.ModelDisk.{ModelDisk}
use Rattle.im_base_model_disk.specs.declared.stop.Stop.{Stop}
use Rattle.im_base_model_disk.specs.Model.{model_calls, model_reads}
use Rattle.im_base_two_logs.specs.declared.renamed.Renamed.{Renamed}
use Rattle.im_tool_lines.specs.declared.store_answers.StoreAnswers.{StoreAnswers}
use Rattle.im_tool_lines.specs.declared.store_life.LifeOptions.{LifeOptions}
use Rattle.im_tool_lines.specs.declared.store_life.StoreLife.{StoreLife}
use Rattle.im_tool_lines.specs.declared.store_life.StoreLine.{StoreLine}
use Rattle.im_tool_lines.specs.Stops.{IsNextDisk}
use Rattle.im_tool_drill.specs.StoreRuns.{no_options, IsLifeRun}
use Rattle.im_tool_judge.specs.declared.change.AskedEffect.{AskedEffect}
use Rattle.im_tool_judge.specs.Disturbed.{IsDisturbed}
use Rattle.im_tool_judge.specs.Judged.{asked_in}
use Rattle.im_tool_every.specs.declared.every.Counts.{Counts}
use Rattle.im_tool_every.specs.declared.start.Start.{Start}
use Rattle.im_tool_every.specs.declared.ways.Stops.TheVariants.{EachCall}
use Rattle.im_tool_every.specs.declared.ways.Way.{Way}
use Rattle.im_tool_every.specs.Counted.{counted, none_counted, one_stop, AreCalls, AreInTurn, IsJudgedIn}
use Rattle.im_tool_every.specs.Opened.{IsBegun}
use Rattle.im_tool_every.specs.Stopped.{ways_of, IsStopAt}
use Rattle.im_tool_every.specs.Swept.{asked_of, begun_with}

-- The call or the read of this number is one of the first so many.
abbrev pub IsMade : Option ℕ → ℕ → Type 0
IsMade None made = ⊥
IsMade (Some number) made = number ≤ made

-- The call that shall fail was made, or the read.
abbrev pub HasFailed : LifeOptions → ModelDisk → Type 0
HasFailed options disk = IsMade options.failing_call (model_calls disk) ⊎ IsMade options.failing_read (model_reads disk)

-- the options of a life in which this call fails, or this read
abbrev pub failing : LifeOptions → Option ℕ → Option ℕ → LifeOptions
failing o call read =
    record { frames = o.frames; max_pages = o.max_pages; failing_call = call; failing_read = read; stepped = o.stepped; group = o.group; dense = o.dense; workers = o.workers }

-- the counts of lives, and of the openings after them
abbrev pub with_later : Counts → Counts → Counts
with_later lives later = record { stops = lives.stops; restarts = later.stops; bad = min (lives.bad + later.bad) 18446744073709551615 }

-- The same lines, and the same options, in which this call is to fail, or this read.
pub record IsSetTo (call read : Option ℕ) (old new : StoreLife) : Type 0 where
  pub options : new.options ≡ failing old.options call read
  pub lines : new.lines ≡ old.lines

-- The same lines, and the same options but for what fails.
pub record IsLikeLife (old new : StoreLife) : Type 0 where
  pub options : failing new.options None None ≡ failing old.options None None
  pub lines : new.lines ≡ old.lines

module _ (model : Ghosts ModelDisk) (d : Ghosts (Renamed ModelDisk)) where
  -- A life that begins with this was made, and ended in this way: its answers were judged by those of the undisturbed one, and so was what it left.
  pub record IsFailure (start : Start) (options : LifeOptions) (lines : Vec StoreLine) (plain : StoreAnswers) (way : Way) (old new : Counts) : Type 0 where
    pub stop : Stop
    pub is_at : IsStopAt 0 way stop
    pub disk : ModelDisk
    pub begins : IsNextDisk model start.disk disk
    pub told : StoreAnswers
    pub end : ModelDisk
    pub run : IsLifeRun d (record { options = options; lines = lines; stop = Some stop }) told disk end
    pub fails : Bool
    pub failed : fails ≡ true ↔ HasFailed options end
    pub good : Bool
    pub verdict : good ≡ true ↔ IsDisturbed fails plain told
    pub asked : List AskedEffect
    pub asks : asked_in asked ≡ begun_with start.entries.items ∷ asked_of lines.items told.replies.items
    pub left : ModelDisk
    pub leaves : IsNextDisk model end left
    pub calls : ℕ
    pub judged : IsJudgedIn model d options asked left calls (counted good (one_stop old)) new

  -- in each way
  abbrev pub AreFailures : Start → LifeOptions → Vec StoreLine → StoreAnswers → Counts → Counts → Type 0
  AreFailures start options lines plain old new = AreInTurn (λ way. IsFailure start options lines plain way) (ways_of EachCall) old new

  -- while the device call of this number fails
  abbrev pub AreCallFailures : Start → LifeOptions → Vec StoreLine → StoreAnswers → ℕ → Counts → Counts → Type 0
  AreCallFailures start options lines plain n old new = AreFailures start (failing options (Some n) None) lines plain old new

  -- while the read or length call of this number does
  abbrev pub AreReadFailures : Start → LifeOptions → Vec StoreLine → StoreAnswers → ℕ → Counts → Counts → Type 0
  AreReadFailures start options lines plain n old new = AreFailures start (failing options None (Some n)) lines plain old new

  -- A life that begins with this was made, in which nothing fails, with these answers.
  pub record IsUndisturbed (start : Start) (options : LifeOptions) (lines : Vec StoreLine) (plain : StoreAnswers) (end : ModelDisk) : Type 0 where
    pub disk : ModelDisk
    pub begins : IsNextDisk model start.disk disk
    pub run : IsLifeRun d (record { options = failing options None None; lines = lines; stop = None }) plain disk end

  -- A life that begins with this was made undisturbed; then each of the device calls that it made failed in turn, and each read; and then none did.
  pub record AreAllFailures (start : Start) (options : LifeOptions) (lines : Vec StoreLine) (old new : Counts) : Type 0 where
    pub plain : StoreAnswers
    pub end : ModelDisk
    pub made : IsUndisturbed start options lines plain end
    pub begun : Bool
    pub verdict : begun ≡ true ↔ IsBegun plain.opening
    pub called : Counts
    pub calls : AreCalls (AreCallFailures start options lines plain) (model_calls end) (counted begun old) called
    pub read : Counts
    pub reads : AreCalls (AreReadFailures start options lines plain) (model_reads end) called read
    pub none : AreFailures start (failing options None None) lines plain read new

  -- A life that begins with this was made as it stands, and what it left was judged, and begins the next one, where it can be opened.
  pub record IsAfter (start : Start) (life : StoreLife) (next : Result Start Fault) (old new : Counts) : Type 0 where
    pub disk : ModelDisk
    pub begins : IsNextDisk model start.disk disk
    pub told : StoreAnswers
    pub end : ModelDisk
    pub run : IsLifeRun d life told disk end
    pub asked : List AskedEffect
    pub asks : asked_in asked ≡ begun_with start.entries.items ∷ asked_of life.lines.items told.replies.items
    pub left : ModelDisk
    pub leaves : IsNextDisk model end left
    pub calls : ℕ
    pub judged : IsJudgedIn model d no_options asked left calls old new
    pub goes_on : IfOk next (λ n. n.disk ≡ left)

  -- The calls of an opening that begins with this failed in turn; it is bad where nothing can be opened.
  abbrev pub IsOpeningFailed : LifeOptions → Result Start Fault → Counts → Counts → Type 0
  IsOpeningFailed options (Ok next) old new = (lines : Vec StoreLine) × (lines.items ≡ []) × AreAllFailures next options lines old new
  IsOpeningFailed options (Err fault) old new = new ≡ counted false old

  -- A life that begins with this ended in this way, and then each call of an opening of what it left failed in turn.
  pub record IsLater (start : Start) (options : LifeOptions) (lines : Vec StoreLine) (way : Way) (old new : Counts) : Type 0 where
    pub stop : Stop
    pub is_at : IsStopAt 0 way stop
    pub next : Result Start Fault
    pub mid : Counts
    pub after : IsAfter start (record { options = options; lines = lines; stop = Some stop }) next old mid
    pub opened : IsOpeningFailed options next mid new

  -- in each way
  abbrev pub AreLater : Start → LifeOptions → Vec StoreLine → Counts → Counts → Type 0
  AreLater start options lines old new = AreInTurn (λ way. IsLater start options lines way) (ways_of EachCall) old new

  -- Each call of a life that begins with this failed in turn, and each call of an opening after it, in each way in which the life ends: so many lives
  -- there were, so many openings, and so many of the verdicts on all of them were bad.
  pub record IsEveryFailure (start : Start) (life : StoreLife) (counts : Counts) : Type 0 where
    pub lives : Counts
    pub failed : AreAllFailures start life.options life.lines none_counted lives
    pub later : Counts
    pub after : AreLater start (failing life.options None None) life.lines none_counted later
    pub both : counts ≡ with_later lives later
