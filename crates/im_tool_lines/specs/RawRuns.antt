-- Lives over the gate alone, as gates run them: which calls the answers come from, and on which disks.
use Rattle.std.specs.Prelude.{◌≡◌, ◌⊎◌, ◌↔◌, ◌+◌, ◌<◌, ◌^◌, ℕ, true, false, List, [], ◌∷◌, map, length, Option, Result, Ok, Err, IfOk, IfErr}
use Rattle.std.specs.Global.{Vec}
use Rattle.im_base_types.specs.declared.fault.Fault.{Fault}
use Rattle.im_base_types.specs.declared.fault.Fault.TheVariants.{Memory, Device, LogFull, NotAStore, Failed}
use Rattle.im_base_disk.specs.declared.disk.Disk.{Ghosts}
use Rattle.im_base_model_disk.specs.declared.model_disk.ModelDisk.{ModelDisk}
use Rattle.im_base_model_disk.specs.declared.stop.Stop.{Stop}
use Rattle.im_base_disk.specs.Disk.{three}
use Rattle.im_base_model_disk.specs.Model.{IsFresh, model_calls}
use Rattle.im_log_gate.specs.declared.gate.Gate.{Gate}
use Rattle.im_log_gate.specs.Batches.{with_batch}
use Rattle.im_log_gate.specs.Gate.{logged, place_of, has_failed}
use Rattle.im_tool_lines.specs.declared.answers.Drilled.{Drilled}
use Rattle.im_tool_lines.specs.declared.life_answers.Opening.TheVariants as openings
use Rattle.im_tool_lines.specs.declared.life_answers.LifeAnswers.{LifeAnswers}
use Rattle.im_tool_lines.specs.declared.life_answers.RawReply.{RawReply}
use Rattle.im_tool_lines.specs.declared.life_answers.RawReply.TheVariants as replies
use Rattle.im_tool_lines.specs.declared.raw_life.RawLife.{RawLife}
use Rattle.im_tool_lines.specs.declared.raw_line.RawLine.{RawLine}
use Rattle.im_tool_lines.specs.declared.raw_line.RawLine.TheVariants as lines
use Rattle.im_tool_lines.specs.declared.script.Script.{Script}
use Rattle.im_tool_lines.specs.Lives.{StandsFor}
use Rattle.im_tool_lines.specs.Stops.{IsArmedWith, HasCome, IsNextDisk, IsOpenedOr}

module _ (d : Ghosts ModelDisk) where
  -- Why a put is refused: an earlier call of the gate was, the log's places are used up, or the disk failed.
  abbrev pub IsPutCause : ℕ → Gate → ModelDisk → Fault → Type 0
  IsPutCause size gate new fault =
      ((fault ≡ Failed) × (has_failed gate ≡ true)) ⊎ ((fault ≡ LogFull) × (2 ^ 62 < place_of gate + 5 + size)) ⊎ ((fault ≡ Device) × (d.failed new ≡ true))

  -- The gate was asked to put a batch: it is in the log where that is told, and else the stop fell into it, or it was refused for a cause.
  pub record IsPutRun (stop : Option Stop) (batch : List ℕ) (told : RawReply) (gate next : Gate) (old new : ModelDisk) : Type 0 where
    pub put : told ≡ replies.Put ↔ (has_failed next ≡ false)
    pub logs : told ≡ replies.Put → logged d next new ≡ with_batch batch (logged d gate old)
    pub stopped : told ≡ replies.Stopped ↔ ((has_failed next ≡ true) × HasCome stop new)
    pub refused : (f : Fault) → told ≡ replies.Refused f → IsPutCause (length batch) gate new f

  -- A line was run. `calls` counts the device calls so far.
  abbrev pub IsRawLineRun : Option Stop → RawLine → RawReply → Gate → Gate → ModelDisk → ModelDisk → Type 0
  IsRawLineRun stop (lines.Put batch) told gate next old new = IsPutRun stop batch.records.items told gate next old new
  IsRawLineRun stop lines.Calls told gate next old new = (told ≡ replies.Calls (model_calls old)) × (next ≡ gate) × (new ≡ old)

  -- The lines that have replies were run in turn, each by the gate and on the disk that the one before it left.
  abbrev pub AreRawLinesRun : Option Stop → List RawLine → List RawReply → Gate → Gate → ModelDisk → ModelDisk → Type 0
  AreRawLinesRun stop [] [] gate next old new = (next ≡ gate) × (new ≡ old)
  AreRawLinesRun stop (line ∷ rest) [] gate next old new = (next ≡ gate) × (new ≡ old)
  AreRawLinesRun stop (line ∷ rest) (told ∷ others) gate next old new =
      (between : Gate) × (mid : ModelDisk) × IsRawLineRun stop line told gate between old mid × AreRawLinesRun stop rest others between next mid new
  AreRawLinesRun stop [] (told ∷ others) gate next old new = ⊥

  -- What an opening answers: the batches for which the files stand, or why not. They are no store only where they stand for none.
  pub record IsRawOpening (old : ModelDisk) (result : Result (Gate × Vec (Vec ℕ)) Fault) (new : ModelDisk) : Type 0 where
    pub found : IfOk result (λ opened. StandsFor (d.seen old) (map (λ batch. batch.items) opened.1.items))
    pub refused : result ≡ Err NotAStore → (found : List (List ℕ)) → ¬ (StandsFor (d.seen old) found)
    pub device : result ≡ Err Device ↔ (d.failed new ≡ true)
    pub causes : IfErr result (λ f. (f ≡ Memory) ⊎ (f ≡ Device) ⊎ (f ≡ NotAStore))

  -- The answers of a life whose opening came out so, and left this disk.
  abbrev pub AreRawAnswersOf : Option Stop → List RawLine → LifeAnswers → ModelDisk → ModelDisk → Result (Gate × Vec (Vec ℕ)) Fault → Type 0
  AreRawAnswersOf stop all told mid new (Ok opened) = (told.opening ≡ openings.Open (model_calls mid)) × (last : Gate) × AreRawLinesRun stop all told.replies.items opened.0 last mid new
  AreRawAnswersOf stop all told mid new (Err fault) = IsOpenedOr stop mid told.opening fault × (told.replies.items ≡ []) × (new ≡ mid)

  -- A life was run: its stop was armed, the log was opened, and the gate made the lines.
  pub record IsRawLifeRun (life : RawLife) (told : LifeAnswers) (old new : ModelDisk) : Type 0 where
    pub armed : ModelDisk
    pub arms : IsArmedWith life.stop old armed
    pub result : Result (Gate × Vec (Vec ℕ)) Fault
    pub mid : ModelDisk
    pub opening : IsRawOpening armed result mid
    pub answers : AreRawAnswersOf life.stop life.lines.items told mid new result

  -- The lives were run in turn, each on what the stop of the one before it left.
  abbrev pub AreRawLivesRun : List RawLife → List LifeAnswers → ModelDisk → ModelDisk → Type 0
  AreRawLivesRun [] [] old new = new ≡ old
  AreRawLivesRun (life ∷ rest) (told ∷ others) old new = (left : ModelDisk) × (next : ModelDisk) × IsRawLifeRun life told old left × IsNextDisk d left next × AreRawLivesRun rest others next new
  AreRawLivesRun _ _ old new = ⊥

  -- What the last opening finds, or why it finds nothing.
  abbrev pub IsRawLast : Result (Vec (Vec ℕ)) Fault → Result (Gate × Vec (Vec ℕ)) Fault → Type 0
  IsRawLast last (Ok opened) = last ≡ Ok opened.1
  IsRawLast last (Err fault) = last ≡ Err fault

  -- The last opening was made on this disk.
  pub record IsRawLastRun (old : ModelDisk) (last : Result (Vec (Vec ℕ)) Fault) : Type 0 where
    pub result : Result (Gate × Vec (Vec ℕ)) Fault
    pub new : ModelDisk
    pub opening : IsRawOpening old result new
    pub found : IsRawLast last result

  -- The lives of a script were run on a disk that begins with the script's files, and then one opening more.
  pub record IsRawRun (script : Script) (told : Drilled) : Type 0 where
    pub first : ModelDisk
    pub fresh : IsFresh first
    pub seen : d.seen first ≡ three script.log.items script.pages.items script.log2.items
    pub end : ModelDisk
    pub lives : AreRawLivesRun script.lives.items told.lives.items first end
    pub last : IsRawLastRun end told.last
