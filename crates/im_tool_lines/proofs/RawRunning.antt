-- Lives over the gate alone, run: one line more, one life more.
use Rattle.std.proofs.Common.{◌≡◌, ◌≢◌, ℕ, zero, suc, ◌<◌, true, List, [], ◌∷◌, ◌++◌, length, get_or, Option, Result, Ok, Err, IfOk, IfErr, map, Vec, Global, ◌⊎◌, ◌↔◌, inl, inr, refl, sym, ◌∙◌, subst, arith}
use Rattle.im_base_types.specs.declared.fault.Fault.{Fault}
use Rattle.im_base_types.specs.declared.fault.Fault.TheVariants.{Memory, Device, NotAStore}
use Rattle.im_base_disk.specs.declared.disk.Disk.{Ghosts}
use Rattle.im_base_model_disk.specs.declared.model_disk.ModelDisk.{ModelDisk}
use Rattle.im_base_model_disk.specs.declared.stop.Stop.{Stop}
use Rattle.im_log_gate.specs.declared.gate.Gate.{Gate}
use Rattle.im_tool_lines.specs.declared.raw_line.RawLine.{RawLine}
use Rattle.im_tool_lines.specs.declared.raw_life.RawLife.{RawLife}
use Rattle.im_tool_lines.specs.declared.life_answers.Opening.{Opening}
use Rattle.im_tool_lines.specs.declared.life_answers.Opening.TheVariants as openings
use Rattle.im_tool_lines.specs.declared.life_answers.RawReply.{RawReply}
use Rattle.im_tool_lines.specs.declared.life_answers.LifeAnswers.{LifeAnswers}
use Rattle.im_tool_lines.specs.Lives.{StandsFor}
use Rattle.im_tool_lines.specs.Answered.{AreRawStores}
use Rattle.im_tool_lines.specs.Stops.{IsNextDisk, IsOpenedOr}
use Rattle.im_tool_lines.specs.RawRuns.{IsRawLineRun, AreRawLinesRun, IsRawOpening, IsRawLastRun, IsRawLifeRun, AreRawLivesRun}

-- one opening more that did not say that the files are no store
pub raw_stores_push : (told : List LifeAnswers) (answers : LifeAnswers) → AreRawStores told → answers.opening ≢ openings.Refused NotAStore → AreRawStores (told ++ answers ∷ [])
raw_stores_push [] answers s is = (is, tt)
raw_stores_push (one ∷ told) answers s is = (s.0, raw_stores_push told answers s.1 is)

-- an opening that was stopped, or refused for another cause
pub opened_still : (stop : Option Stop) (disk : ModelDisk) (opening : Opening) (fault : Fault) → fault ≢ NotAStore → IsOpenedOr stop disk opening fault → opening ≢ openings.Refused NotAStore
opened_still stop disk opening fault other (inl s) is = let said : openings.Stopped ≡ openings.Refused NotAStore = sym s.1 ∙ is in absurd (cc)
opened_still stop disk opening fault other (inr s) is = let said : openings.Refused fault ≡ openings.Refused NotAStore = sym s.1 ∙ is in other (cc)

module _ (d : Ghosts ModelDisk) where
  -- after no reply no line was run
  pub no_raw_line_run : (stop : Option Stop) (all : List RawLine) (gate : Gate) (disk : ModelDisk) → AreRawLinesRun d stop all [] gate gate disk disk
  no_raw_line_run stop [] gate disk = (refl, refl)
  no_raw_line_run stop (line ∷ all) gate disk = (refl, refl)

  -- one line more
  pub raw_lines_run_push : (stop : Option Stop) (all : List RawLine) (told : List RawReply) (i : ℕ) (line : RawLine) (reply : RawReply) (first between last : Gate) (old mid new : ModelDisk) → line ≡ get_or all i line → length told ≡ i → i < length all
      → AreRawLinesRun d stop all told first between old mid → IsRawLineRun d stop line reply between last mid new → AreRawLinesRun d stop all (told ++ reply ∷ []) first last old new
  raw_lines_run_push stop [] told i line reply first between last old mid new is count within run one = absurd (omega arith)
  raw_lines_run_push stop (a ∷ all) [] zero line reply first between last old mid new is count within run one = (
    last,
    new,
    subst (λ (l : RawLine). IsRawLineRun d stop l reply first last old new) is
        (subst (λ (gate : Gate). IsRawLineRun d stop line reply gate last old new) run.0 (subst (λ (disk : ModelDisk). IsRawLineRun d stop line reply between last disk new) run.1 one)),
    no_raw_line_run stop all last new,
  )
  raw_lines_run_push stop (a ∷ all) [] (suc i) line reply first between last old mid new is count within run one = absurd (omega arith)
  raw_lines_run_push stop (a ∷ all) (one_told ∷ told) zero line reply first between last old mid new is count within run one = absurd (omega arith)
  raw_lines_run_push stop (a ∷ all) (one_told ∷ told) (suc i) line reply first between last old mid new is count within run one =
      (run.0, run.1, run.2, raw_lines_run_push stop all told i line reply run.0 between last run.1 mid new is (omega arith) (omega arith) run.3 one)

  -- one life more
  pub raw_lives_run_push : (some : List RawLife) (told : List LifeAnswers) (life : RawLife) (answers : LifeAnswers) (first old left new : ModelDisk) → AreRawLivesRun d some told first old
      → IsRawLifeRun d life answers old left → IsNextDisk d left new → AreRawLivesRun d (some ++ life ∷ []) (told ++ answers ∷ []) first new
  raw_lives_run_push [] [] life answers first old left new run one next = (left, new, subst (λ (disk : ModelDisk). IsRawLifeRun d life answers disk left) run one, next, refl)
  raw_lives_run_push [] (one_told ∷ told) life answers first old left new run one next = absurd run
  raw_lives_run_push (a ∷ some) [] life answers first old left new run one next = absurd run
  raw_lives_run_push (a ∷ some) (one_told ∷ told) life answers first old left new run one next = (run.0, run.1, run.2, run.3, raw_lives_run_push some told life answers run.1 old left new run.4 one next)

  -- what an opening promises of a disk that tells its bytes
  pub raw_opening : (old new : ModelDisk) (result : Result (Gate × Vec (Vec ℕ Global) Global) Fault) → d.tells → IfOk result (λ opened. d.tells → StandsFor (d.seen old) (map (λ batch. batch.items) opened.1.items))
      → (result ≡ Err NotAStore → d.tells → (found : List (List ℕ)) → ¬ (StandsFor (d.seen old) found)) → result ≡ Err Device ↔ (d.failed new ≡ true)
      → IfErr result (λ f. (f ≡ Memory) ⊎ (f ≡ Device) ⊎ (f ≡ NotAStore)) → IsRawOpening d old result new
  raw_opening old new (Ok opened) told found refused device causes = record { found = found told; refused = λ is. refused is told; device = device; causes = causes }
  raw_opening old new (Err fault) told found refused device causes = record { found = tt; refused = λ is. refused is told; device = device; causes = causes }

  -- what the last opening found, and why it found nothing
  pub raw_last_ok : (old new : ModelDisk) (result : Result (Gate × Vec (Vec ℕ Global) Global) Fault) (gate : Gate) (batches : Vec (Vec ℕ Global) Global) → result ≡ Ok (gate, batches) → IsRawOpening d old result new → IsRawLastRun d old (Ok batches)
  raw_last_ok old new result gate batches is opening = record { result = Ok (gate, batches); new = new; opening = subst (λ (r : Result (Gate × Vec (Vec ℕ Global) Global) Fault). IsRawOpening d old r new) is opening; found = refl }

  pub raw_last_err : (old new : ModelDisk) (result : Result (Gate × Vec (Vec ℕ Global) Global) Fault) (fault : Fault) → result ≡ Err fault → IsRawOpening d old result new → IsRawLastRun d old (Err fault)
  raw_last_err old new result fault is opening = record { result = Err fault; new = new; opening = subst (λ (r : Result (Gate × Vec (Vec ℕ Global) Global) Fault). IsRawOpening d old r new) is opening; found = refl }
