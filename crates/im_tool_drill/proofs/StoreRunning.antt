-- Lives of a store, run: one line more, one life more.
use Rattle.std.proofs.Common.{◌≡◌, ℕ, zero, suc, ◌<◌, List, [], ◌∷◌, ◌++◌, length, get_or, Option, None, Some, Result, Ok, Err, IfOk, MatchResult, ◌⊎◌, inl, inr, Bool, false, refl, ap, subst, arith}
use Rattle.std.proofs.lemmas.Bool.{cases_Bool}
use Rattle.im_base_types.specs.declared.fault.Fault.{Fault}
use Rattle.im_base_types.specs.declared.fault.Fault.TheVariants.{Unfinished}
use Rattle.im_base_disk.specs.declared.disk.Disk.{Ghosts}
use Rattle.im_base_model_disk.specs.declared.model_disk.ModelDisk.{ModelDisk}
use Rattle.im_base_model_disk.specs.declared.stop.Stop.{Stop}
use Rattle.im_base_model_disk.specs.Model.{model_calls}
use Rattle.im_base_two_logs.specs.declared.renamed.Renamed.{Renamed}
use Rattle.im_engine.specs.declared.engine.Engine.{Engine}
use Rattle.im_base_types.specs.declared.redo_report.RedoReport.{RedoReport}
use Rattle.im_tool_lines.specs.declared.store_life.StoreLine.{StoreLine}
use Rattle.im_tool_lines.specs.declared.store_life.StoreLine.TheVariants as lines
use Rattle.im_tool_lines.specs.declared.store_life.StoreLife.{StoreLife}
use Rattle.im_tool_lines.specs.declared.store_answers.StoreReply.{StoreReply}
use Rattle.im_tool_lines.specs.declared.store_answers.StoreAnswers.{StoreAnswers}
use Rattle.im_base_types.specs.Changes.{Effect}
use Rattle.im_base_types.specs.Lives.{Shown}
use Rattle.im_theory_machine.specs.View.{View}
use Rattle.im_page_pool.specs.Pool.{page_at}
use Rattle.im_page_writer.specs.Outcome.{fault_of}
use Rattle.im_page.specs.declared.header.Header.{Header}
use Rattle.im_engine.specs.Looking.{Looks, header_of}
use Rattle.im_engine.specs.Kept.{LookKept}
use Rattle.im_engine.specs.Running.{IsLife}
use Rattle.im_tool_lines.specs.declared.store_answers.StoreReply.TheVariants as replies
use Rattle.im_tool_lines.specs.Stops.{HasCome, IsNextDisk}
use Rattle.im_tool_drill.specs.StoreLives.{gate_of}
use Rattle.im_tool_drill.specs.StoreRuns.{AllReport, IsLookRun, IsLineRun, AreLinesRun, IsLifeRun, AreLivesRun}

module _ (d : Ghosts (Renamed ModelDisk)) where
  -- after no reply no line was run
  pub no_line_run : (stop : Option Stop) (all : List StoreLine) (e : Engine (Renamed ModelDisk) d) → AreLinesRun d stop all [] e e
  no_line_run stop [] e = refl
  no_line_run stop (line ∷ all) e = refl

  none_run : (stop : Option Stop) (all : List StoreLine) (old new : Engine (Renamed ModelDisk) d) → AreLinesRun d stop all [] old new → new ≡ old
  none_run stop [] old new same = same
  none_run stop (line ∷ all) old new same = same

  -- one line more
  pub lines_run_push : (stop : Option Stop) (all : List StoreLine) (told : List StoreReply) (i : ℕ) (line : StoreLine) (reply : StoreReply) (first mid new : Engine (Renamed ModelDisk) d) → line ≡ get_or all i line → length told ≡ i → i < length all
      → AreLinesRun d stop all told first mid → IsLineRun d stop line reply mid new → AreLinesRun d stop all (told ++ reply ∷ []) first new
  lines_run_push stop [] told i line reply first mid new is count within run one = absurd (omega arith)
  lines_run_push stop (a ∷ all) [] zero line reply first mid new is count within run one =
      (new, subst (λ (l : StoreLine). IsLineRun d stop l reply first new) is (subst (λ (e : Engine (Renamed ModelDisk) d). IsLineRun d stop line reply e new) run one), no_line_run stop all new)
  lines_run_push stop (a ∷ all) [] (suc i) line reply first mid new is count within run one = absurd (omega arith)
  lines_run_push stop (a ∷ all) (one_told ∷ told) zero line reply first mid new is count within run one = absurd (omega arith)
  lines_run_push stop (a ∷ all) (one_told ∷ told) (suc i) line reply first mid new is count within run one =
      (run.0, run.1, lines_run_push stop all told i line reply run.0 mid new is (omega arith) (omega arith) run.2 one)

  -- no call changes what redo did
  look_reports : (why : Option Fault) (old new : Engine (Renamed ModelDisk) d) → Looks d why old new → new.report ≡ old.report
  look_reports (Some Unfinished) old new looks = ap (λ (e : Engine (Renamed ModelDisk) d). e.report) (looks.unfinished refl).1
  look_reports (Some f) old new looks = elim (cases_Bool old.failed) [ inl failed ↦ ap (λ (e : Engine (Renamed ModelDisk) d). e.report) (looks.same failed) | inr works ↦ (looks.searched works (λ is. cc is)).report ]
  look_reports None old new looks = elim (cases_Bool old.failed) [ inl failed ↦ ap (λ (e : Engine (Renamed ModelDisk) d). e.report) (looks.same failed) | inr works ↦ (looks.searched works (λ is. cc is)).report ]

  line_keeps : (stop : Option Stop) (line : StoreLine) (told : StoreReply) (old new : Engine (Renamed ModelDisk) d) → IsLineRun d stop line told old new → new.report ≡ old.report
  line_keeps stop (lines.Step step) told old new run = run.made.report
  line_keeps stop (lines.Page page) told old new run = look_reports (fault_of run.header) old new run.outcome
  line_keeps stop lines.Calls told old new run = ap (λ (e : Engine (Renamed ModelDisk) d). e.report) run.1
  line_keeps stop lines.Redo told old new run = ap (λ (e : Engine (Renamed ModelDisk) d). e.report) run.1
  line_keeps stop lines.Log told old new run = ap (λ (e : Engine (Renamed ModelDisk) d). e.report) run.1
  line_keeps stop (lines.Changes t) told old new run = ap (λ (e : Engine (Renamed ModelDisk) d). e.report) run.1

  -- a report that a line is told is the engine's
  page_told : (page : ℕ) (report : RedoReport) (header : Result Header Fault) → MatchResult header (λ h. replies.Redo report ≡ replies.Page page h) (λ f. replies.Redo report ≡ replies.Refused f) → ⊥
  page_told page report (Ok h) is = absurd (cc)
  page_told page report (Err f) is = absurd (cc)

  count_told : (report : RedoReport) (count : Result ℕ Fault) → MatchResult count (λ n. replies.Redo report ≡ replies.Changes n) (λ f. replies.Redo report ≡ replies.Refused f) → ⊥
  count_told report (Ok n) is = absurd (cc)
  count_told report (Err f) is = absurd (cc)

  told_report : (stop : Option Stop) (line : StoreLine) (report : RedoReport) (old new : Engine (Renamed ModelDisk) d) → IsLineRun d stop line (replies.Redo report) old new → report ≡ old.report
  told_report stop (lines.Step step) report old new run = by run.says
    where
      by : (HasCome stop new.disk.disk × (replies.Redo report ≡ replies.Stopped)) ⊎ ((HasCome stop new.disk.disk → ⊥) × (replies.Redo report ≡ replies.Step run.reply)) → report ≡ old.report
      by (inl come) = let no = come.1 in absurd (cc)
      by (inr on) = let no = on.1 in absurd (cc)
  told_report stop (lines.Page page) report old new run = by run.says
    where
      by : (HasCome stop new.disk.disk × (replies.Redo report ≡ replies.Stopped)) ⊎ ((HasCome stop new.disk.disk → ⊥) × MatchResult run.header (λ h. replies.Redo report ≡ replies.Page page h) (λ f. replies.Redo report ≡ replies.Refused f)) → report ≡ old.report
      by (inl come) = let no = come.1 in absurd (cc)
      by (inr on) = absurd (page_told page report run.header on.1)
  told_report stop lines.Calls report old new run = let no : replies.Redo report ≡ replies.Calls (model_calls old.disk.disk) = run.0 in absurd (cc)
  told_report stop lines.Log report old new run = let no : replies.Redo report ≡ replies.Log (gate_of d old) = run.0 in absurd (cc)
  told_report stop (lines.Changes t) report old new run = absurd (count_told report run.0.count run.0.says)
  told_report stop lines.Redo report old new run = let is : replies.Redo report ≡ replies.Redo old.report = run.0 in cc

  line_reports : (stop : Option Stop) (line : StoreLine) (told : StoreReply) (others : List StoreReply) (old new : Engine (Renamed ModelDisk) d) → IsLineRun d stop line told old new → AllReport old.report others → AllReport old.report (told ∷ others)
  line_reports stop line (replies.Step reply) others old new run rest = rest
  line_reports stop line (replies.Calls n) others old new run rest = rest
  line_reports stop line (replies.Page page header) others old new run rest = rest
  line_reports stop line (replies.Redo report) others old new run rest = (told_report stop line report old new run, rest)
  line_reports stop line (replies.Log gate) others old new run rest = rest
  line_reports stop line (replies.Changes n) others old new run rest = rest
  line_reports stop line (replies.Refused fault) others old new run rest = rest
  line_reports stop line replies.Stopped others old new run rest = rest

  -- each report that the lines of a life are told is that of the engine with which it began
  pub lines_report : (stop : Option Stop) (all : List StoreLine) (told : List StoreReply) (old new : Engine (Renamed ModelDisk) d) → AreLinesRun d stop all told old new → AllReport old.report told
  lines_report stop [] [] old new run = tt
  lines_report stop (line ∷ rest) [] old new run = tt
  lines_report stop [] (told ∷ others) old new run = absurd run
  lines_report stop (line ∷ rest) (told ∷ others) old new run =
      line_reports stop line told others old run.0 run.1 (subst (λ (r : RedoReport). AllReport r others) (line_keeps stop line told old run.0 run.1) (lines_report stop rest others run.0 new run.2))

  -- the engine was asked what a page is for, and the stop fell into that or did not
  pub look_run : (stop : Option Stop) (page : ℕ) (told : StoreReply) (old new : Engine (Renamed ModelDisk) d) (header : Result Header Fault) → IfOk header (λ h. h ≡ header_of (page_at new.writer.pool page))
      → Looks d (fault_of header) old new → ((before : List Effect) (s : Shown) (v : View) → IsLife d before s v old → LookKept d before s v old new)
      → (HasCome stop new.disk.disk × (told ≡ replies.Stopped)) ⊎ ((HasCome stop new.disk.disk → ⊥) × MatchResult header (λ h. told ≡ replies.Page page h) (λ f. told ≡ replies.Refused f)) → IsLookRun d stop page told old new
  look_run stop page told old new header shows outcome kept says = record { header = header; shows = shows; outcome = outcome; kept = kept; says = says }

  -- an engine that was opened
  pub opened_as : (most : ℕ) (result : Result (Engine (Renamed ModelDisk) d) (Fault × Renamed ModelDisk)) → IfOk result (λ e. (e.failed ≡ false) × (e.txns.rows ≡ []) × (e.locks ≡ []) × (d.failed e.disk ≡ false)) → IfOk result (λ e. e.max_pages ≡ most)
      → IfOk result (λ e. (e.failed ≡ false) × (e.txns.rows ≡ []) × (e.locks ≡ []) × (e.max_pages ≡ most))
  opened_as most (Ok e) opened limit = (opened.0, opened.1, opened.2, limit)
  opened_as most (Err x) opened limit = tt

  -- and whether Commits wait in it
  pub opened_in_group : (group other : Bool) (result : Result (Engine (Renamed ModelDisk) d) (Fault × Renamed ModelDisk)) → IfOk result (λ e. e.txns.group ≡ group) → group ≡ other → IfOk result (λ e. e.txns.group ≡ other)
  opened_in_group group other result opened is = subst (λ (b : Bool). IfOk result (λ e. e.txns.group ≡ b)) is opened

module _ (model : Ghosts ModelDisk) (d : Ghosts (Renamed ModelDisk)) where
  -- one life more
  pub lives_run_push : (some : List StoreLife) (told : List StoreAnswers) (life : StoreLife) (answers : StoreAnswers) (first old left new : ModelDisk) → AreLivesRun model d some told first old
      → IsLifeRun d life answers old left → IsNextDisk model left new → AreLivesRun model d (some ++ life ∷ []) (told ++ answers ∷ []) first new
  lives_run_push [] [] life answers first old left new run one next = (left, new, subst (λ (disk : ModelDisk). IsLifeRun d life answers disk left) run one, next, refl)
  lives_run_push [] (one_told ∷ told) life answers first old left new run one next = absurd run
  lives_run_push (a ∷ some) [] life answers first old left new run one next = absurd run
  lives_run_push (a ∷ some) (one_told ∷ told) life answers first old left new run one next = (run.0, run.1, run.2, run.3, lives_run_push some told life answers run.1 old left new run.4 one next)
