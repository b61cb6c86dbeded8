use Rattle.std.proofs.Common.{◌≡◌, List, ℕ, [], map, Err, refl, sym, ◌∙◌, ap, subst}
use Rattle.im_base_model_disk.specs.contracts.model_disk.ModelDiskDisk.TheImpl.{ghosts}
use Rattle.im_base_disk.specs.Disk.{Files}
use Rattle.im_tool_lines.specs.declared.raw_line.RawLine.{RawLine}
use Rattle.im_tool_lines.specs.declared.life_answers.RawReply.{RawReply}
use Rattle.im_tool_lines.specs.declared.life_answers.Opening.TheVariants as openings
use Rattle.im_tool_lines.specs.Lives.{StandsFor, BatchesSurvive, asked_of, acked_of}
use Rattle.im_tool_lines.specs.Living.{IsLiving}
use Rattle.im_tool_lines.specs.RawRuns.{AreRawLinesRun}
use Rattle.im_tool_lines.proofs.RawRunning.{raw_opening, opened_still}
use Rattle.im_tool_lines.proofs.Stands.{stands_once, survives_none}
use Rattle.im_tool_lines.proofs.Acked.{acked-none}
use Rattle.im_tool_lines.proofs.lives.run_life.Goals as goal

pub returns-in_ok-replies-in-Ok-clause-kept : goal.returns-in_ok-replies-in-Ok-clause-kept
returns-in_ok-replies-in-Ok-clause-kept c before stands files left =
    let found : List (List ℕ) = map (λ batch. batch.items) c.in-Ok._before.items in
    let now : StandsFor (ghosts.seen c.arm.new.disk) before = subst (λ (s : Files). StandsFor s before) (sym c.in_ok-arm.ensures.reads.seen) stands in
    let same : found ≡ before = stands_once (ghosts.seen c.arm.new.disk) found before (c.in-Ok.ensures.found tt) now in
    let s = c.in_ok-replies-in-Ok.ensures.kept before (subst (λ (l : List (List ℕ)). IsLiving ghosts l [] [] c.in-Ok.gate c.open_batches.new.disk) same c.in-Ok.ensures.living) files left in
    (s.0, s.1, subst (λ (l : List RawLine). BatchesSurvive before (asked_of l) (acked_of l c.in_ok-replies-in-Ok.replies.items) s.0) c.deref.ensures.value s.2)

pub returns-in-Err-clause-kept : goal.returns-in-Err-clause-kept
returns-in-Err-clause-kept c before stands files left =
    let now : StandsFor (ghosts.seen c.arm.new.disk) before = subst (λ (s : Files). StandsFor s before) (sym c.in_ok-arm.ensures.reads.seen) stands in (
      before,
      c.open_batches.ensures.leaves tt before now files left,
      subst (λ (l : List RawReply). BatchesSurvive before (asked_of c.args.life.now.lines.items) (acked_of c.args.life.now.lines.items l) before) (sym c.new.ensures.items)
          (subst (λ (l : List (List ℕ)). BatchesSurvive before (asked_of c.args.life.now.lines.items) l before) (sym (acked-none c.args.life.now.lines.items)) (survives_none before (asked_of c.args.life.now.lines.items))),
    )

pub returns-in_ok-replies-in-Ok-clause-run : goal.returns-in_ok-replies-in-Ok-clause-run
returns-in_ok-replies-in-Ok-clause-run c =
    let e = c.open_batches.ensures in
    let run = c.in_ok-replies-in-Ok.ensures.run in
    record {
      armed = c.arm.new.disk;
      arms = c.in_ok-arm.ensures.armed;
      result = c.open_batches.result;
      mid = c.open_batches.new.disk;
      opening = raw_opening ghosts c.arm.new.disk c.open_batches.new.disk c.open_batches.result tt e.found e.refused e.device e.causes;
      answers = rw c.in-Ok.is (
        ap (λ (n : ℕ). openings.Open n) c.calls.ensures,
        run.0,
        subst (λ (l : List RawLine). AreRawLinesRun ghosts c.args.life.now.stop l c.in_ok-replies-in-Ok.replies.items c.in-Ok.gate run.0 c.open_batches.new.disk c.run_lines.new.disk) c.deref.ensures.value run.1,
      );
    }

pub returns-in-Err-clause-run : goal.returns-in-Err-clause-run
returns-in-Err-clause-run c =
    let e = c.open_batches.ensures in
    record {
      armed = c.arm.new.disk;
      arms = c.in_ok-arm.ensures.armed;
      result = c.open_batches.result;
      mid = c.open_batches.new.disk;
      opening = raw_opening ghosts c.arm.new.disk c.open_batches.new.disk c.open_batches.result tt e.found e.refused e.device e.causes;
      answers = rw c.in-Err.is (c.refused_opening.ensures, c.new.ensures.items, refl);
    }

pub returns-in-Err-clause-opened : goal.returns-in-Err-clause-opened
returns-in-Err-clause-opened c before stands =
    let now : StandsFor (ghosts.seen c.arm.new.disk) before = subst (λ (s : Files). StandsFor s before) (sym c.in_ok-arm.ensures.reads.seen) stands in
    opened_still c.args.life.now.stop c.open_batches.new.disk c.refused_opening.result c.in-Err.fault (λ is. c.open_batches.ensures.refused (c.in-Err.is ∙ ap Err is) tt before now) c.refused_opening.ensures
