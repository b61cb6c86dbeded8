use Rattle.std.proofs.lemmas.Grind.{common_steps}
use Rattle.std.proofs.lemmas.List.{take_more}
use Rattle.std.proofs.Common.{inl, inr, ◌≡◌, List, ℕ, ◌+◌, [], ◌∷◌, ◌++◌, length, take, sym, ◌∙◌, ap, subst, arith, length-append}
use Rattle.im_base_model_disk.specs.contracts.model_disk.ModelDiskDisk.TheImpl.{ghosts}
use Rattle.im_tool_lines.specs.declared.life_answers.RawReply.{RawReply}
use Rattle.im_tool_lines.specs.Lives.{asked_of, acked_of}
use Rattle.im_tool_lines.specs.Living.{IsLiving}
use Rattle.im_tool_lines.specs.declared.raw_line.RawLine.{RawLine}
use Rattle.im_tool_lines.specs.declared.life_answers.RawReply.TheVariants as replies
use Rattle.im_tool_lines.specs.Answered.{IsRawReply, Replied}
use Rattle.im_tool_lines.proofs.Replied.{replied_push}
use Rattle.im_tool_lines.specs.RawRuns.{AreRawLinesRun}
use Rattle.im_tool_lines.proofs.RawRunning.{no_raw_line_run, raw_lines_run_push}
use Rattle.im_tool_lines.proofs.Acked.{one_more_line, whole_life}
use Rattle.im_tool_lines.proofs.lives.run_lines.Goals as goal

pub loop-line-init : goal.loop-line-init
loop-line-init c = record {
  run = subst (λ (l : List RawReply). AreRawLinesRun ghosts c.args.stop.now c.args.lines.now l c.args.gate.now c.args.gate.now c.args.disk.now c.args.disk.now) (sym c.new-replies.ensures.items)
      (no_raw_line_run ghosts c.args.stop.now c.args.lines.now c.args.gate.now c.args.disk.now);
  ready = c.requires;
  replied = subst (λ (l : List RawReply). Replied [] l) (sym c.new-replies.ensures.items) tt;
  count = ap length c.new-replies.ensures.items;
  living = λ before living. subst (λ (l : List RawReply). IsLiving ghosts before [] (acked_of [] l) c.args.gate.now c.args.disk.now) (sym c.new-replies.ensures.items) living;
}

pub loop-line-preserved : goal.loop-line-preserved
loop-line-preserved c = record {
  run = subst (λ (l : List RawReply). AreRawLinesRun ghosts c.args.stop.now c.args.lines.now l c.args.gate.now c.run_line-reply.new.gate c.args.disk.now c.run_line-reply.new.disk) (sym c.in_ok-push.ensures.items)
      (raw_lines_run_push ghosts c.args.stop.now c.args.lines.now c.loop-line.replies.items c.loop-line.line-index c.line-item.result c.run_line-reply.result c.args.gate.now c.loop-line.gate c.run_line-reply.new.gate c.args.disk.now c.loop-line.disk
      c.run_line-reply.new.disk c.line-item.is c.loop-line.invariant.count c.loop-line-test.true c.loop-line.invariant.run c.run_line-reply.ensures.run);
  ready = c.run_line-reply.ensures.ready;
  replied =
      let some : ¬ (c.run_line-reply.result ≡ replies.Stopped) = grind (arith, common_steps) in
      let fits : IsRawReply c.line-item.result c.run_line-reply.result = elim c.run_line-reply.ensures.fits [ inl e ↦ absurd (some e) | inr is ↦ is ] in
      let more : take (c.loop-line.line-index + 1) c.args.lines.now ≡ take c.loop-line.line-index c.args.lines.now ++ c.line-item.result ∷ [] =
      take_more c.args.lines.now c.loop-line.line-index c.line-item.result c.loop-line-test.true ∙ ap (λ (l : RawLine). take c.loop-line.line-index c.args.lines.now ++ l ∷ []) (sym c.line-item.is) in
      subst (λ (l : List RawLine). Replied l c.push.new.self.items) (sym more)
      (subst (λ (l : List RawReply). Replied (take c.loop-line.line-index c.args.lines.now ++ c.line-item.result ∷ []) l) (sym c.in_ok-push.ensures.items)
      (replied_push IsRawReply (take c.loop-line.line-index c.args.lines.now) c.loop-line.replies.items c.line-item.result c.run_line-reply.result c.loop-line.invariant.replied fits));
  count = ap length c.in_ok-push.ensures.items ∙ length-append c.loop-line.replies.items (c.run_line-reply.result ∷ []) ∙ ap (λ (n : ℕ). n + 1) c.loop-line.invariant.count;
  living = λ before living.
      subst (λ (l : List RawReply). IsLiving ghosts before (asked_of (take (c.loop-line.line-index + 1) c.args.lines.now)) (acked_of (take (c.loop-line.line-index + 1) c.args.lines.now) l) c.run_line-reply.new.gate c.run_line-reply.new.disk) (sym c.in_ok-push.ensures.items)
      (one_more_line (λ a k. IsLiving ghosts before a k c.run_line-reply.new.gate c.run_line-reply.new.disk) c.args.lines.now c.loop-line.line-index c.loop-line.replies.items c.line-item.result c.run_line-reply.result c.line-item.is c.loop-line.invariant.count c.loop-line-test.true
      (c.run_line-reply.ensures.living before (asked_of (take c.loop-line.line-index c.args.lines.now)) (acked_of (take c.loop-line.line-index c.args.lines.now) c.loop-line.replies.items) (c.loop-line.invariant.living before living)));
}

pub returns-then-eq-clause-run : goal.returns-then-eq-clause-run
returns-then-eq-clause-run c = (
  c.run_line-reply.new.gate,
  subst (λ (l : List RawReply). AreRawLinesRun ghosts c.args.stop.now c.args.lines.now l c.args.gate.now c.run_line-reply.new.gate c.args.disk.now c.run_line-reply.new.disk) (sym c.in_ok-push.ensures.items)
      (raw_lines_run_push ghosts c.args.stop.now c.args.lines.now c.loop-line.replies.items c.loop-line.line-index c.line-item.result c.run_line-reply.result c.args.gate.now c.loop-line.gate c.run_line-reply.new.gate c.args.disk.now c.loop-line.disk
      c.run_line-reply.new.disk c.line-item.is c.loop-line.invariant.count c.loop-line-test.true c.loop-line.invariant.run c.run_line-reply.ensures.run),
)

pub returns-then-eq-clause-kept : goal.returns-then-eq-clause-kept
returns-then-eq-clause-kept c before living files left =
    let count : length c.push.new.self.items ≡ c.loop-line.line-index + 1 = ap length c.in_ok-push.ensures.items ∙ length-append c.loop-line.replies.items (c.run_line-reply.result ∷ []) ∙ ap (λ (n : ℕ). n + 1) c.loop-line.invariant.count in
    let now : IsLiving ghosts before (asked_of (take (c.loop-line.line-index + 1) c.args.lines.now)) (acked_of (take (c.loop-line.line-index + 1) c.args.lines.now) c.push.new.self.items) c.run_line-reply.new.gate c.run_line-reply.new.disk =
    subst (λ (l : List RawReply). IsLiving ghosts before (asked_of (take (c.loop-line.line-index + 1) c.args.lines.now)) (acked_of (take (c.loop-line.line-index + 1) c.args.lines.now) l) c.run_line-reply.new.gate c.run_line-reply.new.disk) (sym c.in_ok-push.ensures.items)
    (one_more_line (λ a k. IsLiving ghosts before a k c.run_line-reply.new.gate c.run_line-reply.new.disk) c.args.lines.now c.loop-line.line-index c.loop-line.replies.items c.line-item.result c.run_line-reply.result c.line-item.is c.loop-line.invariant.count c.loop-line-test.true
    (c.run_line-reply.ensures.living before (asked_of (take c.loop-line.line-index c.args.lines.now)) (acked_of (take c.loop-line.line-index c.args.lines.now) c.loop-line.replies.items) (c.loop-line.invariant.living before living))) in
    let s = now.leaves tt files left in
    (s.0, s.1, whole_life c.args.lines.now c.push.new.self.items (c.loop-line.line-index + 1) count (omega arith) before s.0 s.2)

pub returns-then-eq-clause-answered : goal.returns-then-eq-clause-answered
returns-then-eq-clause-answered c =
    let stopped : c.run_line-reply.result ≡ replies.Stopped = grind (arith, common_steps) in
    inr (record {
      line = c.loop-line.line-index;
      front = c.loop-line.replies.items;
      within = c.loop-line-test.true;
      replied = c.loop-line.invariant.replied;
      is = c.in_ok-push.ensures.items ∙ ap (λ (reply : RawReply). c.loop-line.replies.items ++ reply ∷ []) stopped;
    })
