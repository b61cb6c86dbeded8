use Rattle.std.proofs.lemmas.List.{take_more}
use Rattle.std.proofs.Common.{inl, inr, ◌++◌, ◌≡◌, List, ℕ, ◌+◌, [], ◌∷◌, length, take, sym, ◌∙◌, ap, subst, length-append}
use Rattle.im_base_types.specs.Lives.{Shown, nothing_shown}
use Rattle.im_engine.specs.Stands.{Allowed}
use Rattle.im_tool_lines.specs.declared.store_answers.StoreReply.{StoreReply}
use Rattle.im_tool_lines.specs.declared.store_life.StoreLine.{StoreLine}
use Rattle.im_tool_lines.specs.declared.store_answers.StoreReply.TheVariants.{Stopped}
use Rattle.im_tool_lines.specs.Answered.{RepliedBy}
use Rattle.im_tool_lines.specs.StoreShown.{shown_by_lines, IsStoreReply}
use Rattle.im_tool_drill.specs.StoreLives.{GoesOn}
use Rattle.im_tool_lines.proofs.Replied.{replied_push}
use Rattle.im_tool_drill.specs.StoreRuns.{AreLinesRun}
use Rattle.im_tool_lines.proofs.StoreShown.{shown_to, shown_whole}
use Rattle.im_tool_drill.proofs.StoreRunning.{no_line_run, lines_run_push}
use Rattle.im_tool_drill.proofs.NamedDisk.{named_ghosts}
use Rattle.im_tool_drill.proofs.store_lives.run_store_lines.Goals as goal

pub loop-line-init : goal.loop-line-init
loop-line-init c = record {
  replied = subst (λ (l : List StoreReply). RepliedBy IsStoreReply [] l) (sym c.new-replies.ensures.items) tt;
  count = ap length c.new-replies.ensures.items;
  run = subst (λ (l : List StoreReply). AreLinesRun named_ghosts c.args.stop.now c.args.lines.now l c.args.engine.now c.args.engine.now) (sym c.new-replies.ensures.items) (no_line_run named_ghosts c.args.stop.now c.args.lines.now c.args.engine.now);
  life = λ before living. subst (λ (l : List StoreReply). GoesOn named_ghosts before (shown_by_lines nothing_shown [] l) c.args.engine.now) (sym c.new-replies.ensures.items) living;
}

pub loop-line-preserved : goal.loop-line-preserved
loop-line-preserved c =
    let i = c.loop-line.line-index in
    let all = c.args.lines.now in
    let told = c.loop-line.replies.items in
    let reply = c.run_store_line-reply.result in
    let some : ¬ (reply ≡ Stopped) = λ is. let stopped = c.is_stopped-stopped.ensures.1 is in let goes_on = c.if-stopped.false in absurd (cc) in
    let fits : IsStoreReply c.line-item.result reply = elim c.run_store_line-reply.ensures.fits [ inl e ↦ absurd (some e) | inr is ↦ is ] in
    let more : take (i + 1) all ≡ take i all ++ c.line-item.result ∷ [] = take_more all i c.line-item.result c.loop-line-test.true ∙ ap (λ (l : StoreLine). take i all ++ l ∷ []) (sym c.line-item.is) in
    record {
      replied =
          subst (λ (l : List StoreLine). RepliedBy IsStoreReply l c.push.new.self.items) (sym more)
          (subst (λ (l : List StoreReply). RepliedBy IsStoreReply (take i all ++ c.line-item.result ∷ []) l) (sym c.in_ok-push.ensures.items)
          (replied_push IsStoreReply (take i all) told c.line-item.result reply c.loop-line.invariant.replied fits));
      count = ap length c.in_ok-push.ensures.items ∙ length-append told (reply ∷ []) ∙ ap (λ (n : ℕ). n + 1) c.loop-line.invariant.count;
      run =
          subst (λ (l : List StoreReply). AreLinesRun named_ghosts c.args.stop.now all l c.args.engine.now c.run_store_line-reply.new.engine) (sym c.in_ok-push.ensures.items)
          (lines_run_push named_ghosts c.args.stop.now all told i c.line-item.result reply c.args.engine.now c.loop-line.engine c.run_store_line-reply.new.engine c.line-item.is c.loop-line.invariant.count c.loop-line-test.true
          c.loop-line.invariant.run c.run_store_line-reply.ensures.run);
      life = λ before living.
          let k = c.run_store_line-reply.ensures.kept before (shown_by_lines nothing_shown (take i all) told) (c.loop-line.invariant.life before living) in
          subst (λ (s : Shown). GoesOn named_ghosts before s c.run_store_line-reply.new.engine)
          (sym (ap (λ (l : List StoreReply). shown_by_lines nothing_shown (take (i + 1) all) l) c.in_ok-push.ensures.items ∙ shown_to nothing_shown all i told c.line-item.result reply c.line-item.is c.loop-line.invariant.count c.loop-line-test.true))
          (k.after some);
    }

pub returns-then-stopped-clause-answered : goal.returns-then-stopped-clause-answered
returns-then-stopped-clause-answered c =
    let stopped : c.run_store_line-reply.result ≡ Stopped = c.is_stopped-stopped.ensures.0 c.if-stopped.true in
    inr (record {
      line = c.loop-line.line-index;
      front = c.loop-line.replies.items;
      within = c.loop-line-test.true;
      replied = c.loop-line.invariant.replied;
      is = c.in_ok-push.ensures.items ∙ ap (λ (reply : StoreReply). c.loop-line.replies.items ++ reply ∷ []) stopped;
    })

pub returns-then-stopped-clause-run : goal.returns-then-stopped-clause-run
returns-then-stopped-clause-run c =
    let told = c.loop-line.replies.items in
    let reply = c.run_store_line-reply.result in
    subst (λ (l : List StoreReply). AreLinesRun named_ghosts c.args.stop.now c.args.lines.now l c.args.engine.now c.run_store_line-reply.new.engine) (sym c.in_ok-push.ensures.items)
    (lines_run_push named_ghosts c.args.stop.now c.args.lines.now told c.loop-line.line-index c.line-item.result reply c.args.engine.now c.loop-line.engine c.run_store_line-reply.new.engine c.line-item.is c.loop-line.invariant.count c.loop-line-test.true
    c.loop-line.invariant.run c.run_store_line-reply.ensures.run)

pub returns-then-stopped-clause-kept : goal.returns-then-stopped-clause-kept
returns-then-stopped-clause-kept c before living files left =
    let i = c.loop-line.line-index in
    let all = c.args.lines.now in
    let told = c.loop-line.replies.items in
    let reply = c.run_store_line-reply.result in
    let k = c.run_store_line-reply.ensures.kept before (shown_by_lines nothing_shown (take i all) told) (c.loop-line.invariant.life before living) in
    let count : length c.push.new.self.items ≡ i + 1 = ap length c.in_ok-push.ensures.items ∙ length-append told (reply ∷ []) ∙ ap (λ (n : ℕ). n + 1) c.loop-line.invariant.count in
    subst (λ (s : Shown). Allowed before s files)
    (sym (sym (shown_whole nothing_shown all c.push.new.self.items (i + 1) count) ∙ ap (λ (l : List StoreReply). shown_by_lines nothing_shown (take (i + 1) all) l) c.in_ok-push.ensures.items ∙ shown_to nothing_shown all i told c.line-item.result reply c.line-item.is c.loop-line.invariant.count c.loop-line-test.true))
    (k.stops files left)

pub returns-clause-kept : goal.returns-clause-kept
returns-clause-kept c before living files left =
    subst (λ (s : Shown). Allowed before s files) (shown_whole nothing_shown c.args.lines.now c.loop-line.replies.items c.loop-line.line-index c.loop-line.invariant.count)
    ((c.loop-line.invariant.life before living).1.stops files left)
