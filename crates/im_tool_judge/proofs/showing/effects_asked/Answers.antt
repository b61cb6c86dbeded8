use Rattle.std.proofs.Common.{◌<◌, ◌≤◌, ◌⊎◌, inl, inr, length, take, sym, ◌∙◌, ap, subst, arith}
use Rattle.im_base_types.specs.Lives.{Shown, nothing_shown}
use Rattle.im_tool_lines.specs.StoreShown.{shown_by_lines}
use Rattle.im_tool_judge.specs.Shows.{KeepsShown}
use Rattle.im_tool_judge.proofs.Shows.{shown_more, shown_end}
use Rattle.im_tool_judge.proofs.showing.effects_asked.Goals as goal

pub loop-i-preserved : goal.loop-i-preserved
loop-i-preserved c =
    let i = c.loop-i.i in
    let all = c.args.lines.now in
    let told = c.args.replies.now in
    let within : i < length all = omega (arith, c.loop-i-test.true, c.shorter-count.ensures.within_first) in
    let replied : i < length told = omega (arith, c.loop-i-test.true, c.shorter-count.ensures.within_second) in
    subst (λ (s : Shown). KeepsShown c.add.new.self s) (sym (shown_more nothing_shown all told i c.index-lines-i.result c.index-replies-i.result within replied c.index-lines-i.is c.index-replies-i.is))
    (c.in_ok-add.ensures (shown_by_lines nothing_shown (take i all) (take i told)) c.loop-i.invariant)

pub returns : goal.returns
returns c =
    let ends : (length c.args.lines.now ≤ c.loop-i.i) ⊎ (length c.args.replies.now ≤ c.loop-i.i) =
    elim c.shorter-count.ensures.one [ inl less ↦ inl (omega (arith, less, c.loop-i-test.false)) | inr less ↦ inr (omega (arith, less, c.loop-i-test.false)) ] in
    c.loop-i.invariant.asked ∙ ap (λ (s : Shown). s.asked) (shown_end nothing_shown c.args.lines.now c.args.replies.now c.loop-i.i ends)
