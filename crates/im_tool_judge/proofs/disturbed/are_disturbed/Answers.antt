use Rattle.std.proofs.Common.{◌≡◌, false, ℕ, ◌+◌, ◌<◌, ◌≤◌, ◌||◌, length, Bool, drop, refl, sym, ◌∙◌, ap, subst, arith}
use Rattle.std.proofs.lemmas.Grind.{common_steps}
use Rattle.im_tool_judge.specs.Disturbed.{AreDisturbed, is_by_device}
use Rattle.im_tool_judge.proofs.DisturbedReplies.{none_behind, same_length, step_on}
use Rattle.im_tool_judge.proofs.disturbed.are_disturbed.Goals as goal
use Rattle.im_tool_judge.proofs.disturbed.are_disturbed.Goals.{then-failed, else-failed}

pub returns-then-plain-told : goal.returns-then-plain-told
returns-then-plain-told c = (λ no. absurd (cc), λ d. absurd (c.if-plain-told.true (same_length c.args.fails false c.args.plain.now c.args.told.now d)))

pub loop-i-init : goal.loop-i-init
loop-i-init c = (λ d. d, λ d. d)

pub returns-then-not-is_next : goal.returns-then-not-is_next
returns-then-not-is_next c =
    let in_told : c.loop-i.i < length c.args.told.now = subst (λ (n : ℕ). c.loop-i.i < n) c.if-plain-told.false c.loop-i-test.true in
    let step = step_on c.args.fails c.loop-i.failed c.args.plain.now c.args.told.now c.loop-i.i c.index-plain-i.result c.index-told-i.result c.loop-i-test.true in_told c.index-plain-i.is c.index-told-i.is in
    (λ no. absurd (cc), λ d. absurd (let yes = c.is_next.ensures.1 (step.0 (c.loop-i.invariant.0 d)).0 in let no = c.if-not-is_next.true in cc))

pub loop-i-preserved : goal.loop-i-preserved
loop-i-preserved c =
    let plain = c.args.plain.now in
    let told = c.args.told.now in
    let i = c.loop-i.i in
    let reply = c.index-told-i.result in
    let in_told : i < length told = subst (λ (n : ℕ). i < n) c.if-plain-told.false c.loop-i-test.true in
    let step = step_on c.args.fails c.loop-i.failed plain told i c.index-plain-i.result reply c.loop-i-test.true in_told c.index-plain-i.is c.index-told-i.is in
    let now : (c.loop-i.failed || is_by_device reply) ≡ c.if-failed.failed = elim c.if-failed.branch [
      | then-failed w ↦ ap (λ (b : Bool). b || is_by_device reply) w.if-failed.true ∙ sym (w.failed-is ∙ w.if-failed.true)
      | else-failed w ↦ ap (λ (b : Bool). b || is_by_device reply) w.if-failed.false ∙ sym (w.failed-is ∙ c.is_by_device-by_device.ensures)
    ] in
    let next = c.is_next.ensures.0 c.if-not-is_next.false in (
      λ d. subst (λ (b : Bool). AreDisturbed c.args.fails b (drop (i + 1) plain) (drop (i + 1) told)) now (step.0 (c.loop-i.invariant.0 d)).1,
      λ d. c.loop-i.invariant.1 (step.1 (next, subst (λ (b : Bool). AreDisturbed c.args.fails b (drop (i + 1) plain) (drop (i + 1) told)) (sym now) d)),
    )

pub returns : goal.returns
returns c =
    let le : length c.args.plain.now ≤ c.loop-i.i = grind (arith, common_steps) in
    let end : length c.args.plain.now ≡ c.loop-i.i = omega (arith, le, c.loop-i.auto.i-end) in
    let behind = none_behind c.args.fails c.loop-i.failed c.args.plain.now c.args.told.now c.loop-i.i end (sym c.if-plain-told.false ∙ end) in
    let told = c.is_told.ensures in
    (λ yes. c.loop-i.invariant.1 (behind.1 (told.0 yes)), λ d. told.1 (behind.0 (c.loop-i.invariant.0 d)))
