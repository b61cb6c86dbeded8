use Rattle.std.proofs.Common.{◌≡◌, ◌+◌, ◌-◌, ℕ, suc, drop, length, refl, sym, ◌∙◌, ap, subst, arith}
use Rattle.im_files_belonging.specs.declared.left_log.LeftLog.{LeftLog}
use Rattle.im_files_belonging.specs.LeftLog.{step_of, walk_piece}
use Rattle.im_files_belonging.proofs.Walks.{stays}
use Rattle.im_files_belonging.proofs.left_log.LeftLog.take.Goals as goal

pub returns-then-is_stuck : goal.returns-then-is_stuck
returns-then-is_stuck c =
    let piece = c.args.piece.now in
    let old = c.args.self.now in
    let w = c.loop-count.self in
    let sub : c.saturating_sub.result ≡ w.place - old.place = omega (arith, c.saturating_sub.ensures) in
    let at : c.after-bytes.result.now ≡ drop (w.place - old.place) piece = c.after-bytes.ensures ∙ ap (λ (k : ℕ). drop k piece) sub in
    let stuck : step_of w (drop (w.place - old.place) piece) ≡ w = ap (step_of w) (sym at) ∙ c.is_stuck.ensures c.if-is_stuck.true in
    c.loop-count.invariant.walked
    ∙ sym (stays old.place piece old c.loop-count.count (length piece) c.loop-count.invariant.within
    (subst (λ (x : LeftLog). step_of x (drop (x.place - old.place) piece) ≡ x) c.loop-count.invariant.walked stuck))

pub loop-count-preserved : goal.loop-count-preserved
loop-count-preserved c =
    let piece = c.args.piece.now in
    let old = c.args.self.now in
    let w = c.loop-count.self in
    let sub : c.saturating_sub.result ≡ w.place - old.place = omega (arith, c.saturating_sub.ensures) in
    let at : c.after-bytes.result.now ≡ drop (w.place - old.place) piece = c.after-bytes.ensures ∙ ap (λ (k : ℕ). drop k piece) sub in
    record {
      within = omega (arith, c.loop-count-test.true);
      from = refl;
      walked =
          c.step.ensures
          ∙ ap (step_of w) at
          ∙ ap (λ (x : LeftLog). step_of x (drop (x.place - old.place) piece)) c.loop-count.invariant.walked
          ∙ ap (λ (m : ℕ). walk_piece m old.place piece old) (let next : suc c.loop-count.count ≡ c.loop-count.count + 1 = omega arith in next);
    }
