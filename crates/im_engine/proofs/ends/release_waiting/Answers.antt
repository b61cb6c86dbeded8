use Rattle.std.proofs.Common.{◌+◌, ◌<◌, length, take, refl, sym, subst, ◌∙◌, arith, take_all}
use Rattle.im_base_txn.specs.Rows.{begun, waiting_numbers}
use Rattle.im_theory_machine.specs.Table.{Table, AreReleased}
use Rattle.im_theory_machine.specs.View.{is_among}
use Rattle.im_theory_steps.proofs.Waiting.{released_more, released_as}
use Rattle.im_engine.proofs.ends.release_waiting.Goals as goal
use Rattle.im_engine.proofs.ends.release_waiting.Goals.{then-is_committing, else-is_committing}

pub loop-row-init : goal.loop-row-init
loop-row-init c = record { none = λ s some. absurd (cc some); others = λ s out. refl }

pub loop-row-preserved : goal.loop-row-preserved
loop-row-preserved c =
    let rows = c.args.rows.now in
    let i = c.loop-row.row-index in
    let within : i < length rows = omega (arith, c.loop-row-test.true) in
    elim c.if-is_committing.branch [
      | then-is_committing w ↦
          subst (λ (k : Table). AreReleased c.args.locks.now (λ t. is_among t (waiting_numbers (take (i + 1) rows))) k) (sym w.locks-is)
          (released_more c.args.locks.now c.loop-row.locks w.release_all.new.self rows i (begun 0) within c.loop-row.invariant (sym c.is_committing.ensures ∙ w.if-is_committing.true) w.release_all.ensures)
      | else-is_committing w ↦
          subst (λ (k : Table). AreReleased c.args.locks.now (λ t. is_among t (waiting_numbers (take (i + 1) rows))) k) (sym w.locks-is)
          (released_as c.args.locks.now c.loop-row.locks c.loop-row.locks rows i (begun 0) within c.loop-row.invariant (sym c.is_committing.ensures ∙ w.if-is_committing.false))
    ]

pub returns : goal.returns
returns c = subst (λ (l : _). AreReleased c.args.locks.now (λ t. is_among t (waiting_numbers l)) c.loop-row.locks) (take_all c.loop-row.row-index c.args.rows.now (omega (arith, c.loop-row-test.false))) c.loop-row.invariant
