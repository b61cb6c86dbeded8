use Rattle.std.proofs.Common.{ℕ, ◌+◌, ◌-◌, ◌/◌, ◌<◌, arith, sym, ◌∙◌}
use Rattle.im_theory_page.specs.Form.{slot_at, key_from}
use Rattle.im_base_types.specs.Keys.{IsBelow}
use Rattle.im_theory_page.proofs.Order.{below_from_greater, below_from_less, same_from_equal}
use Rattle.im_theory_page.proofs.FoundLemmas.{parts_right, parts_left, read_key}
use Rattle.im_page.proofs.cells.find.Goals as goal

pub loop-low-preserved-in-Less : goal.loop-low-preserved-in-Less
loop-low-preserved-in-Less c =
    let m : ℕ = c.loop-low.low + (c.loop-low.high - c.loop-low.low) / 2 in
    let inside : m < c.loop-low.high = omega arith in
    let key = read_key c.args.bytes.now c.key_at.result.now c.get_u16-at.result m c.get_u16-at.ensures.value c.key_at.ensures.key in
    let below : IsBelow (key_from c.args.bytes.now (slot_at c.args.bytes.now m)) c.args.key.now = rw (← key) (below_from_less c.key_at.result.now c.args.key.now c.in-Less.ensures) in
    record {
      ordered = omega arith;
      within = c.loop-low.invariant.within;
      parts = parts_right _ _ _ _ m c.loop-low.invariant.parts c.requires.rises (omega arith) below;
    }

pub returns-in-Equal : goal.returns-in-Equal
returns-in-Equal c =
    let m : ℕ = c.loop-low.low + (c.loop-low.high - c.loop-low.low) / 2 in
    let key = read_key c.args.bytes.now c.key_at.result.now c.get_u16-at.result m c.get_u16-at.ensures.value c.key_at.ensures.key in
    (omega arith, sym key ∙ same_from_equal c.key_at.result.now c.args.key.now c.in-Equal.ensures)

pub loop-low-preserved : goal.loop-low-preserved
loop-low-preserved c =
    let m : ℕ = c.loop-low.low + (c.loop-low.high - c.loop-low.low) / 2 in
    let inside : m < c.loop-low.high = omega arith in
    let key = read_key c.args.bytes.now c.key_at.result.now c.get_u16-at.result m c.get_u16-at.ensures.value c.key_at.ensures.key in
    let above : IsBelow c.args.key.now (key_from c.args.bytes.now (slot_at c.args.bytes.now m)) =
    rw (← key) (below_from_greater c.key_at.result.now c.args.key.now c.in-Greater.ensures) in
    record {
      ordered = omega arith;
      within = omega arith;
      parts = parts_left _ _ _ _ m c.loop-low.invariant.parts c.requires.rises (omega arith) above;
    }
