use Rattle.std.proofs.Common.{length, ap, sym, subst, refl, arith, ◌∙◌}
use Rattle.im_theory_steps.proofs.Rows.{length_map}
use Rattle.im_base_txn.specs.Rows.{AreAbove, AreBelow, changed, waiting_in, with_record}
use Rattle.im_base_txn.proofs.Waiting.{waiting_noted}
use Rattle.im_engine.proofs.Numbers.{above_changed}
use Rattle.im_engine.proofs.transactions.Transactions.note_record.Goals as goal

pub invariant_of-self : goal.invariant_of-self
invariant_of-self c =
    let f = with_record c.args.lsn c.args.undo_next in
    let is = c.note_record.ensures in
    let long = ap length is ∙ length_map (changed c.args.number f) c.self.inside.table in
    let few = c.self.invariant.1 in (
      subst (AreBelow c.self.inside.next) (sym is) (c.law_numbers_stay_below.ensures.changes c.self.inside.next c.args.number f (λ row. refl) c.self.inside.table c.self.invariant.0),
      omega (arith, long, few),
      subst (AreAbove 0) (sym is) (above_changed 0 c.args.number f (λ row. refl) c.self.inside.table c.self.invariant.2),
      c.self.invariant.3,
      c.self.invariant.4 ∙ sym (ap waiting_in is ∙ waiting_noted c.args.number c.args.lsn c.args.undo_next c.self.inside.table),
      c.self.invariant.5,
    )
