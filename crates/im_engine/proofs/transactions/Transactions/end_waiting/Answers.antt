use Rattle.std.proofs.Common.{length, ap, sym, subst, refl, ◌∙◌, arith, not}
use Rattle.im_base_txn.specs.Rows.{AreAbove, AreBelow, is_waiting, waiting_in}
use Rattle.im_base_txn.proofs.LookUps.{above_part}
use Rattle.im_base_txn.proofs.Waiting.{waiting_counts, waiting_none}
use Rattle.im_engine.proofs.transactions.Transactions.end_waiting.Goals as goal

pub invariant_of-self : goal.invariant_of-self
invariant_of-self c =
    let left = c.end_waiting.ensures in
    let all = waiting_counts c.self.inside.table in
    let long = ap length left in
    let few = c.self.invariant.1 in (
      subst (AreBelow c.self.inside.next) (sym left) (c.law_numbers_stay_below.ensures.forces c.self.inside.next c.self.inside.table c.self.invariant.0),
      omega (arith, all, long, few),
      subst (AreAbove 0) (sym left) (above_part 0 (λ row. not (is_waiting row)) c.self.inside.table c.self.invariant.2),
      c.self.invariant.3,
      sym (ap waiting_in left ∙ waiting_none c.self.inside.table),
      (λ off. refl),
    )
