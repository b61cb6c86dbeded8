use Rattle.std.proofs.Common.{◌≡◌, true, false, true≢false, Some, length, ap, sym, subst, refl, arith, ◌∙◌}
use Rattle.std.specs.Prelude.{find}
use Rattle.im_theory_steps.proofs.Rows.{length_map}
use Rattle.im_base_txn.specs.Rows.{AreAbove, AreBelow, AreRising, changed, is_of, is_waiting, waiting_in, with_mark}
use Rattle.im_base_txn.proofs.LookUps.{few_waiting}
use Rattle.im_base_txn.proofs.Waiting.{waiting_more}
use Rattle.im_base_txn.specs.declared.transaction.Mark.TheVariants.{Committing}
use Rattle.im_base_txn.specs.declared.transaction.Transaction.{Transaction}
use Rattle.im_engine.specs.Numbered.{Numbered}
use Rattle.im_engine.proofs.Numbers.{above_changed}
use Rattle.im_engine.proofs.transactions.Transactions.wait.Goals as goal

pub invariant_of-self : goal.invariant_of-self
invariant_of-self c =
    let f = with_mark Committing in
    let is = c.set_mark.ensures in
    let long = ap length is ∙ length_map (changed c.args.number f) c.self.inside.table in
    let few = c.self.invariant.1 in
    let rising = subst (λ (x : Numbered). AreRising x.rows) (sym c.self.view_is) c.law_are_counted.ensures.rising in
    let there = subst (λ (x : Numbered). (row : Transaction) × (find (is_of c.args.number) x.rows ≡ Some row) × (is_waiting row ≡ false)) (sym c.self.view_is) c.requires.there in
    let grouped : c.self.inside.group ≡ true = ap (λ (x : Numbered). x.group) c.self.view_is ∙ c.requires.group in (
      subst (AreBelow c.self.inside.next) (sym is) (c.law_numbers_stay_below.ensures.changes c.self.inside.next c.args.number f (λ row. refl) c.self.inside.table c.self.invariant.0),
      omega (arith, long, few),
      subst (AreAbove 0) (sym is) (above_changed 0 c.args.number f (λ row. refl) c.self.inside.table c.self.invariant.2),
      c.self.invariant.3,
      (let count = ap waiting_in is ∙ waiting_more c.args.number c.self.inside.table rising there.0 there.1 there.2 in let was = c.self.invariant.4 in omega (arith, count, was)),
      (λ off. absurd (true≢false (sym grouped ∙ off))),
    )

pub overflow_add-self : goal.overflow_add-self
overflow_add-self c =
    let counted = c.self.invariant.4 in
    let few = few_waiting c.self.inside.table in
    let most = c.self.invariant.1 in
    omega (arith, counted, few, most)
