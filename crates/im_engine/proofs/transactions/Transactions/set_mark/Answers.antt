use Rattle.std.proofs.Common.{◌≡◌, false, length, ap, sym, subst, refl, arith, ◌∙◌}
use Rattle.std.specs.Prelude.{find}
use Rattle.im_theory_steps.proofs.Rows.{length_map}
use Rattle.im_base_txn.specs.Rows.{AreAbove, AreBelow, AreRising, changed, is_of, waits_at, waiting_in, with_mark}
use Rattle.im_base_txn.proofs.Waiting.{waiting_still}
use Rattle.im_engine.specs.Numbered.{Numbered}
use Rattle.im_engine.proofs.Numbers.{above_changed}
use Rattle.im_engine.proofs.transactions.Transactions.set_mark.Goals as goal

pub invariant_of-self : goal.invariant_of-self
invariant_of-self c =
    let f = with_mark c.args.mark in
    let is = c.set_mark.ensures in
    let long = ap length is ∙ length_map (changed c.args.number f) c.self.inside.table in
    let few = c.self.invariant.1 in
    let rising = subst (λ (x : Numbered). AreRising x.rows) (sym c.self.view_is) c.law_are_counted.ensures.rising in (
      subst (AreBelow c.self.inside.next) (sym is) (c.law_numbers_stay_below.ensures.changes c.self.inside.next c.args.number f (λ row. refl) c.self.inside.table c.self.invariant.0),
      omega (arith, long, few),
      subst (AreAbove 0) (sym is) (above_changed 0 c.args.number f (λ row. refl) c.self.inside.table c.self.invariant.2),
      c.self.invariant.3,
      c.self.invariant.4 ∙ sym (ap waiting_in is ∙ waiting_still c.args.number c.args.mark c.self.inside.table rising (subst (λ (x : Numbered). waits_at (find (is_of c.args.number) x.rows) ≡ false) (sym c.self.view_is) c.requires.before) c.requires.after),
      c.self.invariant.5,
    )
