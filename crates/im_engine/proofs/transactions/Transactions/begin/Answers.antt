use Rattle.std.proofs.Common.{◌≡◌, ◌+◌, ℕ, suc, [], ◌∷◌, length, length-append, ap, sym, subst, ◌∙◌, arith}
use Rattle.im_base_txn.specs.Rows.{AreAbove, AreBelow, begun, waiting_in}
use Rattle.im_base_txn.proofs.Waiting.{waiting_begun}
use Rattle.im_engine.specs.Numbered.{Numbered}
use Rattle.im_engine.proofs.Numbers.{above_begun}
use Rattle.im_engine.proofs.transactions.Transactions.begin.Goals as goal

pub invariant_of-self-2 : goal.invariant_of-self-2
invariant_of-self-2 c =
    let is = c.begin.ensures in
    let next = c.self.inside.next in
    let step : suc next ≡ next + 1 = omega arith in
    let long = ap length is ∙ length-append c.self.inside.table (begun next ∷ []) in
    let few = c.requires in
    let seen = ap (λ (x : Numbered). length x.rows) c.self.view_is in
    let owned = c.self.invariant.3 in (
      subst (λ (n : ℕ). AreBelow n c.begin.new.self) step (subst (AreBelow (suc next)) (sym is) (c.law_numbers_stay_below.ensures.begins next c.self.inside.table c.self.invariant.0)),
      omega (arith, long, few, seen),
      subst (AreAbove 0) (sym is) (above_begun 0 next c.self.inside.table owned c.self.invariant.2),
      omega (arith, owned),
      c.self.invariant.4 ∙ sym (ap waiting_in is ∙ waiting_begun next c.self.inside.table),
      c.self.invariant.5,
    )
