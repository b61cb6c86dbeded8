use Rattle.std.proofs.Common.{length, ap, sym, subst, arith, not, Bool, true, false, refl, ◌≡◌, ◌∙◌}
use Rattle.std.proofs.lemmas.List.Filters.{length-filter_both}
use Rattle.std.specs.Prelude.{find}
use Rattle.im_base_txn.specs.Rows.{AreAbove, AreBelow, AreRising, is_of, waits_at, waiting_in}
use Rattle.im_base_txn.proofs.Waiting.{waiting_ended}
use Rattle.im_engine.specs.Numbered.{Numbered}
use Rattle.im_engine.proofs.Numbers.{above_without}
use Rattle.im_engine.proofs.transactions.Transactions.end.Goals as goal

pub invariant_of-self : goal.invariant_of-self
invariant_of-self c =
    let left = c.end.ensures.left in
    let both = length-filter_both (λ row. not (is_of c.args.number row)) (is_of c.args.number) (λ row. twice (is_of c.args.number row)) c.self.inside.table in
    let long = ap length left in
    let few = c.self.invariant.1 in
    let rising = subst (λ (x : Numbered). AreRising x.rows) (sym c.self.view_is) c.law_are_counted.ensures.rising in (
      subst (AreBelow c.self.inside.next) (sym left) (c.law_numbers_stay_below.ensures.ends c.self.inside.next c.args.number c.self.inside.table c.self.invariant.0),
      omega (arith, both, long, few),
      subst (AreAbove 0) (sym left) (above_without 0 c.args.number c.self.inside.table c.self.invariant.2),
      c.self.invariant.3,
      c.self.invariant.4 ∙ sym (ap waiting_in left ∙ waiting_ended c.args.number c.self.inside.table rising (subst (λ (x : Numbered). waits_at (find (is_of c.args.number) x.rows) ≡ false) (sym c.self.view_is) c.requires)),
      c.self.invariant.5,
    )
  where
    twice : (b : Bool) → b ≡ not (not b)
    twice true = refl
    twice false = refl
