use Rattle.std.proofs.Common.{true≢false, inl, inr, refl, ℕ, sym, subst, ◌∙◌, arith}
use Rattle.im_front.specs.Acknowledged.{point_of, IsForced}
use Rattle.im_front.specs.Acknowledged.IsSettled.{none_waits, by_force}
use Rattle.im_front.proofs.open.Kept.look.Goals as goal

pub returns-then-pace : goal.returns-then-pace
returns-then-pace g c =
    inr (inl (refl, record { point = point_of c.args.self.now; held = c.law_holds_always.ensures.held; broken = c.pace-pace.ensures.failed.0 c.if-pace.true }))

pub returns-then-pace-eq0 : goal.returns-then-pace-eq0
returns-then-pace-eq0 g c =
    none_waits _ c.law_holds_always.ensures.held (λ broken. true≢false (sym (c.pace-pace.ensures.failed.1 broken) ∙ c.if-pace.false)) (omega (arith, c.if-pace-eq0.true, c.pace-pace.ensures.waiting))

pub returns : goal.returns
returns g c forced = by_force _ c.law_holds_always.ensures.held (subst (λ (n : ℕ). IsForced g.E.Store n) c.forces.ensures forced)
