use Rattle.std.proofs.Common.{subst, ◌∙◌}
use Rattle.im_front.specs.Locked.{LockedState, IsKeptFrom}
use Rattle.im_front.specs.Acknowledged.{point_of, IsHeld}
use Rattle.im_front.proofs.Acknowledging.{held_of}
use Rattle.im_front.proofs.Growing.{kept_of}
use Rattle.im_front.proofs.open.Kept.law_holds_always.Goals as goal

pub returns-clause-kept : goal.returns-clause-kept
returns-clause-kept g c tells =
    subst (λ (s : LockedState g.row.E.Denot). IsKeptFrom g.E.Store.life g.E.Store.leaves s.trace s.engine) c.self.view_is
    (kept_of g.E.Store.life g.E.Store.leaves g.met.E.Store.stops c.self.inside.trace.steps c.self.inside.engine (c.self.invariant.0 tells))

pub returns-clause-held : goal.returns-clause-held
returns-clause-held g c =
    let i = c.self.invariant in
    subst (λ (s : LockedState g.row.E.Denot). IsHeld g.E.Store (point_of s)) c.self.view_is
    (held_of g.E.Store c.self.inside.trace.steps c.self.inside.engine c.self.inside.waiting c.self.inside.forces i.8 i.0 i.6 (i.5 ∙ i.1.waits) i.5)
