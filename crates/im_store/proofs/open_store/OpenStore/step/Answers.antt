use Rattle.std.proofs.Common.{◌∙◌, refl, subst, sym}
use Rattle.std.specs.Prelude.{◌≡◌, true, false}
use Rattle.im_store.specs.Numbers.{durable_end_of, log_length_of}
use Rattle.im_store.specs.Upkeep.{none}
use Rattle.im_store.specs.declared.upkeep.Upkeep.{Upkeep}
use Rattle.im_store.specs.Stores.{WasKept}
use Rattle.im_store.proofs.Kept.{limits_then, nothing_noted, step_limits}
use Rattle.im_store.proofs.open_store.OpenStore.step.Goals as goal

pub returns-then-is_followed : goal.returns-then-is_followed
returns-then-is_followed g c =
    let d = g.D.Disk in
    let old = c.args.self.now.engine in
    let between = c.step-reply.new.engine in
    let kept = c.keep.ensures.kept in
    record {
      between = between;
      made = c.step-reply.ensures.made;
      kept = kept.kept;
      follow = λ _. subst (λ (u : Upkeep). WasKept d u between c.keep.new.self) c.step-reply.ensures.noted kept;
      still = λ not. absurd (let never : true ≡ false = sym c.if-is_followed.true ∙ c.is_followed.ensures ∙ not in cc never);
      bounds = kept.bounds ∙ c.step-reply.ensures.bounds;
      limits = limits_then d old between c.keep.new.self.engine (step_limits d c.args.step.now c.step-reply.result old between c.step-reply.ensures.made) c.keep.ensures.limits;
    }

pub returns : goal.returns
returns g c =
    let d = g.D.Disk in
    let old = c.args.self.now.engine in
    let between = c.step-reply.new.engine in
    let nothing = sym c.is_followed.ensures ∙ c.if-is_followed.false in
    record {
      between = between;
      made = c.step-reply.ensures.made;
      kept = none;
      follow = λ is. absurd (let never : true ≡ false = sym is ∙ nothing in cc never);
      still = λ not. (refl, c.step-reply.ensures.noted ∙ nothing_noted d c.args.step.now c.step-reply.result (durable_end_of d old) (log_length_of d old) between c.args.self.now.upkeep not, refl);
      bounds = c.step-reply.ensures.bounds;
      limits = step_limits d c.args.step.now c.step-reply.result old between c.step-reply.ensures.made;
    }
