use Rattle.std.proofs.Common.{◌≡◌, ◌≤◌, ◌<◌, ◌⊎◌, ℕ, rules, refl, inr, subst}
use Rattle.im_base_steps.specs.declared.step.Step.TheVariants as steps
use Rattle.im_store.specs.declared.bounds.Bounds.{Bounds}
use Rattle.im_store.specs.Numbers.{active_of, log_length_of}
use Rattle.im_store.specs.Rule.{KnowsPages, WentOn}
use Rattle.im_store.specs.Upkeep.{none}
use Rattle.im_store.proofs.Keeping.{either_way, err_on, failed_is_ended, first_kept, first_refused, forced_is_ended, kept_then, knows_after, long_after_force, ok_both, ok_on, refused_kept, refused_then}
use Rattle.im_store.proofs.upkeep.Upkeep.close.Goals as goal

pub returns-then-failed-clause-rule : goal.returns-then-failed-clause-rule
returns-then-failed-clause-rule g c = failed_is_ended g.D.Disk c.args.self.now c.args.engine.now (search rules)

pub returns-in-Err-clause-kept : goal.returns-in-Err-clause-kept
returns-in-Err-clause-kept g c =
    refused_kept g.D.Disk c.args.engine.now c.make.new.engine c.in-Err.fault (first_refused g.D.Disk c.args.engine.now c.make.new.engine steps.Force c.in-Err.fault refl c.in-Err.ensures.refused)

pub returns-in-Err-clause-refused : goal.returns-in-Err-clause-refused
returns-in-Err-clause-refused g c = first_refused g.D.Disk c.args.engine.now c.make.new.engine steps.Force c.in-Err.fault refl c.in-Err.ensures.refused

pub returns-clause-kept : goal.returns-clause-kept
returns-clause-kept g c =
    let forced = first_kept g.D.Disk c.args.engine.now c.make.new.engine steps.Force refl c.in_default.ensures.taken in
    either_way c.end.result c.end.ensures.kept c.end.ensures.refused
    (λ kept. kept_then g.D.Disk c.args.engine.now c.make.new.engine c.end.new.engine forced kept)
    (λ fault was. refused_kept g.D.Disk c.args.engine.now c.end.new.engine fault (refused_then g.D.Disk c.args.engine.now c.make.new.engine c.end.new.engine fault forced was))

pub returns-clause-rule : goal.returns-clause-rule
returns-clause-rule g c =
    ok_on c.end.result (ok_both _ _ c.end.result c.end.ensures.kept (ok_both _ _ c.end.result c.end.ensures.switched c.end.ensures.short))
    (λ ended. forced_is_ended g.D.Disk c.args.self.now c.args.engine.now c.make.new.engine c.end.new.engine (search rules) c.in_default.ensures.taken ended.0
    (λ is. ended.1.0 (long_after_force g.D.Disk c.args.self.now c.make.new.self c.args.engine.now c.make.new.engine c.make.ensures.noted c.make.ensures.bounds is))
    (subst (λ (b : Bounds). 1 ≤ b.log.bytes → active_of g.D.Disk c.end.new.engine ≡ 0 → (log_length_of g.D.Disk c.end.new.engine < 49152) ⊎ WentOn g.D.Disk c.make.new.engine c.end.new.engine) c.make.ensures.bounds ended.1.1))

pub returns-clause-refused : goal.returns-clause-refused
returns-clause-refused g c =
    err_on c.end.result c.end.ensures.refused
    (λ fault. refused_then g.D.Disk c.args.engine.now c.make.new.engine c.end.new.engine fault (first_kept g.D.Disk c.args.engine.now c.make.new.engine steps.Force refl c.in_default.ensures.taken))

pub returns-then-failed-clause-kept : goal.returns-then-failed-clause-kept
returns-then-failed-clause-kept g c = none

pub returns-clause-pages : goal.returns-clause-pages
returns-clause-pages g c =
    knows_after g.D.Disk c.args.engine.now c.make.new.engine c.args.self.now.pages c.end.new.self.pages (first_kept g.D.Disk c.args.engine.now c.make.new.engine steps.Force refl c.in_default.ensures.taken)
    (subst (λ (n : ℕ). KnowsPages g.D.Disk c.make.new.engine n c.end.new.self.pages) c.make.ensures.pages c.end.ensures.pages)
