use Rattle.std.proofs.Common.{refl, rules, subst}
use Rattle.im_base_steps.specs.declared.step.Step.TheVariants as steps
use Rattle.im_store.specs.declared.due.Due.{Due}
use Rattle.im_store.specs.Rule.{IsDue}
use Rattle.im_store.specs.Upkeep.{none}
use Rattle.im_store.proofs.Keeping.{either_way, err_on, first_kept, first_refused, last_kept, noted_first, noted_still, ok_on, refused_kept, switched_by_rule, written_kept}
use Rattle.im_store.proofs.upkeep.Upkeep.make_due.Goals as goal

pub returns-in-Switch-clause-kept : goal.returns-in-Switch-clause-kept
returns-in-Switch-clause-kept g c =
    either_way c.make.result c.make.ensures.taken c.make.ensures.refused (first_kept g.D.Disk c.args.engine.now c.make.new.engine steps.Switch refl)
    (λ fault made. refused_kept g.D.Disk c.args.engine.now c.make.new.engine fault (first_refused g.D.Disk c.args.engine.now c.make.new.engine steps.Switch fault refl made))

pub returns-in-Switch-clause-refused : goal.returns-in-Switch-clause-refused
returns-in-Switch-clause-refused g c =
    err_on c.make.result c.make.ensures.refused (λ fault. first_refused g.D.Disk c.args.engine.now c.make.new.engine steps.Switch fault refl)

pub returns-in-Checkpoint-clause-kept : goal.returns-in-Checkpoint-clause-kept
returns-in-Checkpoint-clause-kept g c =
    either_way c.take_checkpoint.result c.take_checkpoint.ensures.taken c.take_checkpoint.ensures.refused (last_kept g.D.Disk c.args.engine.now c.take_checkpoint.new.engine steps.Checkpoint refl)
    (refused_kept g.D.Disk c.args.engine.now c.take_checkpoint.new.engine)

pub returns-in-Nothing-clause-kept : goal.returns-in-Nothing-clause-kept
returns-in-Nothing-clause-kept g c =
    either_way c.write_ahead.result c.write_ahead.ensures.written c.write_ahead.ensures.refused (written_kept g.D.Disk c.args.engine.now c.write_ahead.new.engine)
    (refused_kept g.D.Disk c.args.engine.now c.write_ahead.new.engine)

pub returns-then-failed-clause-kept : goal.returns-then-failed-clause-kept
returns-then-failed-clause-kept g c = none

pub returns-in-Switch-clause-rule : goal.returns-in-Switch-clause-rule
returns-in-Switch-clause-rule g c =
    ok_on c.make.result c.make.ensures.taken (switched_by_rule g.D.Disk c.args.self.now c.args.engine.now c.make.new.engine (search rules) (subst (λ (x : Due). IsDue g.D.Disk c.args.self.now c.args.engine.now x) c.in-Switch.is c.requires.due))

pub returns-then-failed-clause-noted : goal.returns-then-failed-clause-noted
returns-then-failed-clause-noted g c = noted_still g.D.Disk c.args.self.now c.args.self.now c.args.engine.now c.args.engine.now (refl, refl, refl, refl, refl)

pub returns-in-Switch-clause-noted : goal.returns-in-Switch-clause-noted
returns-in-Switch-clause-noted g c = noted_first g.D.Disk c.args.self.now c.make.new.self c.args.engine.now c.make.new.engine steps.Switch c.make.ensures.noted

pub returns-in-Nothing-clause-noted : goal.returns-in-Nothing-clause-noted
returns-in-Nothing-clause-noted g c = noted_still g.D.Disk c.args.self.now c.write_ahead.new.self c.args.engine.now c.write_ahead.new.engine c.write_ahead.ensures.still
