use Rattle.std.proofs.Common.{refl}
use Rattle.im_base_steps.specs.declared.step.Step.TheVariants as steps
use Rattle.im_store.proofs.Keeping.{err_on, first_kept, first_refused, ok_on, refused_after, went_after, went_at_once}
use Rattle.im_store.proofs.upkeep.Upkeep.leave_log.Goals as goal

pub returns-then-log_length-gt-EMPTY-clause-went_on : goal.returns-then-log_length-gt-EMPTY-clause-went_on
returns-then-log_length-gt-EMPTY-clause-went_on g c = ok_on c.make.result c.make.ensures.taken (went_at_once g.D.Disk c.args.engine.now c.make.new.engine)

pub returns-then-log_length-gt-EMPTY-clause-refused : goal.returns-then-log_length-gt-EMPTY-clause-refused
returns-then-log_length-gt-EMPTY-clause-refused g c = err_on c.make.result c.make.ensures.refused (λ fault. first_refused g.D.Disk c.args.engine.now c.make.new.engine steps.Switch fault refl)

pub returns-in-Err-clause-refused : goal.returns-in-Err-clause-refused
returns-in-Err-clause-refused g c = first_refused g.D.Disk c.args.engine.now c.make-2.new.engine steps.Checkpoint c.in-Err.fault refl c.in-Err.ensures.refused

pub returns-clause-went_on : goal.returns-clause-went_on
returns-clause-went_on g c =
    ok_on c.make-3.result c.make-3.ensures.taken
    (λ taken. went_after g.D.Disk c.args.engine.now c.make-2.new.engine c.make-3.new.engine (first_kept g.D.Disk c.args.engine.now c.make-2.new.engine steps.Checkpoint refl c.in_default.ensures.taken) (went_at_once g.D.Disk c.make-2.new.engine c.make-3.new.engine taken))

pub returns-clause-refused : goal.returns-clause-refused
returns-clause-refused g c =
    err_on c.make-3.result c.make-3.ensures.refused
    (λ fault. refused_after g.D.Disk c.args.engine.now c.make-2.new.engine c.make-3.new.engine steps.Switch fault refl (first_kept g.D.Disk c.args.engine.now c.make-2.new.engine steps.Checkpoint refl c.in_default.ensures.taken))
