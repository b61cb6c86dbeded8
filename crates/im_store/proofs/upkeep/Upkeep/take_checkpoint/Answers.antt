use Rattle.std.proofs.Common.{ℕ, refl, subst, sym}
use Rattle.im_base_steps.specs.declared.step.Step.TheVariants as steps
use Rattle.im_store.specs.Rule.{KnowsPages}
use Rattle.im_store.proofs.Keeping.{err_on, noted_last, noted_still, ok_on, refused_after_writes, taken_last}
use Rattle.im_store.proofs.upkeep.Upkeep.take_checkpoint.Goals as goal

pub returns-clause-refused : goal.returns-clause-refused
returns-clause-refused g c =
    err_on c.make.result c.make.ensures.refused (λ fault. refused_after_writes g.D.Disk c.args.engine.now c.write_oldest.new.engine c.make.new.engine steps.Checkpoint fault refl c.in_default.ensures.written)

pub returns-clause-taken : goal.returns-clause-taken
returns-clause-taken g c =
    ok_on c.make.result c.make.ensures.taken (taken_last g.D.Disk c.args.engine.now c.write_oldest.new.engine c.make.new.engine steps.Checkpoint c.in_default.ensures.written)

pub returns-clause-pages : goal.returns-clause-pages
returns-clause-pages g c = subst (λ (n : ℕ). KnowsPages g.D.Disk c.args.engine.now c.args.self.now.pages n) (sym c.make.ensures.pages) c.write_oldest.ensures.pages

pub returns-in-Err-clause-noted : goal.returns-in-Err-clause-noted
returns-in-Err-clause-noted g c = noted_still g.D.Disk c.args.self.now c.write_oldest.new.self c.args.engine.now c.write_oldest.new.engine c.write_oldest.ensures.still

pub returns-clause-noted : goal.returns-clause-noted
returns-clause-noted g c =
    noted_last g.D.Disk c.args.self.now c.write_oldest.new.self c.make.new.self c.args.engine.now c.write_oldest.new.engine c.make.new.engine steps.Checkpoint c.in_default.ensures.written c.write_oldest.ensures.still c.make.ensures.noted
