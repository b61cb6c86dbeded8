use Rattle.im_store.proofs.Kept.{kept_limits, kept_rests, works_by_rule}
use Rattle.im_store.proofs.open_store.OpenStore.keep.Goals as goal

pub returns-in-Ok-clause-kept : goal.returns-in-Ok-clause-kept
returns-in-Ok-clause-kept g c = record { kept = c.make_due.ensures.kept; rule = λ _. c.in-Ok.ensures.rule; refused = tt; bounds = c.make_due.ensures.bounds; pages = c.make_due.ensures.pages; noted = c.make_due.ensures.noted }

pub returns-in-Ok-clause-limits : goal.returns-in-Ok-clause-limits
returns-in-Ok-clause-limits g c = kept_limits g.D.Disk c.args.self.now.engine c.make_due.new.engine c.make_due.ensures.kept

pub returns-in-Ok-clause-works : goal.returns-in-Ok-clause-works
returns-in-Ok-clause-works g c = λ works _. works_by_rule g.D.Disk c.due-due.result c.args.self.now.upkeep c.args.self.now.engine c.make_due.new.engine c.due-due.ensures c.in-Ok.ensures.rule works

pub returns-in-Ok-clause-rests : goal.returns-in-Ok-clause-rests
returns-in-Ok-clause-rests g c = kept_rests g.D.Disk c.args.self.now.engine c.make_due.new.engine c.make_due.ensures.kept

pub returns-in-Err-clause-kept : goal.returns-in-Err-clause-kept
returns-in-Err-clause-kept g c = record {
  kept = c.make_due.ensures.kept;
  rule = λ never. absurd (cc never);
  refused = (c.due-due.ensures, c.in-Err.ensures.refused);
  bounds = c.make_due.ensures.bounds;
  pages = c.make_due.ensures.pages;
  noted = c.make_due.ensures.noted;
}

pub returns-in-Err-clause-limits : goal.returns-in-Err-clause-limits
returns-in-Err-clause-limits g c = kept_limits g.D.Disk c.args.self.now.engine c.make_due.new.engine c.make_due.ensures.kept

pub returns-in-Err-clause-works : goal.returns-in-Err-clause-works
returns-in-Err-clause-works g c = λ works never. absurd (cc never)

pub returns-in-Err-clause-rests : goal.returns-in-Err-clause-rests
returns-in-Err-clause-rests g c = kept_rests g.D.Disk c.args.self.now.engine c.make_due.new.engine c.make_due.ensures.kept
