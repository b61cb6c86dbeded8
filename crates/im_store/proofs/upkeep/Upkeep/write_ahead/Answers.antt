use Rattle.std.proofs.Common.{inl, refl, rules}
use Rattle.im_store.specs.Rule as rule
use Rattle.im_store.proofs.Keeping.{err_on, kept_none, knows_more, noted_page, ok_on, page_refused, page_written}
use Rattle.im_store.proofs.upkeep.Upkeep.write_ahead.Goals as goal

pub returns-then-not-is_near-clause-written : goal.returns-then-not-is_near-clause-written
returns-then-not-is_near-clause-written g c = rule.none

pub returns-in_default-clause-written : goal.returns-in_default-clause-written
returns-in_default-clause-written g c = rule.none

pub returns-then-change-begun-clause-written : goal.returns-then-change-begun-clause-written
returns-then-change-begun-clause-written g c =
    ok_on c.make.result c.make.ensures.taken (page_written g.D.Disk c.args.engine.now c.args.engine.now c.make.new.engine c.in-Some.change.page rule.none)

pub returns-then-change-begun-clause-refused : goal.returns-then-change-begun-clause-refused
returns-then-change-begun-clause-refused g c =
    err_on c.make.result c.make.ensures.refused (λ fault. page_refused g.D.Disk c.args.engine.now c.args.engine.now c.make.new.engine c.in-Some.change.page fault rule.none)

pub returns-else-change-begun-clause-written : goal.returns-else-change-begun-clause-written
returns-else-change-begun-clause-written g c = rule.none

pub returns-then-change-begun-clause-pages : goal.returns-then-change-begun-clause-pages
returns-then-change-begun-clause-pages g c = knows_more g.D.Disk c.args.engine.now c.args.engine.now c.args.self.now.pages c.args.self.now.pages c.make.new.self.pages c.in-Some.change (inl refl) (kept_none g.D.Disk c.args.engine.now) (search rules) (search rules)

pub returns-else-change-begun-clause-pages : goal.returns-else-change-begun-clause-pages
returns-else-change-begun-clause-pages g c = knows_more g.D.Disk c.args.engine.now c.args.engine.now c.args.self.now.pages c.args.self.now.pages _ c.in-Some.change (inl refl) (kept_none g.D.Disk c.args.engine.now) (search rules) (search rules)

pub returns-then-change-begun-clause-still : goal.returns-then-change-begun-clause-still
returns-then-change-begun-clause-still g c = noted_page g.D.Disk _ c.make.new.self c.args.engine.now c.make.new.engine c.in-Some.change.page c.make.ensures.noted

pub returns-in-Written-clause-written : goal.returns-in-Written-clause-written
returns-in-Written-clause-written g c = rule.none
