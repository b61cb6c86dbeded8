use Rattle.std.proofs.Common.{◌-◌, inl, refl, rules}
use Rattle.im_store.specs.Rule as rule
use Rattle.im_store.proofs.Keeping.{knows_more, page_refused, page_still, page_written, written_kept}
use Rattle.im_store.proofs.upkeep.Upkeep.write_oldest.Goals as goal

pub returns-in-Err-clause-refused : goal.returns-in-Err-clause-refused
returns-in-Err-clause-refused g c =
    page_refused g.D.Disk c.args.engine.now c.loop-written.engine c.make.new.engine c.in-Some.change.page c.in-Err.fault c.loop-written.invariant.written c.in-Err.ensures.refused

pub returns-in-Err-clause-pages : goal.returns-in-Err-clause-pages
returns-in-Err-clause-pages g c =
    let l = c.loop-written in
    knows_more g.D.Disk c.args.engine.now l.engine c.args.self.now.pages l.self.pages c.make.new.self.pages c.in-Some.change l.invariant.known (written_kept g.D.Disk c.args.engine.now l.engine l.invariant.written) (search rules) (search rules)

pub returns-then-not-wants_write-clause-pages : goal.returns-then-not-wants_write-clause-pages
returns-then-not-wants_write-clause-pages g c =
    let l = c.loop-written in
    knows_more g.D.Disk c.args.engine.now l.engine c.args.self.now.pages l.self.pages _ c.in-Some.change l.invariant.known (written_kept g.D.Disk c.args.engine.now l.engine l.invariant.written) (search rules) (search rules)

pub loop-written-init : goal.loop-written-init
loop-written-init g c = record { written = rule.none; bounds = refl; still = (refl, refl, refl, refl, refl); known = inl refl }

pub loop-written-preserved : goal.loop-written-preserved
loop-written-preserved g c =
    let l = c.loop-written in
    record {
      written = page_written g.D.Disk c.args.engine.now l.engine c.make.new.engine c.in-Some.change.page l.invariant.written c.in_default-make.ensures.taken;
      bounds = search rules;
      still = page_still g.D.Disk c.args.self.now _ c.make.new.self l.engine c.make.new.engine c.in-Some.change.page l.invariant.still c.make.ensures.noted;
      known = knows_more g.D.Disk c.args.engine.now l.engine c.args.self.now.pages l.self.pages c.make.new.self.pages c.in-Some.change l.invariant.known (written_kept g.D.Disk c.args.engine.now l.engine l.invariant.written) (search rules) (search rules);
    }

pub returns-in-Err-clause-still : goal.returns-in-Err-clause-still
returns-in-Err-clause-still g c =
    let l = c.loop-written in
    page_still g.D.Disk c.args.self.now _ c.make.new.self l.engine c.make.new.engine c.in-Some.change.page l.invariant.still c.make.ensures.noted
