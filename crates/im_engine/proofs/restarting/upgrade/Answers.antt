use Rattle.std.proofs.Common.{refl}
use Rattle.im_theory_switch.proofs.Left.{lawful_readable}
use Rattle.im_theory_tree.specs.Theory.{page_tree}
use Rattle.im_engine.proofs.Upgrading.{stays_kept, stays_opens, switch_kept, switch_opens}
use Rattle.im_engine.proofs.restarting.upgrade.Goals as goal

-- ---- a log of the second format stays

pub returns-then-not-is_first_format-clause-outcome : goal.returns-then-not-is_first_format-clause-outcome
returns-then-not-is_first_format-clause-outcome g c = stays_opens g.D.Disk c.args.writer.now c.args.disk.now c.requires.ready c.requires.working

pub returns-then-not-is_first_format-clause-kept : goal.returns-then-not-is_first_format-clause-kept
returns-then-not-is_first_format-clause-kept g c before rest =
    stays_kept g.D.Disk before c.args.next c.args.writer.now c.args.disk.now (g.met.D.Disk.only_now c.args.disk.now) (λ first. (let clash = c.is_first_format.ensures.1 first in cc (clash, c.if-not-is_first_format.true))) c.requires.ready rest _ refl

-- ---- one of the first goes on

pub returns-clause-outcome : goal.returns-clause-outcome
returns-clause-outcome g c = let e = c.switch.ensures in switch_opens g.D.Disk c.switch.new.self c.switch.new.disk e.ready c.args.writer.now.failed c.switch.result c.requires.working e.causes e.full (e.device c.requires.working)

pub returns-clause-kept : goal.returns-clause-kept
returns-clause-kept g c before rest =
    let e = c.switch.ensures in
    let first = c.is_first_format.ensures.0 (cc c.if-not-is_first_format.false) in
    switch_kept g.D.Disk before c.args.next c.args.writer.now c.args.disk.now rest c.switch.new.self c.switch.new.disk c.args.writer.now.failed c.switch.result (e.kept rest.b rest.base rest.now rest.redo_end rest.stands rest.over (lawful_readable rest.b page_tree rest.now.log rest.lawful)) e.causes
    (λ is. (e.last is).1) first
