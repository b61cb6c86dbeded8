use Rattle.im_restart_undo.proofs.Plans.{alone_outcome, alone_planned, alone_refused, goes_on_short, whole_alone}
use Rattle.im_page_writer.proofs.Outcomes.{then}
use Rattle.im_restart_undo.proofs.PlaceCalls.{whole_still}
use Rattle.im_restart_undo.proofs.plan.plan_alone.Goals as goal

pub seen_alone-requires : goal.seen_alone-requires
seen_alone-requires g c = c.in-Ok.ensures.open c.none.ensures.pages c.none.ensures.done

pub returns-in-Ok-clause-outcome : goal.returns-in-Ok-clause-outcome
returns-in-Ok-clause-outcome g c = alone_outcome g.D.Disk c.seen_alone.result c.seen_alone.ensures.never c.in-Ok.ensures.outcome

pub returns-in-Ok-clause-kept : goal.returns-in-Ok-clause-kept
returns-in-Ok-clause-kept g c pages whole =
    alone_planned pages c.none.result _ _ c.in-Ok.sight c.seen_alone.result c.seen_alone.ensures.seen c.seen_alone.ensures.never (c.in-Ok.ensures.kept pages (whole_alone g.D.Disk c.none.result c.none.ensures.pages whole))

pub returns-then-wants_memory-clause-outcome : goal.returns-then-wants_memory-clause-outcome
returns-then-wants_memory-clause-outcome g c = then g.D.Disk (goes_on_short g.D.Disk c.in-Err.fault (c.wants_memory.ensures.wants c.if-wants_memory.true) c.in-Err.ensures.outcome) c.plan_short.ensures.outcome

pub returns-then-wants_memory-clause-kept : goal.returns-then-wants_memory-clause-kept
returns-then-wants_memory-clause-kept g c pages whole =
    let is = c.wants_memory.ensures.wants c.if-wants_memory.true in
    c.plan_short.ensures.kept pages (whole_still g.D.Disk whole (goes_on_short g.D.Disk c.in-Err.fault is c.in-Err.ensures.outcome))
    ((c.in-Err.ensures.kept pages (whole_alone g.D.Disk c.none.result c.none.ensures.pages whole)).short is)

pub returns-else-wants_memory-clause-kept : goal.returns-else-wants_memory-clause-kept
returns-else-wants_memory-clause-kept g c pages whole =
    alone_refused pages c.none.result _ _ c.in-Err.fault (c.wants_memory.ensures.other c.if-wants_memory.false) (c.in-Err.ensures.kept pages (whole_alone g.D.Disk c.none.result c.none.ensures.pages whole))
