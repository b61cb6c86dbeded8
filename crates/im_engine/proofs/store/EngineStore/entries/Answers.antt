use Rattle.std.proofs.Common.{None, Some, refl, ap}
use Rattle.im_base_txn.specs.Rows.{waiting_in}
use Rattle.im_engine.proofs.Actives.{look_counted, look_left}
use Rattle.im_engine.proofs.Replying.{looks_active, looks_rows}
use Rattle.im_engine.proofs.store.EngineStore.entries.Goals as goal

pub returns-in-Ok-clause-list : goal.returns-in-Ok-clause-list
returns-in-Ok-clause-list g c before s v h =
    ((c.in-Ok.ensures.entries before s v h.life).walk, look_counted g.D.Disk before s v c.args.self.now c.entries.new.self c.in-Ok.ensures.outcome h refl (c.in-Ok.ensures.kept before s v h.life))

pub returns-in-Err-clause-kept : goal.returns-in-Err-clause-kept
returns-in-Err-clause-kept g c before s v h = look_left g.D.Disk before s v c.args.self.now c.entries.new.self c.in-Err.ensures.outcome h (c.in-Err.ensures.kept before s v h.life)

pub returns-in-Ok-clause-active : goal.returns-in-Ok-clause-active
returns-in-Ok-clause-active g c = looks_active g.D.Disk None c.args.self.now c.entries.new.self c.in-Ok.ensures.outcome

pub returns-in-Err-clause-active : goal.returns-in-Err-clause-active
returns-in-Err-clause-active g c = looks_active g.D.Disk (Some c.in-Err.fault) c.args.self.now c.entries.new.self c.in-Err.ensures.outcome

pub returns-in-Ok-clause-waiting : goal.returns-in-Ok-clause-waiting
returns-in-Ok-clause-waiting g c = ap waiting_in (looks_rows g.D.Disk None c.args.self.now c.entries.new.self c.in-Ok.ensures.outcome)

pub returns-in-Err-clause-waiting : goal.returns-in-Err-clause-waiting
returns-in-Err-clause-waiting g c = ap waiting_in (looks_rows g.D.Disk (Some c.in-Err.fault) c.args.self.now c.entries.new.self c.in-Err.ensures.outcome)

pub returns-in-Ok-clause-looked : goal.returns-in-Ok-clause-looked
returns-in-Ok-clause-looked g c = record { why = None; looks = c.in-Ok.ensures.outcome }

pub returns-in-Err-clause-looked : goal.returns-in-Err-clause-looked
returns-in-Err-clause-looked g c = record { why = Some c.in-Err.fault; looks = c.in-Err.ensures.outcome }
