use Rattle.std.proofs.Common.{◌≡◌, ℕ, ◌≤◌, ◌+◌, inr, refl, ◌∙◌, ap, subst, arith, rules}
use Rattle.std.specs.Prelude.{◌^◌}
use Rattle.im_log_gate.specs.Gate.{generation_at}
use Rattle.im_log.specs.declared.log_file.LogFile.{LogFile}
use Rattle.im_log.specs.Switching.{next_gate}
use Rattle.im_page_pool.specs.Pool.{PoolView}
use Rattle.im_base_disk.specs.Runs.{CostsAtMost}
use Rattle.im_base_disk.proofs.Costs.{most_as, most_none, most_then}
use Rattle.im_theory_switch.proofs.Left.{grown_readable}
use Rattle.im_theory_log.specs.WriterSteps.{forced, synced}
use Rattle.im_page_table.proofs.Growing.{grows_none}
use Rattle.im_page_writer.proofs.FlushedRows.{synced_clean}
use Rattle.im_page_flush.proofs.Goings.{leaves_of}
use Rattle.im_page_writer.proofs.Outcomes.{stands_on}
use Rattle.im_page_writer.proofs.LoggedChanges.{err_on}
use Rattle.im_page_writer.proofs.Switching.{early_told, flush_left, flush_refused, flush_refuses, gate_fits, grown_switching, if_err, kept_then, log_refused, log_refuses, may_refused, may_refuses, not_early, refused_from, switching_then, told_as, told_device, told_same}
use Rattle.im_page_writer.proofs.Writers.{goes_on_start, goes_on_then}
use Rattle.im_page_writer.proofs.page_writer.PageWriter.switch.Goals as goal

pub returns-in_err-may_switch-clause-kept : goal.returns-in_err-may_switch-clause-kept
returns-in_err-may_switch-clause-kept g c b base s e is over readable =
    let old = c.args.disk.now in
    let on = goes_on_start g.D.Disk b base s c.args.self.now old (g.met.D.Disk.only_now old) is in
    record { ok = search rules; stops = grown_switching g.D.Disk b base s old old (record { high = s.log; grows = grows_none b s.log; stops = on.goes.stops }) }

pub returns-in_err-flush_every-clause-kept : goal.returns-in_err-flush_every-clause-kept
returns-in_err-flush_every-clause-kept g c b base s e is over readable = record {
  ok = search rules;
  stops = grown_switching g.D.Disk b base s c.args.disk.now c.flush_every.new.disk (flush_left g.D.Disk c.in_err-flush_every.field-0.0 c.in_err-flush_every.ensures.outcome c.if-self.false b base s is);
}

pub returns-in_err-force-clause-kept : goal.returns-in_err-force-clause-kept
returns-in_err-force-clause-kept g c b base s e is over readable =
    let d = g.D.Disk in
    let old = c.args.disk.now in
    let w = c.flush_every.new.self in
    let mid = c.flush_every.new.disk in
    let one = c.in_ok-flush_every.ensures.kept b base s is in
    let k = c.in_err-force.ensures.kept b base one.now (stands_on d b base s old one.now w mid one.on) in
    record { ok = search rules; stops = switching_then d b base s old one.now w mid one.on c.force.new.disk (grown_switching d b base one.now mid c.force.new.disk (leaves_of d b base one.now mid c.force.new.disk k.stops)) }

pub returns-in_err-sync_pages-clause-kept : goal.returns-in_err-sync_pages-clause-kept
returns-in_err-sync_pages-clause-kept g c b base s e is over readable =
    let d = g.D.Disk in
    let old = c.args.disk.now in
    let w = c.flush_every.new.self in
    let mid = c.flush_every.new.disk in
    let x = c.force.new.self in
    let behind = c.force.new.disk in
    let new = c.sync_pages.new.disk in
    let one = c.in_ok-flush_every.ensures.kept b base s is in
    let two = c.in_ok-force.ensures.kept b base one.now (stands_on d b base s old one.now w mid one.on) in
    let t = forced one.now in
    let on = goes_on_then d b base s old one.now w mid one.on t x behind two.ok in
    let k = c.in_err-sync_pages.ensures.kept b base t (stands_on d b base s old t x behind on) in
    record { ok = search rules; stops = switching_then d b base s old t x behind on new (grown_switching d b base t behind new (leaves_of d b base t behind new k.stops)) }

pub returns-clause-kept : goal.returns-clause-kept
returns-clause-kept g c b base s e is over readable =
    let d = g.D.Disk in
    let old = c.args.disk.now in
    let w = c.flush_every.new.self in
    let mid = c.flush_every.new.disk in
    let x = c.force.new.self in
    let behind = c.force.new.disk in
    let y = c.sync_pages.new.self in
    let after = c.sync_pages.new.disk in
    let one = c.in_ok-flush_every.ensures.kept b base s is in
    let two = c.in_ok-force.ensures.kept b base one.now (stands_on d b base s old one.now w mid one.on) in
    let t = forced one.now in
    let on = goes_on_then d b base s old one.now w mid one.on t x behind two.ok in
    let three = c.in_ok-sync_pages.ensures.kept b base t (stands_on d b base s old t x behind on) in
    let u = synced t in
    let all = goes_on_then d b base s old t x behind on u y after three.ok in
    kept_then d b base s old u y after all c.args.next c.switch_log.new.self c.switch_log.new.disk c.switch_log.result
    (c.switch_log.ensures.kept b base u e (stands_on d b base s old u y after all) (one.on.goes.keeps.redo_end ∙ over) refl (λ p. synced_clean (one.now.pages p).entry (one.written p)) (grown_readable b s.log u.log all.goes.keeps.log readable) c.in_ok-sync_pages.ensures.durable)

pub returns-in_err-may_switch-clause-causes : goal.returns-in_err-may_switch-clause-causes
returns-in_err-may_switch-clause-causes g c =
    let w = c.args.self.now in
    let f = c.in_err-may_switch.field-0.0 in
    err_on c.from_residual.result f _ c.from_residual.ensures.1 (may_refuses g.D.Disk w.failed w.log c.args.disk.now f c.in_err-may_switch.ensures.causes c.in_err-may_switch.ensures.full c.in_err-may_switch.ensures.capacity)

pub returns-in_err-flush_every-clause-causes : goal.returns-in_err-flush_every-clause-causes
returns-in_err-flush_every-clause-causes g c =
    let f = c.in_err-flush_every.field-0.0 in
    err_on c.from_residual-in_err-flush_every.result f _ c.from_residual-in_err-flush_every.ensures.1 (flush_refuses g.D.Disk f c.in_err-flush_every.ensures.outcome)

pub returns-in_err-force-clause-causes : goal.returns-in_err-force-clause-causes
returns-in_err-force-clause-causes g c =
    let f = c.in_err-force.field-0.0 in
    err_on c.from_residual-in_err-force.result f _ c.from_residual-in_err-force.ensures.1 (log_refuses g.D.Disk c.args.self.now.failed f c.in_err-force.ensures.outcome c.in_ok-flush_every.ensures.outcome.ends.works c.in_err-force.ensures.room)

pub returns-in_err-sync_pages-clause-causes : goal.returns-in_err-sync_pages-clause-causes
returns-in_err-sync_pages-clause-causes g c =
    let f = c.in_err-sync_pages.field-0.0 in
    err_on c.from_residual-in_err-sync_pages.result f _ c.from_residual-in_err-sync_pages.ensures.1 (log_refuses g.D.Disk c.args.self.now.failed f c.in_err-sync_pages.ensures.outcome c.in_ok-force.ensures.outcome.ends.works c.in_err-sync_pages.ensures.room)

pub returns-clause-causes : goal.returns-clause-causes
returns-clause-causes g c = refused_from g.D.Disk c.args.self.now.failed c.switch_log.new.self.log c.switch_log.new.disk c.switch_log.result c.sync_pages.new.self.failed c.in_ok-sync_pages.ensures.outcome.ends.works c.switch_log.ensures.causes

pub returns-in_err-may_switch-clause-few : goal.returns-in_err-may_switch-clause-few
returns-in_err-may_switch-clause-few g c none = most_none g.D.Disk 5 6 c.args.disk.now

pub returns-in_err-flush_every-clause-few : goal.returns-in_err-flush_every-clause-few
returns-in_err-flush_every-clause-few g c none = absurd (let clash = (c.in_err-flush_every.ensures.none none).0 in cc clash)

pub returns-in_err-force-clause-few : goal.returns-in_err-force-clause-few
returns-in_err-force-clause-few g c none =
    let d = g.D.Disk in
    subst (λ (from : _). CostsAtMost d 5 6 from c.force.new.disk) (c.in_ok-flush_every.ensures.none none).1 (most_as d 2 2 5 6 c.flush_every.new.disk c.force.new.disk (omega arith) (omega arith) c.in_err-force.ensures.few)

pub returns-in_err-sync_pages-clause-few : goal.returns-in_err-sync_pages-clause-few
returns-in_err-sync_pages-clause-few g c none =
    let d = g.D.Disk in
    let two = most_then d 2 2 0 1 c.flush_every.new.disk c.force.new.disk c.sync_pages.new.disk c.in_ok-force.ensures.few c.in_err-sync_pages.ensures.few in
    subst (λ (from : _). CostsAtMost d 5 6 from c.sync_pages.new.disk) (c.in_ok-flush_every.ensures.none none).1 (most_as d 2 3 5 6 c.flush_every.new.disk c.sync_pages.new.disk (omega arith) (omega arith) two)

pub returns-clause-few : goal.returns-clause-few
returns-clause-few g c none =
    let d = g.D.Disk in
    let two = most_then d 2 2 0 1 c.flush_every.new.disk c.force.new.disk c.sync_pages.new.disk c.in_ok-force.ensures.few c.in_ok-sync_pages.ensures.few in
    subst (λ (from : _). CostsAtMost d 5 6 from c.switch_log.new.disk) (c.in_ok-flush_every.ensures.none none).1
    (most_then d 2 3 3 3 c.flush_every.new.disk c.sync_pages.new.disk c.switch_log.new.disk two c.switch_log.ensures.few)

pub returns-in_err-may_switch-clause-early : goal.returns-in_err-may_switch-clause-early
returns-in_err-may_switch-clause-early g c e works early =
    let f = c.in_err-may_switch.field-0.0 in
    (told_as c.from_residual.result f e c.from_residual.ensures.1 (early_told c.args.self.now.log f e c.in_err-may_switch.ensures.full c.in_err-may_switch.ensures.capacity early), refl, refl)

pub returns-in_err-flush_every-clause-early : goal.returns-in_err-flush_every-clause-early
returns-in_err-flush_every-clause-early g c e works early = absurd (not_early _ _ c.args.self.now.log refl c.in_ok-may_switch.ensures.full c.in_ok-may_switch.ensures.capacity e early)

pub returns-in_err-force-clause-early : goal.returns-in_err-force-clause-early
returns-in_err-force-clause-early g c e works early = absurd (not_early _ _ c.args.self.now.log refl c.in_ok-may_switch.ensures.full c.in_ok-may_switch.ensures.capacity e early)

pub returns-in_err-sync_pages-clause-early : goal.returns-in_err-sync_pages-clause-early
returns-in_err-sync_pages-clause-early g c e works early = absurd (not_early _ _ c.args.self.now.log refl c.in_ok-may_switch.ensures.full c.in_ok-may_switch.ensures.capacity e early)

pub returns-clause-early : goal.returns-clause-early
returns-clause-early g c e works early = absurd (not_early _ _ c.args.self.now.log refl c.in_ok-may_switch.ensures.full c.in_ok-may_switch.ensures.capacity e early)

pub returns-in_err-may_switch-clause-full : goal.returns-in_err-may_switch-clause-full
returns-in_err-may_switch-clause-full g c is =
    let d = g.D.Disk in
    let w = c.args.self.now in
    let f = c.in_err-may_switch.field-0.0 in
    let one = may_refused d w c.args.disk.now f c.requires.ready c.if-self.false c.in_err-may_switch.ensures.causes c.in_err-may_switch.ensures.full c.in_err-may_switch.ensures.capacity in
    one.full (told_same c.from_residual.result f _ c.from_residual.ensures.1 is)

pub returns-in_err-may_switch-clause-last : goal.returns-in_err-may_switch-clause-last
returns-in_err-may_switch-clause-last g c is =
    let d = g.D.Disk in
    let w = c.args.self.now in
    let f = c.in_err-may_switch.field-0.0 in
    let one = may_refused d w c.args.disk.now f c.requires.ready c.if-self.false c.in_err-may_switch.ensures.causes c.in_err-may_switch.ensures.full c.in_err-may_switch.ensures.capacity in
    one.last (told_same c.from_residual.result f _ c.from_residual.ensures.1 is)

pub returns-in_err-may_switch-clause-device : goal.returns-in_err-may_switch-clause-device
returns-in_err-may_switch-clause-device g c works =
    let d = g.D.Disk in
    let w = c.args.self.now in
    let f = c.in_err-may_switch.field-0.0 in
    let one = may_refused d w c.args.disk.now f c.requires.ready c.if-self.false c.in_err-may_switch.ensures.causes c.in_err-may_switch.ensures.full c.in_err-may_switch.ensures.capacity in
    told_device c.from_residual.result f _ c.from_residual.ensures.1 one.device

pub returns-in_err-may_switch-clause-fails : goal.returns-in_err-may_switch-clause-fails
returns-in_err-may_switch-clause-fails g c =
    let d = g.D.Disk in
    let w = c.args.self.now in
    let f = c.in_err-may_switch.field-0.0 in
    let one = may_refused d w c.args.disk.now f c.requires.ready c.if-self.false c.in_err-may_switch.ensures.causes c.in_err-may_switch.ensures.full c.in_err-may_switch.ensures.capacity in
    err_on c.from_residual.result f _ c.from_residual.ensures.1 one.fails

pub returns-in_err-flush_every-clause-full : goal.returns-in_err-flush_every-clause-full
returns-in_err-flush_every-clause-full g c is =
    let d = g.D.Disk in
    let w = c.args.self.now in
    let f = c.in_err-flush_every.field-0.0 in
    let one = flush_refused d w f c.in_err-flush_every.ensures.outcome c.if-self.false in
    one.full (told_same c.from_residual-in_err-flush_every.result f _ c.from_residual-in_err-flush_every.ensures.1 is)

pub returns-in_err-flush_every-clause-last : goal.returns-in_err-flush_every-clause-last
returns-in_err-flush_every-clause-last g c is =
    let d = g.D.Disk in
    let w = c.args.self.now in
    let f = c.in_err-flush_every.field-0.0 in
    let one = flush_refused d w f c.in_err-flush_every.ensures.outcome c.if-self.false in
    one.last (told_same c.from_residual-in_err-flush_every.result f _ c.from_residual-in_err-flush_every.ensures.1 is)

pub returns-in_err-flush_every-clause-device : goal.returns-in_err-flush_every-clause-device
returns-in_err-flush_every-clause-device g c works =
    let d = g.D.Disk in
    let w = c.args.self.now in
    let f = c.in_err-flush_every.field-0.0 in
    let one = flush_refused d w f c.in_err-flush_every.ensures.outcome c.if-self.false in
    told_device c.from_residual-in_err-flush_every.result f _ c.from_residual-in_err-flush_every.ensures.1 one.device

pub returns-in_err-flush_every-clause-fails : goal.returns-in_err-flush_every-clause-fails
returns-in_err-flush_every-clause-fails g c =
    let d = g.D.Disk in
    let w = c.args.self.now in
    let f = c.in_err-flush_every.field-0.0 in
    let one = flush_refused d w f c.in_err-flush_every.ensures.outcome c.if-self.false in
    err_on c.from_residual-in_err-flush_every.result f _ c.from_residual-in_err-flush_every.ensures.1 one.fails

pub returns-in_err-force-clause-full : goal.returns-in_err-force-clause-full
returns-in_err-force-clause-full g c is =
    let d = g.D.Disk in
    let w = c.args.self.now in
    let f = c.in_err-force.field-0.0 in
    let one = log_refused d w f c.in_err-force.ensures.outcome c.in_ok-flush_every.ensures.outcome.ends.works in
    one.full (told_same c.from_residual-in_err-force.result f _ c.from_residual-in_err-force.ensures.1 is)

pub returns-in_err-force-clause-last : goal.returns-in_err-force-clause-last
returns-in_err-force-clause-last g c is =
    let d = g.D.Disk in
    let w = c.args.self.now in
    let f = c.in_err-force.field-0.0 in
    let one = log_refused d w f c.in_err-force.ensures.outcome c.in_ok-flush_every.ensures.outcome.ends.works in
    one.last (told_same c.from_residual-in_err-force.result f _ c.from_residual-in_err-force.ensures.1 is)

pub returns-in_err-force-clause-device : goal.returns-in_err-force-clause-device
returns-in_err-force-clause-device g c works =
    let d = g.D.Disk in
    let w = c.args.self.now in
    let f = c.in_err-force.field-0.0 in
    let one = log_refused d w f c.in_err-force.ensures.outcome c.in_ok-flush_every.ensures.outcome.ends.works in
    told_device c.from_residual-in_err-force.result f _ c.from_residual-in_err-force.ensures.1 one.device

pub returns-in_err-force-clause-fails : goal.returns-in_err-force-clause-fails
returns-in_err-force-clause-fails g c =
    let d = g.D.Disk in
    let w = c.args.self.now in
    let f = c.in_err-force.field-0.0 in
    let one = log_refused d w f c.in_err-force.ensures.outcome c.in_ok-flush_every.ensures.outcome.ends.works in
    err_on c.from_residual-in_err-force.result f _ c.from_residual-in_err-force.ensures.1 one.fails

pub returns-in_err-sync_pages-clause-full : goal.returns-in_err-sync_pages-clause-full
returns-in_err-sync_pages-clause-full g c is =
    let d = g.D.Disk in
    let w = c.args.self.now in
    let f = c.in_err-sync_pages.field-0.0 in
    let one = log_refused d w f c.in_err-sync_pages.ensures.outcome c.in_ok-force.ensures.outcome.ends.works in
    one.full (told_same c.from_residual-in_err-sync_pages.result f _ c.from_residual-in_err-sync_pages.ensures.1 is)

pub returns-in_err-sync_pages-clause-last : goal.returns-in_err-sync_pages-clause-last
returns-in_err-sync_pages-clause-last g c is =
    let d = g.D.Disk in
    let w = c.args.self.now in
    let f = c.in_err-sync_pages.field-0.0 in
    let one = log_refused d w f c.in_err-sync_pages.ensures.outcome c.in_ok-force.ensures.outcome.ends.works in
    one.last (told_same c.from_residual-in_err-sync_pages.result f _ c.from_residual-in_err-sync_pages.ensures.1 is)

pub returns-in_err-sync_pages-clause-device : goal.returns-in_err-sync_pages-clause-device
returns-in_err-sync_pages-clause-device g c works =
    let d = g.D.Disk in
    let w = c.args.self.now in
    let f = c.in_err-sync_pages.field-0.0 in
    let one = log_refused d w f c.in_err-sync_pages.ensures.outcome c.in_ok-force.ensures.outcome.ends.works in
    told_device c.from_residual-in_err-sync_pages.result f _ c.from_residual-in_err-sync_pages.ensures.1 one.device

pub returns-in_err-sync_pages-clause-fails : goal.returns-in_err-sync_pages-clause-fails
returns-in_err-sync_pages-clause-fails g c =
    let d = g.D.Disk in
    let w = c.args.self.now in
    let f = c.in_err-sync_pages.field-0.0 in
    let one = log_refused d w f c.in_err-sync_pages.ensures.outcome c.in_ok-force.ensures.outcome.ends.works in
    err_on c.from_residual-in_err-sync_pages.result f _ c.from_residual-in_err-sync_pages.ensures.1 one.fails

pub returns-clause-last : goal.returns-clause-last
returns-clause-last g c is =
    let log = c.args.self.now.log in
    let w = c.flush_every.new.self in
    let same : generation_at c.sync_pages.new.self.log.gate ≡ generation_at log.gate = ap (λ (l : LogFile). generation_at l.gate) c.sync_pages.ensures.log ∙ c.force.ensures.generation ∙ c.in_ok-flush_every.ensures.outcome.ends.later.generation in
    (gate_fits _ _ (next_gate log) refl c.in_ok-may_switch.ensures.full, subst (λ (n : ℕ). 2 ^ 62 ≤ n + 1) same (c.switch_log.ensures.last is))

pub returns-clause-fails : goal.returns-clause-fails
returns-clause-fails g c = if_err c.switch_log.result _ _ c.switch_log.ensures.failed (λ e broken. inr broken)

pub returns-clause-frames : goal.returns-clause-frames
returns-clause-frames g c =
    ap (λ (p : PoolView). p.frames) (c.switch_log.ensures.pool ∙ c.sync_pages.ensures.pool ∙ c.force.ensures.pool) ∙ c.in_ok-flush_every.ensures.outcome.frames
