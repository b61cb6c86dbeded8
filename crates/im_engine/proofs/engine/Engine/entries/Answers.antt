use Rattle.std.proofs.Common.{refl, sym, ◌∙◌}
use Rattle.std.specs.FinMap.{empty}
use Rattle.im_base_types.specs.Changes.{apply_all}
use Rattle.im_base_types.specs.Lives.{nothing_shown}
use Rattle.im_theory_machine.specs.Machine.{start}
use Rattle.im_page_writer.specs.Outcome.{pages_of}
use Rattle.im_engine.proofs.Running.{has_good_tree, none_if, walk_is}
use Rattle.im_engine.proofs.Looked.{looks_of, looks_unfinished, look_kept, look_refused, look_barred, look_still, entries_kept}
use Rattle.im_engine.proofs.engine.Engine.entries.Goals as goal

pub returns-then-self-clause-kept : goal.returns-then-self-clause-kept
returns-then-self-clause-kept g c before s v life = look_barred g.D.Disk before s v c.args.self.now life c.if-self.true (g.met.D.Disk.only_now c.args.self.now.disk)

pub returns-then-is_some-clause-outcome : goal.returns-then-is_some-clause-outcome
returns-then-is_some-clause-outcome g c = looks_unfinished g.D.Disk c.args.self.now c.if-self.false (sym c.is_some.ensures ∙ c.if-is_some.true)

pub returns-then-is_some-clause-kept : goal.returns-then-is_some-clause-kept
returns-then-is_some-clause-kept g c before s v life = look_still g.D.Disk before s v c.args.self.now life c.if-self.false (g.met.D.Disk.only_now c.args.self.now.disk)

pub returns-in-Ok-clause-outcome : goal.returns-in-Ok-clause-outcome
returns-in-Ok-clause-outcome g c = looks_of g.D.Disk c.args.self.now _ c.if-self.false _ (record { writer = c.in-Ok.ensures.outcome; failed = refl; txns = refl; locks = refl; max_pages = refl; dense = refl; report = refl; stepped = refl; under = refl })

pub returns-in-Err-clause-outcome : goal.returns-in-Err-clause-outcome
returns-in-Err-clause-outcome g c = looks_of g.D.Disk c.args.self.now _ c.if-self.false _ (record { writer = c.in-Err.ensures.outcome; failed = c.breaks-self.ensures; txns = refl; locks = refl; max_pages = refl; dense = refl; report = refl; stepped = refl; under = refl })

pub returns-in-Ok-clause-kept : goal.returns-in-Ok-clause-kept
returns-in-Ok-clause-kept g c before s v life =
    look_kept g.D.Disk before s v c.args.self.now _ life c.if-self.false (record { writer = c.in-Ok.ensures.outcome; failed = refl; txns = refl; locks = refl; max_pages = refl; dense = refl; report = refl; stepped = refl; under = refl })

pub returns-in-Ok-clause-entries : goal.returns-in-Ok-clause-entries
returns-in-Ok-clause-entries g c before s v life =
    let old = c.args.self.now in
    let r = (life.running c.if-self.false).1 in
    entries_kept g.D.Disk before s v old r c.in-Ok.list.items (c.in-Ok.ensures.kept (pages_of r.now) (has_good_tree g.D.Disk before s v old r (none_if old.under (sym c.is_some.ensures ∙ c.if-is_some.false))) ∙ walk_is g.D.Disk before s v old r (none_if old.under (sym c.is_some.ensures ∙ c.if-is_some.false)))

pub returns-in-Ok-clause-shown : goal.returns-in-Ok-clause-shown
returns-in-Ok-clause-shown g c config from opening told before stands =
    let e = c.args.self.now in
    let v = start (apply_all empty before) e.txns.next in
    let r = ((opening.kept before told stands).ok.0.running c.if-self.false).1 in
    (entries_kept g.D.Disk before nothing_shown v e r c.in-Ok.list.items (c.in-Ok.ensures.kept (pages_of r.now) (has_good_tree g.D.Disk before nothing_shown v e r (none_if e.under (sym c.is_some.ensures ∙ c.if-is_some.false))) ∙ walk_is g.D.Disk before nothing_shown v e r (none_if e.under (sym c.is_some.ensures ∙ c.if-is_some.false)))).walk

pub returns-in-Err-clause-kept : goal.returns-in-Err-clause-kept
returns-in-Err-clause-kept g c before s v life =
    look_refused g.D.Disk before s v c.args.self.now _ life c.if-self.false (λ t f le left. g.met.D.Disk.counts_now c.entries.new.disk t f le left) c.in-Err.fault
    (record { writer = c.in-Err.ensures.outcome; failed = c.breaks-self.ensures; txns = refl; locks = refl; max_pages = refl; dense = refl; report = refl; stepped = refl; under = refl })

pub returns-in-Err-clause-never : goal.returns-in-Err-clause-never
returns-in-Err-clause-never g c before s v life =
    let r = (life.running c.if-self.false).1 in
    c.in-Err.ensures.kept (pages_of r.now) (has_good_tree g.D.Disk before s v c.args.self.now r (none_if c.args.self.now.under (sym c.is_some.ensures ∙ c.if-is_some.false)))
