use Rattle.std.proofs.Common.{refl, ap, ℕ, ◌∙◌, ◌≡◌}
use Rattle.im_page_pool.specs.Pool.{page_at}
use Rattle.im_page_writer.specs.Outcome.{pages_of, mild}
use Rattle.im_page_writer.proofs.Outcomes.{search_of, pages_to, read_more}
use Rattle.im_engine.specs.Looking.{header_of}
use Rattle.im_engine.proofs.Running.{has_pages, page_is}
use Rattle.im_engine.proofs.Looked.{looks_of, look_kept, look_refused, look_barred, never_short}
use Rattle.im_base_types.specs.declared.fault.Fault.TheVariants.{Memory}
use Rattle.im_engine.proofs.engine.Engine.header.Goals as goal

pub returns-then-self-clause-kept : goal.returns-then-self-clause-kept
returns-then-self-clause-kept g c before s v life = look_barred g.D.Disk before s v c.args.self.now life c.if-self.true (g.met.D.Disk.only_now c.args.self.now.disk)

pub returns-in-Ok-clause-outcome : goal.returns-in-Ok-clause-outcome
returns-in-Ok-clause-outcome g c = looks_of g.D.Disk c.args.self.now _ c.if-self.false _ (record { writer = read_more g.D.Disk mild refl (search_of g.D.Disk c.in-Ok.ensures.outcome); failed = refl; txns = refl; locks = refl; max_pages = refl; dense = refl; report = refl; stepped = refl; under = refl })

pub returns-in-Ok-clause-kept : goal.returns-in-Ok-clause-kept
returns-in-Ok-clause-kept g c before s v life =
    look_kept g.D.Disk before s v c.args.self.now _ life c.if-self.false (record { writer = read_more g.D.Disk mild refl (search_of g.D.Disk c.in-Ok.ensures.outcome); failed = refl; txns = refl; locks = refl; max_pages = refl; dense = refl; report = refl; stepped = refl; under = refl })

pub returns-in-Ok-clause-logged : goal.returns-in-Ok-clause-logged
returns-in-Ok-clause-logged g c b before s v r =
    let old = c.args.self.now in
    c.header_at.ensures ∙ ap (λ (n : ℕ). header_of (page_at c.get.new.self.pool n)) c.in-Ok.ensures.frame
    ∙ ap header_of (c.in-Ok.ensures.kept (pages_of r.now) (pages_to g.D.Disk c.args.page (has_pages g.D.Disk before s v old r)) ∙ page_is g.D.Disk before s v old r c.args.page)

pub returns-in-Err-clause-outcome : goal.returns-in-Err-clause-outcome
returns-in-Err-clause-outcome g c = looks_of g.D.Disk c.args.self.now _ c.if-self.false _ (record { writer = read_more g.D.Disk mild refl (search_of g.D.Disk c.in-Err.ensures.outcome); failed = c.breaks-self.ensures; txns = refl; locks = refl; max_pages = refl; dense = refl; report = refl; stepped = refl; under = refl })

pub returns-in-Err-clause-kept : goal.returns-in-Err-clause-kept
returns-in-Err-clause-kept g c before s v life =
    look_refused g.D.Disk before s v c.args.self.now _ life c.if-self.false (λ t f le left. g.met.D.Disk.counts_now c.get.new.disk t f le left) c.in-Err.fault
    (record { writer = read_more g.D.Disk mild refl (search_of g.D.Disk c.in-Err.ensures.outcome); failed = c.breaks-self.ensures; txns = refl; locks = refl; max_pages = refl; dense = refl; report = refl; stepped = refl; under = refl })

pub returns-in-Err-clause-never : goal.returns-in-Err-clause-never
returns-in-Err-clause-never g c before s v life =
    let r = (life.running c.if-self.false).1 in
    c.in-Err.ensures.kept (pages_of r.now) (pages_to g.D.Disk c.args.page (has_pages g.D.Disk before s v c.args.self.now r))

pub returns-in-Err-clause-memory : goal.returns-in-Err-clause-memory
returns-in-Err-clause-memory g c = λ is. never_short g.D.Disk c.in-Err.ensures.outcome (let same : c.in-Err.fault ≡ Memory = cc is in same)
