use Rattle.std.proofs.Common.{[], Ok, Err, refl, sym, subst, ap, ◌∙◌}
use Rattle.std.specs.FinMap.{empty}
use Rattle.im_base_types.specs.Changes.{apply_all}
use Rattle.im_base_types.specs.Lives.{nothing_shown}
use Rattle.im_engine.specs.declared.engine.Engine.{Engine}
use Rattle.im_engine.specs.Lived.{IsLived}
use Rattle.im_engine.specs.Opening.{IsOpening}
use Rattle.im_engine.specs.Promise.{answered_by}
use Rattle.im_engine.proofs.AsAlone.{as_alone}
use Rattle.im_engine.proofs.LivedLives.{listed, on_err, runs_on}
use Rattle.im_engine.proofs.OneLife.{lived, unlived}
use Rattle.im_engine.proofs.lives.live.Goals as goal

pub returns-in-Err-clause-refused : goal.returns-in-Err-clause-refused
returns-in-Err-clause-refused g c =
    let is = c.in-Err.ensures in
    record {
      result = Err (c.in-Err.fault, c.in-Err.disk);
      opening = record {
        kept = λ before told stands. is.kept before told c.requires.synced stands;
        plain = is.plain;
        opened = is.opened;
        limit = is.limit;
        dense = is.dense;
        pool = is.pool;
        group = is.group;
        spelled = is.spelled;
        frames = is.frames;
        workers = is.workers;
        untouched = is.untouched;
        device = is.device;
        causes = is.causes;
        full = is.full;
        unspelled = is.unspelled;
      };
      refused = (refl, refl);
      since = λ told files left before stands. (is.kept before told c.requires.synced stands).stops.each told files left;
      run = λ told files left. runs_on (g.D.Disk.seen c.args.disk) [] [] 0 files (λ before stands. (is.kept before told c.requires.synced stands).stops.each told files left);
    }

pub returns-in-Err-clause-never : goal.returns-in-Err-clause-never
returns-in-Err-clause-never g c before told stands = (c.in-Err.ensures.kept before told c.requires.synced stands).cause

pub returns-in-Ok-clause-lived : goal.returns-in-Ok-clause-lived
returns-in-Ok-clause-lived g c =
    let d = g.D.Disk in
    let is = c.in-Ok.ensures in
    let opening : IsOpening d c.args.config c.args.disk (Ok c.in-Ok.opened) = record {
      kept = λ before told stands. is.kept before told c.requires.synced stands;
      plain = is.plain;
      opened = is.opened;
      limit = is.limit;
      dense = is.dense;
      pool = is.pool;
      group = is.group;
      spelled = is.spelled;
      frames = is.frames;
      workers = is.workers;
      untouched = is.untouched;
      device = is.device;
      causes = is.causes;
      full = is.full;
      unspelled = is.unspelled;
    } in
    listed c.life-replies.result _ _ c.life-replies.ensures.turns (λ replies turns.
    subst (λ x. IsLived d c.args.config c.args.steps.now replies.items c.args.disk x) (sym c.into_disk.ensures)
    (lived d g.met.D.Disk.only_now c.args.config c.args.steps.now replies.items c.args.disk c.in-Ok.opened c.life-replies.new.self opening turns))

pub returns-in-Ok-clause-refused : goal.returns-in-Ok-clause-refused
returns-in-Ok-clause-refused g c =
    let d = g.D.Disk in
    let is = c.in-Ok.ensures in
    let opening : IsOpening d c.args.config c.args.disk (Ok c.in-Ok.opened) = record {
      kept = λ before told stands. is.kept before told c.requires.synced stands;
      plain = is.plain;
      opened = is.opened;
      limit = is.limit;
      dense = is.dense;
      pool = is.pool;
      group = is.group;
      spelled = is.spelled;
      frames = is.frames;
      workers = is.workers;
      untouched = is.untouched;
      device = is.device;
      causes = is.causes;
      full = is.full;
      unspelled = is.unspelled;
    } in
    on_err c.life-replies.result _ _ _ c.life-replies.ensures.refused (λ same e memory.
    let disk = c.into_disk.ensures ∙ ap (λ (x : Engine _ d). x.disk) same in
    record {
      result = Ok c.in-Ok.opened;
      opening = opening;
      refused = (memory, disk);
      since = λ told files left. unlived d g.met.D.Disk.only_now c.args.config c.args.disk c.in-Ok.opened opening told files (subst (λ x. d.left_since x (d.moment c.args.disk) files) disk left);
      run = λ told files left.
          runs_on (d.seen c.args.disk) [] [] 0 files
          (unlived d g.met.D.Disk.only_now c.args.config c.args.disk c.in-Ok.opened opening told files (subst (λ x. d.left_since x (d.moment c.args.disk) files) disk left));
    })

pub returns-in-Ok-clause-isolated : goal.returns-in-Ok-clause-isolated
returns-in-Ok-clause-isolated g c =
    listed c.life-replies.result _ _ c.life-replies.ensures.kept (λ replies lives before told stands.
    let kept = c.in-Ok.ensures.kept before told c.requires.synced stands in
    let on = lives before nothing_shown _ kept.ok.0 in
    record { first = c.in-Ok.opened.txns.next; last = on.next; run = on.run })

pub returns-in-Ok-clause-alone : goal.returns-in-Ok-clause-alone
returns-in-Ok-clause-alone g c =
    listed c.life-replies.result _ _ c.life-replies.ensures.kept (λ replies lives before told stands.
    let kept = c.in-Ok.ensures.kept before told c.requires.synced stands in
    let on = lives before nothing_shown _ kept.ok.0 in
    as_alone (apply_all empty before) c.in-Ok.opened.txns.next (answered_by c.args.steps.now replies.items) on.next on.run)
