use Rattle.std.proofs.Common.{ap}
use Rattle.std.specs.Prelude.{Err}
use Rattle.im_store.proofs.Opened.{look_refused, store_opened, store_refused}
use Rattle.im_store.proofs.open_store.OpenStore.open.Goals as goal

pub returns-in-Err : goal.returns-in-Err
returns-in-Err g c =
    let why = c.in-Err.ensures.causes in
    look_refused g.D.Disk c.args.config c.args.bounds c.args.disk c.in-Err.fault c.look.new.disk why.0 why.1 c.look.ensures.reads (c.in-Err.ensures.device.0 (ap Err why.0))

pub returns-in-Ok-open_or_create : goal.returns-in-Ok-open_or_create
returns-in-Ok-open_or_create g c =
    let is = c.in-Ok-open_or_create.ensures in
    let seen = c.look.ensures in
    store_opened g.D.Disk c.args.config c.args.bounds c.args.disk c.look.new.disk c.kept_by.result c.in-Ok-open_or_create.engine c.in-Ok-open_or_create.engine.had_first c.in-Ok.files.is_long c.in-Ok.files.is_bare c.kept_by.ensures.engine seen.reads seen.still
    (record {
      kept = λ before told stands. is.kept before told (seen.synced c.requires.synced) stands;
      plain = is.plain;
      opened = is.opened;
      limit = is.limit;
      dense = is.dense;
      pool = is.pool;
      group = is.group;
      spelled = is.spelled;
      frames = is.frames;
      workers = is.workers;
      untouched = is.untouched;
      device = is.device;
      causes = is.causes;
      full = is.full;
      unspelled = is.unspelled;
    })
    c.kept_by.ensures.upkeep c.kept_by.ensures.unkept is.first c.in-Ok.ensures.long

pub returns-in-Err-open_or_create : goal.returns-in-Err-open_or_create
returns-in-Err-open_or_create g c =
    let is = c.in-Err-open_or_create.ensures in
    let seen = c.look.ensures in
    store_refused g.D.Disk c.args.config c.args.bounds c.args.disk c.look.new.disk c.in-Err-open_or_create.refused seen.reads seen.still
    (record {
      kept = λ before told stands. is.kept before told (seen.synced c.requires.synced) stands;
      plain = is.plain;
      opened = is.opened;
      limit = is.limit;
      dense = is.dense;
      pool = is.pool;
      group = is.group;
      spelled = is.spelled;
      frames = is.frames;
      workers = is.workers;
      untouched = is.untouched;
      device = is.device;
      causes = is.causes;
      full = is.full;
      unspelled = is.unspelled;
    })
