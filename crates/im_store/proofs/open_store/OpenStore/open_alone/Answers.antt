use Rattle.std.proofs.Common.{ap}
use Rattle.std.specs.Prelude.{Err}
use Rattle.im_store.proofs.Opened.{look_refused, store_opened, store_refused}
use Rattle.im_store.proofs.open_store.OpenStore.open_alone.Goals as goal

pub returns-in-Err : goal.returns-in-Err
returns-in-Err g c =
    let why = c.in-Err.ensures.causes in
    look_refused g.D.Disk c.args.config c.args.bounds c.args.disk c.in-Err.fault c.look.new.disk why.0 why.1 c.look.ensures.reads (c.in-Err.ensures.device.0 (ap Err why.0))

pub returns-in-Ok-open_alone : goal.returns-in-Ok-open_alone
returns-in-Ok-open_alone g c =
    store_opened g.D.Disk c.args.config c.args.bounds c.args.disk c.look.new.disk c.kept_by.result c.in-Ok-open_alone.engine c.in-Ok-open_alone.engine.had_first c.in-Ok.files.is_long c.in-Ok.files.is_bare c.kept_by.ensures.engine c.look.ensures.reads c.look.ensures.still
    c.in-Ok-open_alone.ensures.opening c.kept_by.ensures.upkeep c.kept_by.ensures.unkept c.in-Ok-open_alone.ensures.first c.in-Ok.ensures.long

pub returns-in-Err-open_alone : goal.returns-in-Err-open_alone
returns-in-Err-open_alone g c =
    store_refused g.D.Disk c.args.config c.args.bounds c.args.disk c.look.new.disk c.in-Err-open_alone.refused c.look.ensures.reads c.look.ensures.still c.in-Err-open_alone.ensures.opening
