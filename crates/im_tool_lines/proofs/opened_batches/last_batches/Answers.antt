use Rattle.std.proofs.Common.{map, Err, ap}
use Rattle.im_base_model_disk.specs.contracts.model_disk.ModelDiskDisk.TheImpl.{ghosts}
use Rattle.im_tool_lines.proofs.RawRunning.{raw_opening, raw_last_ok, raw_last_err}
use Rattle.im_tool_lines.proofs.Stands.{stands_once}
use Rattle.im_tool_lines.proofs.opened_batches.last_batches.Goals as goal

pub returns-in-Ok-clause-found : goal.returns-in-Ok-clause-found
returns-in-Ok-clause-found c after stands = stands_once (ghosts.seen c.args.disk.now) (map (λ batch. batch.items) c.in-Ok.batches.items) after (c.in-Ok.ensures.found tt) stands

pub returns-in-Err-clause-found : goal.returns-in-Err-clause-found
returns-in-Err-clause-found c after stands is = c.in-Err.ensures.refused (ap Err is) tt after stands

pub returns-in-Ok-clause-run : goal.returns-in-Ok-clause-run
returns-in-Ok-clause-run c =
    let e = c.open_batches.ensures in
    raw_last_ok ghosts c.args.disk.now c.open_batches.new.disk c.open_batches.result c.in-Ok._gate c.in-Ok.batches c.in-Ok.is
    (raw_opening ghosts c.args.disk.now c.open_batches.new.disk c.open_batches.result tt e.found e.refused e.device e.causes)

pub returns-in-Err-clause-run : goal.returns-in-Err-clause-run
returns-in-Err-clause-run c =
    let e = c.open_batches.ensures in
    raw_last_err ghosts c.args.disk.now c.open_batches.new.disk c.open_batches.result c.in-Err.fault c.in-Err.is
    (raw_opening ghosts c.args.disk.now c.open_batches.new.disk c.open_batches.result tt e.found e.refused e.device e.causes)
