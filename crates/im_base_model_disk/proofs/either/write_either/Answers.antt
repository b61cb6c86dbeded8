use Rattle.std.proofs.Common.{◌≤◌, length}
use Rattle.im_base_model_disk.proofs.Patch.{log2_torn, log_torn, pages_torn}
use Rattle.im_base_model_disk.proofs.either.write_either.Goals as goal

pub returns-in-Log-clause-crash : goal.returns-in-Log-clause-crash
returns-in-Log-clause-crash c =
    let e = c.write_at.ensures in
    let place : c.args.at ≤ length c.args.log.now.bytes.items = rw c.in-Log.is at c.requires in
    rw c.in-Log.is (log_torn c.args.log.now c.write_at.new.self c.args.at c.args.bytes.now place e.bytes e.outcome c.args.pages.now c.args.log2.now)

pub returns-in-Pages-clause-crash : goal.returns-in-Pages-clause-crash
returns-in-Pages-clause-crash c =
    let e = c.write_at-in-Pages.ensures in
    let place : c.args.at ≤ length c.args.pages.now.bytes.items = rw c.in-Pages.is at c.requires in
    rw c.in-Pages.is (pages_torn c.args.pages.now c.write_at-in-Pages.new.self c.args.at c.args.bytes.now place e.bytes e.outcome c.args.log.now c.args.log2.now)

pub returns-in-Log2-clause-crash : goal.returns-in-Log2-clause-crash
returns-in-Log2-clause-crash c =
    let e = c.write_at-in-Log2.ensures in
    let place : c.args.at ≤ length c.args.log2.now.bytes.items = rw c.in-Log2.is at c.requires in
    rw c.in-Log2.is (log2_torn c.args.log2.now c.write_at-in-Log2.new.self c.args.at c.args.bytes.now place e.bytes e.outcome c.args.log.now c.args.pages.now)
