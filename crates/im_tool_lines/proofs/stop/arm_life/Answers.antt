use Rattle.im_base_model_disk.specs.contracts.model_disk.ModelDiskDisk.TheImpl.{ghosts}
use Rattle.im_base_disk.proofs.Runs.{reads_then}
use Rattle.im_tool_lines.proofs.stop.arm_life.Goals as goal

pub returns-clause-reads : goal.returns-clause-reads
returns-clause-reads c =
    reads_then ghosts c.args.disk.now c.arm_call.new.disk c.arm_read.new.disk (reads_then ghosts c.args.disk.now c.arm.new.disk c.arm_call.new.disk c.in_ok-arm.ensures.reads c.arm_call.ensures.reads) c.arm_read.ensures.reads

pub returns-clause-synced : goal.returns-clause-synced
returns-clause-synced c synced = c.arm_read.ensures.synced (c.arm_call.ensures.synced (c.in_ok-arm.ensures.synced synced))
