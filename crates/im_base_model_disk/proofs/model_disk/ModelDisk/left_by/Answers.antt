use Rattle.im_base_model_disk.proofs.StopLemmas.{left_both, left_may_both}
use Rattle.im_base_model_disk.proofs.model_disk.ModelDisk.left_by.Goals as goal

pub returns-clause-bytes : goal.returns-clause-bytes
returns-clause-bytes c = left_both c.args.length c.args.fill.now c.args.self.now.log c.args.self.now.pages c.args.self.now.log2 c.in-Ok.log.items c.in-Ok-left.pages.items c.in-Ok-left-2.log2.items _ c.with_log2.ensures.seen c.in-Ok.ensures c.in-Ok-left.ensures c.in-Ok-left-2.ensures

pub returns-clause-left : goal.returns-clause-left
returns-clause-left c = left_may_both c.args.length c.args.fill.now c.args.self.now.log c.args.self.now.pages c.args.self.now.log2 c.in-Ok.log.items c.in-Ok-left.pages.items c.in-Ok-left-2.log2.items _ c.with_log2.ensures.seen c.in-Ok.ensures c.in-Ok-left.ensures c.in-Ok-left-2.ensures
