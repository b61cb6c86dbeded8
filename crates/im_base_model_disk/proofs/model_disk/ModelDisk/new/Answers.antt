use Rattle.std.proofs.Common.{◌∙◌, ap, List, ℕ}
use Rattle.im_base_disk.specs.Disk.{three}
use Rattle.im_base_model_disk.proofs.model_disk.ModelDisk.new.Goals as goal

pub returns-clause-seen : goal.returns-clause-seen
returns-clause-seen c = c.with_log2.ensures.seen ∙ ap (λ (l : List ℕ). three c.args.log.items c.args.pages.items l) c.new-log2.ensures.items
