use Rattle.std.proofs.Common.{◌∙◌, sym, ap, length}
use Rattle.im_base_model_disk.proofs.Synced.{synced_both}
use Rattle.im_base_model_disk.proofs.model_disk.ModelDisk.with_log2.Goals as goal

pub returns-clause-synced : goal.returns-clause-synced
returns-clause-synced c =
    let l = c.new.ensures in
    let p = c.new-2.ensures in
    let q = c.new-3.ensures in
    λ file f left. synced_both c.new.result c.new-2.result c.new-3.result (l.synced ∙ sym (ap length l.bytes)) l.written (p.synced ∙ sym (ap length p.bytes)) p.written (q.synced ∙ sym (ap length q.bytes)) q.written f left file
