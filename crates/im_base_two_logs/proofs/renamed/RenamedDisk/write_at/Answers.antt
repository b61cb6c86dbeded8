use Rattle.std.proofs.Common.{length, subst}
use Rattle.im_base_types.specs.declared.file_id.FileId.{FileId}
use Rattle.im_base_disk.specs.Disk.{Follows, InFile, Torn}
use Rattle.im_base_two_logs.proofs.Names.{follows_named, unforged_named}
use Rattle.im_base_two_logs.proofs.renamed.RenamedDisk.write_at.Goals as goal

pub returns-clause-crash : goal.returns-clause-crash
returns-clause-crash g c =
    follows_named c.args.self.now.swapped c.args.file (Torn c.args.at (length c.args.bytes.now)) (g.D.Disk.may_leave c.args.self.now.disk) (g.D.Disk.may_leave c.write_at.new.self)
    (subst (λ (f : FileId). Follows (InFile f (Torn c.args.at (length c.args.bytes.now))) (g.D.Disk.may_leave c.args.self.now.disk) (g.D.Disk.may_leave c.write_at.new.self)) c.file_of.ensures c.write_at.ensures.crash)

pub returns-clause-unforged : goal.returns-clause-unforged
returns-clause-unforged g c sums =
    unforged_named c.args.self.now.swapped c.args.file c.file_of.result c.args.at c.args.bytes.now (g.D.Disk.may_leave c.args.self.now.disk) (g.D.Disk.may_leave c.write_at.new.self) c.file_of.ensures (c.write_at.ensures.unforged sums)
