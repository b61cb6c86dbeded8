use Rattle.std.proofs.Common.{◌≡◌, ◌/◌, min, false, length}
use Rattle.im_base_types.specs.declared.file_id.FileId.TheVariants.{Pages}
use Rattle.im_load.specs.Files.{Fills}
use Rattle.im_load.specs.Goings.{WritesPages}
use Rattle.im_load.proofs.writing.fill.Given as goal

abbrev pub invariant-loop-missing : goal.invariant-loop-missing
invariant-loop-missing g l = record {
  working : g.D.Disk.failed l.disk ≡ false;
  from : g.D.Disk.tells → l.end ≡ min (length (g.D.Disk.seen l.fn.disk Pages) / 4096) l.fn.number;
  filled : g.D.Disk.tells → Fills (g.D.Disk.seen l.fn.disk Pages) (g.D.Disk.seen l.disk Pages) l.missing;
  run : WritesPages g.D.Disk l.fn.disk l.disk;
}
