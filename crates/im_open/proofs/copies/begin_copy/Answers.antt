use Rattle.std.proofs.Common.{◌≡◌, false, subst, sym}
use Rattle.std.specs.Prelude.{Ok}
use Rattle.im_open.proofs.copies.begin_copy.Goals as goal

-- the folder made the files, and no call was made between
pub returns-in-Ok-clause-begun : goal.returns-in-Ok-clause-begun
returns-in-Ok-clause-begun g c = record {
  to = c.new.result;
  handed = record { handed = subst (λ x. g.F.Folder.makes c.args.folder.now (Ok x)) (sym c.new.ensures.disk) c.in-Ok.ensures.asked; own = c.new.ensures.swapped };
  working = subst (λ x. g.F.Disk.failed x ≡ false) (sym c.new.ensures.disk) c.in-Ok.ensures.working;
  begun = c.begin_copy.ensures.begun;
}
