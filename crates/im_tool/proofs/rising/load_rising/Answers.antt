use Rattle.std.proofs.Common.{◌≡◌, [], subst, Option}
use Rattle.std.specs.Prelude.{IfSome}
use Rattle.im_base_disk.specs.Runs.{IsSynced}
use Rattle.im_load.specs.declared.loader.Loader.{Loader}
use Rattle.im_load.specs.Files.{AreEmpty}
use Rattle.im_load.specs.HasTaken.{IsLoading}
use Rattle.im_tool.proofs.RisingLoads.{none_begun}
use Rattle.im_tool.proofs.rising.load_rising.Goals as goal

pub returns-in-Err-clause-stops : goal.returns-in-Err-clause-stops
returns-in-Err-clause-stops g c empty = none_begun g.D.Disk c.args.disk.now c.begin.new.disk (g.met.D.Disk.only_now c.args.disk.now) c.begin.ensures.reads c.requires.synced empty

pub returns-in_default-clause-stops : goal.returns-in_default-clause-stops
returns-in_default-clause-stops g c empty = none_begun g.D.Disk c.args.disk.now c.begin.new.disk (g.met.D.Disk.only_now c.args.disk.now) c.begin.ensures.reads c.requires.synced empty

pub returns-clause-loaded : goal.returns-clause-loaded
returns-clause-loaded g c =
    let begun : (g.D.Disk.tells → AreEmpty (g.D.Disk.seen c.begin.new.disk)) × (IsSynced g.D.Disk c.args.disk.now → IsLoading g.D.Disk c.args.disk.now c.in-Some.loader c.begin.new.disk []) =
    subst (λ (o : Option Loader). IfSome o (λ (l : Loader). (g.D.Disk.tells → AreEmpty (g.D.Disk.seen c.begin.new.disk)) × (IsSynced g.D.Disk c.args.disk.now → IsLoading g.D.Disk c.args.disk.now l c.begin.new.disk [])))
    c.in-Some.is c.in-Ok.ensures.begun in
    c.load_text_with.ensures.loaded c.args.disk.now (begun.1 c.requires.synced)

pub returns-clause-stops : goal.returns-clause-stops
returns-clause-stops g c empty =
    let begun : (g.D.Disk.tells → AreEmpty (g.D.Disk.seen c.begin.new.disk)) × (IsSynced g.D.Disk c.args.disk.now → IsLoading g.D.Disk c.args.disk.now c.in-Some.loader c.begin.new.disk []) =
    subst (λ (o : Option Loader). IfSome o (λ (l : Loader). (g.D.Disk.tells → AreEmpty (g.D.Disk.seen c.begin.new.disk)) × (IsSynced g.D.Disk c.args.disk.now → IsLoading g.D.Disk c.args.disk.now l c.begin.new.disk [])))
    c.in-Some.is c.in-Ok.ensures.begun in
    c.load_text_with.ensures.stops c.args.disk.now (begun.1 c.requires.synced)
