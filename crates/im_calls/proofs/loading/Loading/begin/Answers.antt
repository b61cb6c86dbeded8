use Rattle.std.proofs.Common.{◌≡◌, inl, [], refl, subst, rules, Option}
use Rattle.std.specs.Prelude.{IfSome}
use Rattle.im_base_types.specs.declared.fault.Fault.TheVariants.{NotAStore}
use Rattle.im_base_disk.specs.Runs.{IsSynced}
use Rattle.im_load.specs.declared.loader.Loader.{Loader}
use Rattle.im_load.specs.Files.{AreEmpty}
use Rattle.im_load.specs.HasTaken.{IsLoading}
use Rattle.im_calls.proofs.loading.Loading.begin.Goals as goal

pub returns-clause-begun : goal.returns-clause-begun
returns-clause-begun g c =
    let begun : (g.D.Disk.tells → AreEmpty (g.D.Disk.seen c.begin.new.disk)) × (IsSynced g.D.Disk c.args.disk → IsLoading g.D.Disk c.args.disk c.in-Some.loader c.begin.new.disk []) =
    subst (λ (o : Option Loader). IfSome o (λ (l : Loader). (g.D.Disk.tells → AreEmpty (g.D.Disk.seen c.begin.new.disk)) × (IsSynced g.D.Disk c.args.disk → IsLoading g.D.Disk c.args.disk l c.begin.new.disk [])))
    c.in-Some.is c.in-Ok.ensures.begun in
    (c.tell.ensures.told, search rules, begun.0, begun.1)

pub returns-in_default-clause-begun : goal.returns-in_default-clause-begun
returns-in_default-clause-begun g c =
    record { fault = NotAStore; tells = c.refuse-in_default.ensures.told; left = c.begin.new.disk; reads = c.begin.ensures.reads; causes = inl (refl, c.begin.ensures.none (search rules)) }
