use Rattle.std.proofs.Common.{List, ℕ, [], map, Vec, Global, Ok, sym, ap, subst}
use Rattle.im_base_disk.proofs.Runs.{reads_then}
use Rattle.im_tool_lines.specs.Living.{IsLiving}
use Rattle.im_tool_lines.proofs.OpenedLogs.{read_leaves, create_leaves, read_result, made_living}
use Rattle.im_tool_lines.proofs.opened_batches.open_batches.Goals as goal

pub returns-in-Some-clause-living : goal.returns-in-Some-clause-living
returns-in-Some-clause-living g c =
    let first = rw c.in-Some.is at c.in_ok-gate.ensures.first in
    read_result g.D.Disk c.args.disk.now c.open.new.disk c.read_batches.new.disk c.requires.synced c.in_ok-gate.ensures.outcome.reads c.read_batches.ensures.outcome.reads c.in-Some.gate (first.of_file, first.place) first.starts first.made
    c.read_batches.result c.read_batches.ensures.ready c.read_batches.ensures.same c.read_batches.ensures.found

pub returns-in_ok-gate-in-None-clause-living : goal.returns-in_ok-gate-in-None-clause-living
returns-in_ok-gate-in-None-clause-living g c =
    let new = c.in_ok-gate-in-None.ensures.gate in
    subst (λ (l : List (Vec ℕ Global)). IsLiving g.D.Disk (map (λ batch. batch.items) l) [] [] c.in_ok-gate-in-None.gate c.create.new.disk) (sym c.new.ensures.items)
    (made_living g.D.Disk c.args.disk.now c.open.new.disk c.create.new.disk c.requires.synced c.in_ok-gate.ensures.outcome.reads c.create.ensures.any_moment g.met.D.Disk.counts_now
    (c.in_ok-gate.ensures.unmade (ap Ok c.in-None.is)) c.in_ok-gate-in-None.gate new.ready (new.first.of_file, new.first.place) new.first.starts new.first.made new.empty)

pub returns-in_err-gate-clause-leaves : goal.returns-in_err-gate-clause-leaves
returns-in_err-gate-clause-leaves g c = read_leaves g.D.Disk c.args.disk.now c.open.new.disk c.requires.synced c.in_err-gate.ensures.outcome.reads

pub returns-in_err-gate-in-None-clause-leaves : goal.returns-in_err-gate-in-None-clause-leaves
returns-in_err-gate-in-None-clause-leaves g c =
    create_leaves g.D.Disk c.args.disk.now c.open.new.disk c.requires.synced c.in_ok-gate.ensures.outcome.reads c.create.new.disk c.in_err-gate-in-None.ensures.any_moment g.met.D.Disk.counts_now (c.in_ok-gate.ensures.unmade (ap Ok c.in-None.is))

pub returns-in-Some-clause-leaves : goal.returns-in-Some-clause-leaves
returns-in-Some-clause-leaves g c =
    read_leaves g.D.Disk c.args.disk.now c.read_batches.new.disk c.requires.synced (reads_then g.D.Disk c.args.disk.now c.open.new.disk c.read_batches.new.disk c.in_ok-gate.ensures.outcome.reads c.read_batches.ensures.outcome.reads)

pub returns-in_ok-gate-in-None-clause-leaves : goal.returns-in_ok-gate-in-None-clause-leaves
returns-in_ok-gate-in-None-clause-leaves g c =
    create_leaves g.D.Disk c.args.disk.now c.open.new.disk c.requires.synced c.in_ok-gate.ensures.outcome.reads c.create.new.disk c.in_ok-gate-in-None.ensures.any_moment g.met.D.Disk.counts_now (c.in_ok-gate.ensures.unmade (ap Ok c.in-None.is))
