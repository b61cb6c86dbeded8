use Rattle.std.proofs.Common.{Bool, sym, subst}
use Rattle.im_base_model_disk.specs.contracts.model_disk.ModelDiskDisk.TheImpl.{ghosts}
use Rattle.im_base_model_disk.specs.declared.stop.Stop.{Stop}
use Rattle.im_tool_drill.proofs.NamedDisk.{named_ghosts}
use Rattle.im_tool_every.specs.Stopped.{IsStoppedIn, IsStoppedOn}
use Rattle.im_tool_every.proofs.TornFiles.{keeps, keeps_not}
use Rattle.im_tool_every.proofs.every.stopped_in.Goals as goal

pub returns-then-not-way : goal.returns-then-not-way
returns-then-not-way g c =
    let single = keeps_not c.args.way.keeps_single c.if-not-way.true in
    subst (λ (b : Bool). IsStoppedIn ghosts named_ghosts b c.args.options c.args.call c.args.way c.args.disk.now c.in_ok-filled.filled) (sym single) (c.in_ok-stop.stop, c.in_ok-stop.ensures, c.in_ok-filled.ensures.stopped)

pub returns : goal.returns
returns g c =
    let single = keeps c.args.way.keeps_single c.if-not-way.false in
    let written = subst (λ (s : Stop). IsStoppedOn ghosts named_ghosts c.args.options s c.args.disk.now c.in_ok-written.written) c.written_at.ensures c.in_ok-written.ensures.stopped in
    subst (λ (b : Bool). IsStoppedIn ghosts named_ghosts b c.args.options c.args.call c.args.way c.args.disk.now c.in_ok-next.next) (sym single)
    (c.in_ok-stop.stop, c.in_ok-filled.filled, c.in_ok-written.written, c.in_ok-stop.ensures, c.in_ok-filled.ensures.stopped, written, c.in_ok-next.ensures.torn)
