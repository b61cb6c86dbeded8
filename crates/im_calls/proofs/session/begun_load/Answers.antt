use Rattle.std.proofs.Common.{subst}
use Rattle.im_files_caller_disk.specs.declared.caller_disk.CallerDisk.{CallerDisk}
use Rattle.im_files_caller_disk.specs.contracts.caller_disk.CallerDiskDisk.TheImpl as caller
use Rattle.im_calls.specs.Loads.{IsLoadBegun}
use Rattle.im_calls.proofs.Named.{within}
use Rattle.im_calls.proofs.session.begun_load.Goals as goal

pub returns-clause-begun : goal.returns-clause-begun
returns-clause-begun c =
    let some = c.in-Some.ensures.some in
    record { none = λ high. within _ _ some.0 some.1 high; begun = λ _ _. subst (λ (d : CallerDisk). IsLoadBegun caller.ghosts d c.begin.new.call c.begin.result) some.2 c.begin.ensures.begun }
