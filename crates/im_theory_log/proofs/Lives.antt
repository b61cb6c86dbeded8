-- A life that adds nothing.
use Rattle.std.proofs.Common.{List, [], refl, sym, append-nil}
use Rattle.im_base_types.specs.Changes.{Effect}
use Rattle.im_base_types.specs.Lives.{Survives}

-- A life that asked nothing adds nothing: an opening that was refused or stopped.
pub survives_none : (before : List Effect) → Survives before [] before
survives_none before = record { kept = []; lost = []; all = refl; no_ack_lost = tt; is = sym (append-nil before) }
