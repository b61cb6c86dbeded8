use Rattle.std.specs.Prelude.{◌≡◌}
use Rattle.im_base_types.specs.declared.fault.Fault.TheVariants.{Device}
use Rattle.im_store.specs.Stores.{AreRight}
use Rattle.im_store.proofs.Opened.{none_refused, refused_with, right}
use Rattle.im_store.proofs.open_store.look.Goals as goal

-- ---- the limits will be refused

pub returns-in-Some-clause-long : goal.returns-in-Some-clause-long
returns-in-Some-clause-long g c rights =
    let says = c.in-Some.ensures in absurd (none_refused _ c.args.config.frames c.args.config.workers says.frames.0 says.workers.0 says.causes rights)

-- ---- they are right

pub returns-clause-still : goal.returns-clause-still
returns-clause-still g c not = let says = c.in_default.ensures in absurd (not (right c.args.config.frames c.args.config.workers says.frames.1 says.workers.1))

pub returns-clause-causes : goal.returns-clause-causes
returns-clause-causes g c =
    let says = c.in_default.ensures in
    refused_with c.look_at_logs.result (λ e. e ≡ Device) (AreRight c.args.config) c.look_at_logs.ensures.causes (right c.args.config.frames c.args.config.workers says.frames.1 says.workers.1)
