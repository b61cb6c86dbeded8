use Rattle.std.proofs.Common.{rules}
use Rattle.im_base_types.specs.Maps.{is_below}
use Rattle.im_engine_access.proofs.scans.lacks_keys.Goals as goal

pub returns : goal.returns
unfolding is_below
returns c = search rules
