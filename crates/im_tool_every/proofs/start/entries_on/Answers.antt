use Rattle.im_tool_drill.proofs.NamedDisk.{own_synced, own_working}
use Rattle.im_tool_every.proofs.start.entries_on.Goals as goal

pub open_store-requires-clause-working : goal.open_store-requires-clause-working
open_store-requires-clause-working g c lifetimes within = own_working c.args.disk c.new.result (c.new.ensures.disk, c.new.ensures.swapped) c.requires.working

pub open_store-requires-clause-synced : goal.open_store-requires-clause-synced
open_store-requires-clause-synced g c lifetimes within = own_synced c.args.disk c.new.result (c.new.ensures.disk, c.new.ensures.swapped) c.requires.synced
