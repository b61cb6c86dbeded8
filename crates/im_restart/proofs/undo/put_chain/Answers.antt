use Rattle.std.proofs.Common.{rules, ◌≡◌, None, Some}
use Rattle.std.specs.Ordering.{nat_cmp}
use Rattle.std.specs.BTreeMap.{get}
use Rattle.im_restart.proofs.Bounds.{above_insert}
use Rattle.im_restart.proofs.Losers.{chains_free, chains_put}
use Rattle.im_restart.proofs.undo.put_chain.Goals as goal

pub returns-in-Ok-None-clause-kept : goal.returns-in-Ok-None-clause-kept
returns-in-Ok-None-clause-kept c b out log up are left goes some =
    let free : get nat_cmp c.args.chains.now c.args.lsn ≡ None = search rules in
    chains_put b out c.args.chains.now c.insert.new.self log c.args.chain c.args.lsn are left goes some free c.in-Ok-None.ensures.updates.0

pub returns-in-Ok-None-clause-above : goal.returns-in-Ok-None-clause-above
returns-in-Ok-None-clause-above c n lt le = rw c.in-Ok-None.ensures.entries (above_insert c.args.chains.now.entries c.args.lsn c.args.chain n lt le)

pub returns-in-Ok-Some-clause-kept : goal.returns-in-Ok-Some-clause-kept
returns-in-Ok-Some-clause-kept c b out log up are left goes some =
    let there : get nat_cmp c.args.chains.now c.args.lsn ≡ Some c.in-Ok-Some.field-0-0 = search rules in
    absurd (chains_free b out c.args.chains.now log c.args.chain c.in-Ok-Some.field-0-0 c.args.lsn up are goes some there)
