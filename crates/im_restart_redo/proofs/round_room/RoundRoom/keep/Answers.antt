use Rattle.std.proofs.Common.{ℕ, List, arith, ◌∙◌}
use Rattle.im_restart_redo.proofs.Planned.{pushed_is}
use Rattle.im_restart_redo.proofs.round_room.RoundRoom.keep.Goals as goal

pub returns-clause-lsns : goal.returns-clause-lsns
returns-clause-lsns c =
    let ls : List ℕ = c.args.self.now.lsns.items in
    pushed_is _ _ ls c.args.lsn c.push.ensures.items (c.push.ensures.succeeds (omega (arith, c.requires.room, c.args.self.now.changes)))

pub returns-clause-kept : goal.returns-clause-kept
returns-clause-kept c = c.is_ok.ensures.value ∙ c.push.ensures.succeeds (omega (arith, c.requires.room, c.args.self.now.changes))
