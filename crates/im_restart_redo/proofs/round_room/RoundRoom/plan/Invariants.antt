use Rattle.std.proofs.Common.{◌≡◌}
use Rattle.im_restart_redo.specs.Segments.{IsPlanned}
use Rattle.im_restart_redo.proofs.round_room.RoundRoom.plan.Given as goal

abbrev pub invariant-loop-change : goal.invariant-loop-change
invariant-loop-change l = record {
  most : l.self.most ≡ l.fn.self.most;
  longest : l.self.longest ≡ l.fn.self.longest;
  planned : IsPlanned l.most l.changes l.change-index l.self.numbers.items l.self.lsns.items;
}
