use Rattle.std.proofs.Common.{◌≡◌, ◌≤◌, ◌-◌, length}
use Rattle.im_files_belonging.specs.LeftLog.{walk_piece}
use Rattle.im_files_belonging.proofs.left_log.LeftLog.take.Given as goal

abbrev pub invariant-loop-count : goal.invariant-loop-count
invariant-loop-count l = record {
  within : l.count ≤ length l.piece;
  from : l.start ≡ l.fn.self.place;
  walked : l.self ≡ walk_piece l.count l.start l.piece l.fn.self;
}

abbrev pub decreases-loop-count : goal.decreases-loop-count
decreases-loop-count l = length l.piece - l.count
