use Rattle.std.proofs.Common.{◌≡◌, length}
use Rattle.crossbeam_utils.specs.Seq.{Gathered, Stays}
use Rattle.im_front_stats.proofs.stats_cell.StatsCell.gather.Given as goal

abbrev pub invariant-loop-i : goal.invariant-loop-i
invariant-loop-i l = Stays l.initial.pass l.pass × (length l.bits ≡ 3) × Gathered (λ x. x) l.i l.bits l.initial.pass.me.0.stage l.pass.me.0.stage
