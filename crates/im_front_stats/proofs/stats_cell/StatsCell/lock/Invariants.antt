use Rattle.crossbeam_utils.specs.Seq.{Stays}
use Rattle.im_front_stats.proofs.stats_cell.StatsCell.lock.Given as goal

abbrev pub invariant-loop : goal.invariant-loop
invariant-loop g l = Stays l.initial.pass l.pass
