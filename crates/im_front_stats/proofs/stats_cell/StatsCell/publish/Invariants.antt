use Rattle.std.proofs.Common.{◌≡◌}
use Rattle.crossbeam_utils.specs.Seq.{Stays}
use Rattle.crossbeam_utils.specs.declared.atomic.seq_cell.Stage.TheVariants.{Writing}
use Rattle.im_front_stats.proofs.stats_cell.StatsCell.publish.Given as goal

abbrev pub invariant-loop-i : goal.invariant-loop-i
invariant-loop-i l = Stays l.initial.pass l.pass × (l.pass.me.0.stage ≡ Writing l.fn.version l.fn.old l.fn.new l.i)
