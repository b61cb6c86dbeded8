use Rattle.std.proofs.Common.{rules}
use Rattle.crossbeam_utils.proofs.SeqKeeps.{splits}
use Rattle.im_front_stats.proofs.CountLemmas.{forks}
use Rattle.im_front_stats.proofs.stats_cell.StatsCell.reader.Goals as goal

pub split_seat-requires : goal.split_seat-requires
split_seat-requires c = (search rules, search rules, splits _ _ _ _ _ _ _ (forks _ _))
