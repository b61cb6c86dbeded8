use Rattle.std.proofs.Common.{rules}
use Rattle.im_front_stats.proofs.CountLemmas.{starts}
use Rattle.im_front_stats.proofs.stats_cell.StatsCell.new.Goals as goal

pub of_words-requires : goal.of_words-requires
of_words-requires c = starts _ _ (search rules)
