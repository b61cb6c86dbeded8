use Rattle.std.proofs.Common.{rules, ◌∙◌, ap}
use Rattle.crossbeam_utils.proofs.SeqKeeps.{looks, checks}
use Rattle.im_front_stats.specs.Counts.{Loaded}
use Rattle.im_front_stats.specs.declared.version_rule.Known.{Known}
use Rattle.im_front_stats.proofs.CountLemmas.{loads}
use Rattle.im_front_stats.proofs.stats_cell.StatsCell.try_load.Goals as goal

pub load-version-requires : goal.load-version-requires
load-version-requires c = (search rules, search rules, looks _ _ _ _ _ _)

pub load-requires : goal.load-requires
load-requires c = (search rules, search rules, checks _ _ _ Loaded _ _ _ (loads _ _ (ap (λ (k : Known). k.writes) (c.gather-bits.ensures.0.2 ∙ c.load-version.ensures.2.0) ∙ c.requires.reads)))
