use Rattle.std.proofs.Common.{sym, ◌∙◌}
use Rattle.im_base_sum_disk.proofs.AtPlaces.{none_there}
use Rattle.im_base_sum_disk.proofs.shown.shown_within.Goals as goal

pub returns-clause-none : goal.returns-clause-none
returns-clause-none c = λ _. none_there c.args.file.now c.args.place c.requires.header c.requires.within (sym c.counts-counted.ensures ∙ c.if-counted.false)
