use Rattle.std.proofs.Common.{◌≤◌, length, arith}
use Rattle.im_base_sum_disk.proofs.AtPlaces.{no_more}
use Rattle.im_base_sum_disk.proofs.shown.shows_no_more.Goals as goal

pub returns-clause-shows : goal.returns-clause-shows
returns-clause-shows c = λ _. no_more c.args.some.now c.args.other.now c.loop-place.place
    (let all : length c.args.some.now ≤ c.loop-place.place = omega (arith, c.loop-place-test.false) in all) c.loop-place.invariant.below
