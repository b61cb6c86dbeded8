use Rattle.std.proofs.Common.{arith}
use Rattle.std.proofs.lemmas.List.{length-take-le}
use Rattle.im_log_third_header.specs.Header.{front}
use Rattle.im_log_third_header.proofs.Spellings.{front_long, front_within, third_spelled}
use Rattle.im_log_third_header.proofs.spelling.spell.Goals as goal

pub slice_bounds-sum_of-end : goal.slice_bounds-sum_of-end
slice_bounds-sum_of-end c =
    let within = front_within c.args.header.now c.spell_front-bytes.result c.spell_front-bytes.ensures.salted c.spell_front-bytes.ensures.front in
    omega (arith, within, length-take-le 42 c.spell_front-bytes.result within)

pub returns-clause-third : goal.returns-clause-third
returns-clause-third c =
    third_spelled (front c.args.header.now) c.spell_front-bytes.result _ c.sum_of-sum.result (front_long c.args.header.now c.spell_front-bytes.ensures.salted) c.spell_front-bytes.ensures.front c.sum_of-sum.ensures
    c.put_sum.ensures
