use Rattle.im_calls.proofs.Named.{are_opened, within}
use Rattle.im_calls.proofs.session.opened.Goals as goal

pub returns-clause-opening : goal.returns-clause-opening
returns-clause-opening c =
    let some = c.in-Some.ensures.some in
    record {
      none = λ high. within _ _ some.0 some.1 high;
      opening = λ _ _. (c.new-2.result, are_opened _ c.in-Some.disk _ _ c.new-2.result some.2 c.new-files.ensures.way c.new.ensures.disk c.new.ensures.swapped c.new-2.ensures.disk c.new-2.ensures.copy, c.open.ensures.opening);
    }
