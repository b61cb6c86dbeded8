use Rattle.std.proofs.Common.{arith, length, ap, ◌≡◌}
use Rattle.im_smo_pages.proofs.ImageLemmas.{found_image, absent_image}
use Rattle.im_smo_pages.proofs.images.Images.find.Goals as goal

pub returns-then-at-len-clause-none : goal.returns-then-at-len-clause-none
returns-then-at-len-clause-none c =
    let len : length c.self.inside.images.items ≡ length c.args.self.now = ap length c.self.view_is in
    absent_image c.args.self.now c.args.number c.place-at.result (rw (← c.self.view_is) c.self.invariant) (record {
      within = c.place-at.ensures.within;
      below = c.place-at.ensures.below;
      above = λ lt. absurd (omega (arith, lt, len));
    })

pub returns-then-number-clause-page : goal.returns-then-number-clause-page
returns-then-number-clause-page c =
    let len : length c.self.inside.images.items ≡ length c.args.self.now = ap length c.self.view_is in
    found_image c.args.self.now c.args.number c.place-at.result (record {
      within = omega (arith, len, c.place-at.ensures.within);
      below = c.place-at.ensures.below;
      here = omega arith;
    })

pub returns-else-number-clause-none : goal.returns-else-number-clause-none
returns-else-number-clause-none c =
    absent_image c.args.self.now c.args.number c.place-at.result (rw (← c.self.view_is) c.self.invariant) (record {
      within = c.place-at.ensures.within;
      below = c.place-at.ensures.below;
      above = λ lt. omega (arith, c.place-at.ensures.above lt);
    })
