use Rattle.std.proofs.Common.{arith}
use Rattle.std.proofs.lemmas.Bool.{and_parts, leb-true, ltb-true}
use Rattle.im_page.proofs.UniformLemmas.{place_at}
use Rattle.im_page.proofs.form.is_place.Goals as goal

pub returns : goal.returns
returns c = λ t.
    let both = and_parts _ _ t in
    place_at c.args.at c.args.start c.args.size c.args.inverse (omega (arith, c.ranges.at.fits)) c.requires.start c.requires.size c.requires.short c.requires.inverse
    (leb-true _ _ both.0) (ltb-true _ _ both.1)
