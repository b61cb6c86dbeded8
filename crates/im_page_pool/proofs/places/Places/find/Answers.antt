use Rattle.std.proofs.Common.{nat_eq, sym, ap, ◌∙◌}
use Rattle.std.specs.Map.{lookup}
use Rattle.im_page_pool.specs.Places.{PlacesView}
use Rattle.im_page_pool.proofs.GuessLemmas.{held_there}
use Rattle.im_page_pool.proofs.places.Places.find.Goals as goal

pub returns-in-Some : goal.returns-in-Some
returns-in-Some c =
    sym (held_there c.args.p c.in-Some.place c.self.inside.by_use.entries c.self.invariant.0.numbers (c.self.invariant.2 c.in-Some.place c.args.p c.in-Some.ensures))
    ∙ ap (λ (v : PlacesView). lookup (nat_eq c.args.p) v.taken) c.self.view_is
