use Rattle.std.proofs.Common.{ℕ, List, length, take, reverse, sym, ap, ◌∙◌, arith}
use Rattle.im_page_pool.specs.Pool.{PoolView, changed_numbers}
use Rattle.im_page_pool.proofs.EntryLemmas.{found_there, place_within}
use Rattle.im_page_pool.proofs.WalkLemmas.{numbers_held}
use Rattle.im_page_pool.proofs.pool.Pool.oldest_changes.Goals as goal

pub note_changed-requires : goal.note_changed-requires
note_changed-requires c = λ i e s.
    let w = place_within c.self.inside.places c.self.invariant.apart e.0 e.1 (found_there c.self.inside.places.taken i e.0 e.1 (c.self.invariant.apart.numbers e.0) s) in
    let a = c.self.invariant.all in omega arith

pub returns-clause-numbers : goal.returns-clause-numbers
returns-clause-numbers c =
    c.note_changed.ensures.numbers
    ∙ ap (λ (l : List ℕ). take (length c.args.numbers.now) l)
    (sym (numbers_held c.self.inside.frames c.self.inside.places.taken c.args.among) ∙ ap (λ (x : PoolView). changed_numbers (take c.args.among (reverse x.held))) c.self.view_is)
