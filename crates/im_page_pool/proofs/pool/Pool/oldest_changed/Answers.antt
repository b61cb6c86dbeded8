use Rattle.std.proofs.Common.{ℕ, Option, option_map, sym, ap, ◌∙◌, arith}
use Rattle.im_page_pool.specs.Inside.{held_at}
use Rattle.im_page_pool.specs.Pool.{PoolView, frame_of, last_changed}
use Rattle.im_page_pool.proofs.EntryLemmas.{found_there, place_within}
use Rattle.im_page_pool.proofs.WalkLemmas.{last_held, marked_stands}
use Rattle.im_page_pool.proofs.PoolLemmas.{is_at}
use Rattle.im_page_pool.proofs.pool.Pool.oldest_changed.Goals as goal

pub last_changed-requires : goal.last_changed-requires
last_changed-requires c = λ i e s.
    let w = place_within c.self.inside.places c.self.invariant.apart e.0 e.1 (found_there c.self.inside.places.taken i e.0 e.1 (c.self.invariant.apart.numbers e.0) s) in
    let a = c.self.invariant.all in omega arith

pub returns-in-Some-clause-oldest : goal.returns-in-Some-clause-oldest
returns-in-Some-clause-oldest c =
    sym (ap (λ (x : PoolView). option_map frame_of (last_changed x.held)) (sym c.self.view_is)
    ∙ ap (option_map frame_of) (last_held c.self.inside.frames c.self.inside.places.taken)
    ∙ ap (λ (o : Option (ℕ × ℕ)). option_map frame_of (option_map (λ (x : ℕ × ℕ). (x.0, held_at c.self.inside.frames x.1)) o)) (sym c.in-Some.ensures))

pub returns-in-Some-clause-at : goal.returns-in-Some-clause-at
returns-in-Some-clause-at c =
    let h = marked_stands c.self.inside.frames c.self.inside.places.taken (c.in-Some.number, c.in-Some.place) (sym c.in-Some.ensures) in
    is_at c.self.inside.frames c.self.inside.places c.self.inside.gets.count c.args.self.now c.self.invariant c.self.view_is c.in-Some.number c.in-Some.place (found_there c.self.inside.places.taken h.0 c.in-Some.number c.in-Some.place (c.self.invariant.apart.numbers c.in-Some.number) h.1)

pub returns-in-None-clause-oldest : goal.returns-in-None-clause-oldest
returns-in-None-clause-oldest c =
    sym (ap (λ (x : PoolView). option_map frame_of (last_changed x.held)) (sym c.self.view_is)
    ∙ ap (option_map frame_of) (last_held c.self.inside.frames c.self.inside.places.taken)
    ∙ ap (λ (o : Option (ℕ × ℕ)). option_map frame_of (option_map (λ (x : ℕ × ℕ). (x.0, held_at c.self.inside.frames x.1)) o)) (sym c.in-None.ensures))
