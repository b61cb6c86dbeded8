use Rattle.std.proofs.Common.{◌≡◌, ℕ, List, true, false, Option, IsSome, option_map, refl, sym, ap, subst, ◌∙◌}
use Rattle.im_page_pool.specs.Places.{PlacesView}
use Rattle.im_page_pool.specs.Inside.{IsWhole}
use Rattle.im_page_pool.specs.Pool.{Held, Holds, MovesFirst}
use Rattle.im_page_pool.proofs.PoolLemmas.{seen_as, whole_promoted, moves_first, not_held, found, is_at, the_places}
use Rattle.im_page_pool.proofs.PlaceLemmas.{promoted_none}
use Rattle.im_page_pool.proofs.pool.Pool.touch.Goals as goal

pub invariant_of-self : goal.invariant_of-self
invariant_of-self c = whole_promoted c.self.inside.frames c.self.inside.places c.self.inside.gets.count c.args.self.now c.self.invariant c.self.view_is c.args.p c.in-Some.place (sym c.in-Some.ensures.found) c.touch.new.self (ap (λ (v : PlacesView). v.taken) c.touch.ensures.moved) (ap (λ (v : PlacesView). v.free) c.touch.ensures.moved)

pub returns-in-Some-clause-some : goal.returns-in-Some-clause-some
returns-in-Some-clause-some c =
    let s = sym c.in-Some.ensures.found in
    let m = subst (λ (es : List (ℕ × ℕ)). MovesFirst c.args.p c.args.self.now (seen_as c.self.inside.frames es c.self.inside.gets.count)) (sym (ap (λ (v : PlacesView). v.taken) c.touch.ensures.moved)) (moves_first c.self.inside.frames c.self.inside.places c.self.inside.gets.count c.args.self.now c.self.invariant c.self.view_is c.args.p c.in-Some.place s) in
    (refl, ap (option_map (λ (h : Held). h.place)) (m.all c.args.p) ∙ is_at c.self.inside.frames c.self.inside.places c.self.inside.gets.count c.args.self.now c.self.invariant c.self.view_is c.args.p c.in-Some.place s, m)

pub returns-in-Some-clause-holds : goal.returns-in-Some-clause-holds
returns-in-Some-clause-holds c = ((λ _. subst (λ (o : Option Held). IsSome o) (sym (found c.self.inside.frames c.self.inside.places c.self.inside.gets.count c.args.self.now c.self.invariant c.self.view_is c.args.p c.in-Some.place (sym c.in-Some.ensures.found))) refl), (λ _. refl))

pub invariant_of-self-2 : goal.invariant_of-self-2
invariant_of-self-2 c =
    subst (λ (v : PlacesView). IsWhole v c.self.inside.frames) (sym (c.touch.ensures.moved ∙ ap (λ (es : List (ℕ × ℕ)). the_places es c.self.inside.places.free) (promoted_none c.args.p c.self.inside.places.taken (sym c.in_default.ensures.found)))) c.self.invariant

pub returns-clause-none : goal.returns-clause-none
returns-clause-none c = λ _.
    ap (λ (v : PlacesView). seen_as c.self.inside.frames v.taken c.self.inside.gets.count) c.touch.ensures.moved
    ∙ ap (λ (es : List (ℕ × ℕ)). seen_as c.self.inside.frames es c.self.inside.gets.count) (promoted_none c.args.p c.self.inside.places.taken (sym c.in_default.ensures.found))
    ∙ c.self.view_is

pub returns-clause-holds : goal.returns-clause-holds
returns-clause-holds c = ((λ (x : false ≡ true). absurd cc), (λ (h : Holds c.args.self.now c.args.p). subst (λ (o : Option Held). IsSome o) (not_held c.self.inside.frames c.self.inside.places c.self.inside.gets.count c.args.self.now c.self.invariant c.self.view_is c.args.p (sym c.in_default.ensures.found)) h))
