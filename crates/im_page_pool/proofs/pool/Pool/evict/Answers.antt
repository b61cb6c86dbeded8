use Rattle.std.proofs.Common.{ℕ, List, refl, sym, subst}
use Rattle.im_page_pool.specs.Pool.{Evicts}
use Rattle.im_page_pool.proofs.PoolLemmas.{seen_as, held_place, evicts, whole_given_back}
use Rattle.im_page_pool.proofs.pool.Pool.evict.Goals as goal

pub give_back-requires : goal.give_back-requires
give_back-requires c = let h = held_place c.self.inside.frames c.self.inside.places c.self.inside.gets.count c.args.self.now c.self.invariant c.self.view_is c.args.p c.requires in rw h.1 refl

pub invariant_of-self : goal.invariant_of-self
invariant_of-self c =
    let h = held_place c.self.inside.frames c.self.inside.places c.self.inside.gets.count c.args.self.now c.self.invariant c.self.view_is c.args.p c.requires in
    whole_given_back c.self.inside.frames c.self.inside.places c.self.inside.gets.count c.args.self.now c.self.invariant c.self.view_is c.args.p h.0 h.1 c.give_back.new.self c.give_back.ensures.taken (rw h.1 at c.give_back.ensures.free)

pub returns : goal.returns
returns c =
    let h = held_place c.self.inside.frames c.self.inside.places c.self.inside.gets.count c.args.self.now c.self.invariant c.self.view_is c.args.p c.requires in
    subst (λ (es : List (ℕ × ℕ)). Evicts c.args.p c.args.self.now (seen_as c.self.inside.frames es c.self.inside.gets.count)) (sym c.give_back.ensures.taken)
    (evicts c.self.inside.frames c.self.inside.places c.self.inside.gets.count c.args.self.now c.self.invariant c.self.view_is c.args.p h.0 h.1)
