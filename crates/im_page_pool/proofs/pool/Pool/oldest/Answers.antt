use Rattle.std.proofs.Common.{ℕ, List, option_map, sym, ap}
use Rattle.lru.specs.LruCache.{last_entry}
use Rattle.im_page_pool.specs.Pool.{Held, frame_of}
use Rattle.im_page_pool.proofs.PoolLemmas.{last_is_at, none_held}
use Rattle.im_page_pool.proofs.pool.Pool.oldest.Goals as goal

pub returns-in-Some-clause-at : goal.returns-in-Some-clause-at
returns-in-Some-clause-at c = last_is_at c.self.inside.frames c.self.inside.places c.self.inside.gets.count c.args.self.now c.self.invariant c.self.view_is c.in-Some.number c.in-Some.place (sym c.in-Some.ensures)

pub returns-in-None-clause-oldest : goal.returns-in-None-clause-oldest
returns-in-None-clause-oldest c = sym (ap (λ (l : List (ℕ × Held)). option_map frame_of (last_entry l)) (none_held c.self.inside.frames c.self.inside.places c.self.inside.gets.count c.args.self.now c.self.invariant c.self.view_is (sym c.in-None.ensures)))

pub returns-in-None-clause-some : goal.returns-in-None-clause-some
returns-in-None-clause-some c = λ _. none_held c.self.inside.frames c.self.inside.places c.self.inside.gets.count c.args.self.now c.self.invariant c.self.view_is (sym c.in-None.ensures)
