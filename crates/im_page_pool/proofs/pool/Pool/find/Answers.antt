use Rattle.std.proofs.Common.{option_map, sym, ap}
use Rattle.im_page_pool.specs.Pool.{Held, frame_of}
use Rattle.im_page_pool.proofs.PoolLemmas.{found, is_at, not_held}
use Rattle.im_page_pool.proofs.pool.Pool.find.Goals as goal

pub returns-in-Some-clause-found : goal.returns-in-Some-clause-found
returns-in-Some-clause-found c = sym (ap (option_map (λ (h : Held). frame_of (c.args.p, h))) (found c.self.inside.frames c.self.inside.places c.self.inside.gets.count c.args.self.now c.self.invariant c.self.view_is c.args.p c.in-Some.place (sym c.in-Some.ensures)))

pub returns-in-Some-clause-at : goal.returns-in-Some-clause-at
returns-in-Some-clause-at c = is_at c.self.inside.frames c.self.inside.places c.self.inside.gets.count c.args.self.now c.self.invariant c.self.view_is c.args.p c.in-Some.place (sym c.in-Some.ensures)

pub returns-in-None-clause-found : goal.returns-in-None-clause-found
returns-in-None-clause-found c = sym (ap (option_map (λ (h : Held). frame_of (c.args.p, h))) (not_held c.self.inside.frames c.self.inside.places c.self.inside.gets.count c.args.self.now c.self.invariant c.self.view_is c.args.p (sym c.in-None.ensures)))
