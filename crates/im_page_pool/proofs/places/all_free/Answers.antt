use Rattle.std.proofs.Common.{◌≡◌, ◌-◌, [], ◌∷◌, ◌++◌, subst, sym, arith}
use Rattle.std.proofs.lemmas.Grind.{common_steps}
use Rattle.im_page_pool.proofs.PlaceLemmas.{AreLast, none_of_last, last_push}
use Rattle.im_page_pool.proofs.places.all_free.Goals as goal

pub loop-i-init : goal.loop-i-init
loop-i-init c =
    let e : c.in_ok-free.free.items ≡ [] = grind (arith, common_steps) in
    record { all = subst (AreLast c.args.frames 0) (sym e) (none_of_last c.args.frames); room = grind (arith, common_steps) }

pub loop-i-preserved : goal.loop-i-preserved
loop-i-preserved c =
    let e : c.push.new.self.items ≡ c.loop-i.free.items ++ (c.args.frames - 1 - c.loop-i.i) ∷ [] = grind (arith, common_steps) in
    record { all = last_push c.args.frames c.loop-i.i c.loop-i.free.items c.push.new.self.items c.loop-i.invariant.all (omega arith) e; room = omega (arith, c.push.ensures.capacity) }
