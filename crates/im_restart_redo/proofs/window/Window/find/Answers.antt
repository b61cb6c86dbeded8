use Rattle.std.proofs.Common.{ℕ, ◌-◌, drop, arith, refl}
use Rattle.im_restart_redo.proofs.Windows.{few_bytes, found_there}
use Rattle.im_restart_redo.proofs.window.Window.find.Goals as goal

pub returns-in-Some-clause-within : goal.returns-in-Some-clause-within
returns-in-Some-clause-within c =
    let whole = c.in-Some.ensures.whole in
    let at : ℕ = c.args.lsn - c.args.self.from in
    let few = few_bytes (c.args.self.used - at) (drop at c.args.room.now) in
    record { ordered = omega arith; within = omega (arith, whole.0, whole.1.most, few, c.requires) }

pub returns-in-Some-clause-found : goal.returns-in-Some-clause-found
returns-in-Some-clause-found c log r shows has same =
    let whole = c.in-Some.ensures.whole in
    found_there log c.args.self c.args.room.now (c.args.lsn - c.args.self.from) c.in-Some.size c.args.lsn r shows has same (omega arith) refl (omega arith) whole.0 whole.1 c.requires
