use Rattle.std.proofs.Common.{ℕ, ◌≤◌, sym, subst, ◌∙◌}
use Rattle.im_engine_locks.proofs.Owners.{own_list}
use Rattle.im_engine_locks.proofs.lock_table.is_alone.Goals as goal

pub returns : goal.returns
returns c = λ yes s ne. own_list c.args.owners.now c.args.t (subst (λ (n : ℕ). n ≤ 1) c.len-count.ensures.len c.if-count-gt1.false) (sym c.contains_key.ensures ∙ yes) s ne
