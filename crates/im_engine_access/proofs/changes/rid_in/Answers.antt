use Rattle.std.proofs.Common.{ℕ, Some, ap, sym, ◌∙◌}
use Rattle.im_theory_tree.proofs.LookupLemmas.{found_at, absent_at}
use Rattle.im_engine_access.proofs.changes.rid_in.Goals as goal

pub returns-in-Ok : goal.returns-in-Ok
returns-in-Ok c = ap (λ (v : ℕ). Some v) c.value.ensures.value ∙ sym (found_at c.args.page.now.body.entries c.args.key.now c.in-Ok.i c.law_content.ensures.rises c.in-Ok.ensures)

pub returns-in-Err : goal.returns-in-Err
returns-in-Err c = sym (absent_at c.args.page.now.body.entries c.args.key.now c.in-Err.field-0 c.in-Err.ensures)
