use Rattle.std.proofs.Common.{subst, ◌≤◌, arith, sym}
use Rattle.im_theory_page.specs.Entry.{Rises}
use Rattle.im_theory_page.specs.Page.{is_leaf}
use Rattle.im_theory_page.specs.Child.{IsChild}
use Rattle.im_theory_page.proofs.ChildLemmas.{rises_of, child_found, child_leftmost, child_before}
use Rattle.im_page.proofs.page.Page.child.Goals as goal

pub returns-in-Ok-clause-child : goal.returns-in-Ok-clause-child
returns-in-Ok-clause-child c =
    let rises : Rises c.args.self.now.body.entries = rw (← c.self.view_is) (rises_of (is_leaf c.self.inside.bytes) c.self.inside.bytes c.self.invariant.packed.rises) in
    subst (IsChild c.args.self.now.body c.args.key.now) (sym c.value.ensures.value) (child_found c.args.self.now.body c.args.key.now c.in-Ok.i rises c.in-Ok.ensures)

pub returns-in-Err-eq0-clause-child : goal.returns-in-Err-eq0-clause-child
returns-in-Err-eq0-clause-child c =
    subst (IsChild c.args.self.now.body c.args.key.now) (sym c.leftmost.ensures) (child_leftmost c.args.self.now.body c.args.key.now (rw c.in-Err-eq0.field-0-test at c.in-Err-eq0.ensures))

pub returns-in-Err-clause-child : goal.returns-in-Err-clause-child
returns-in-Err-clause-child c =
    subst (IsChild c.args.self.now.body c.args.key.now) (sym c.value-in-Err.ensures.value) (child_before c.args.self.now.body c.args.key.now c.in-Err.i (let some : 1 ≤ c.in-Err.i = omega arith in some) c.in-Err.ensures)
