use Rattle.std.proofs.Common.{◌≡◌, None, Some, refl, sym, ◌∙◌}
use Rattle.im_theory_page.specs.Entry.{entry_at}
use Rattle.im_page.proofs.KeyLists.{found_at}
use Rattle.im_page.proofs.leaf_edit.place_for.Goals as goal

pub returns-in-Ok-clause-refused : goal.returns-in-Ok-clause-refused
returns-in-Ok-clause-refused c = (
  refl,
  λ can.
      let es = c.args.page.now.body.entries in
      let i = c.in-Ok.field-0 in
      let clash : None ≡ Some (entry_at es i).1 = sym can.lacks ∙ found_at es c.args.key.now i c.law_content.ensures.rises c.in-Ok.ensures.0 c.in-Ok.ensures.1 in
      cc clash,
)
