use Rattle.std.proofs.Common.{◌≡◌, ◌∙◌, ◌∷◌, List, ap}
use Rattle.im_base_types.specs.Lives.{Asked}
use Rattle.im_base_types.specs.Pages.{Entry}
use Rattle.im_tool_judge.specs.declared.change.AskedEffect.{AskedEffect}
use Rattle.im_tool_judge.specs.Judged.{asked_in}
use Rattle.im_tool_every.specs.Swept.{begun_with}
use Rattle.im_tool_every.proofs.start.Start.asked.Goals as goal

pub returns : goal.returns
returns c =
    let rest = c.in_ok-asked.asked.items in
    ap (λ (l : List AskedEffect). asked_in l) c.in_ok-insert.ensures.items
    ∙ ap (λ (a : Asked). a ∷ asked_in rest) (c.in_ok-first.ensures ∙ ap (λ (l : List Entry). begun_with l) c.deref.ensures.value)
    ∙ ap (λ (l : List Asked). begun_with c.args.self.now.entries.items ∷ l) c.in_ok-asked.ensures
