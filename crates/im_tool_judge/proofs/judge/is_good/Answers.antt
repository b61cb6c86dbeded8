use Rattle.std.proofs.Common.{◌≡◌, ◌↔◌, true, List, Result, sym, subst}
use Rattle.im_base_types.specs.Pages.{Entry}
use Rattle.im_base_types.specs.declared.fault.Fault.{Fault}
use Rattle.im_tool_judge.specs.Judged.{IsAllowed, IsGood}
use Rattle.im_tool_judge.proofs.judge.is_good.Goals as goal

pub returns-in_ok-good-in-Ok : goal.returns-in_ok-good-in-Ok
returns-in_ok-good-in-Ok c =
    let good = c.in_ok-good-in-Ok.good in
    subst (λ (f : Result _ Fault). good ≡ true ↔ IsGood c.args.asked.now f) (sym c.in-Ok.is)
    (subst (λ (l : List Entry). good ≡ true ↔ IsAllowed c.args.asked.now l) c.deref.ensures.value c.in_ok-good-in-Ok.ensures)
