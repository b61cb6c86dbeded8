use Rattle.std.proofs.Common.{◌≡◌, ◌∙◌, ◌∷◌, List, ap}
use Rattle.im_tool_lines.specs.declared.store_answers.StoreReply.{StoreReply}
use Rattle.im_tool_lines.specs.declared.store_life.StoreLine.{StoreLine}
use Rattle.im_tool_judge.specs.declared.change.AskedEffect.{AskedEffect}
use Rattle.im_tool_judge.specs.Judged.{asked_in}
use Rattle.im_tool_every.specs.Swept.{asked_of, begun_with}
use Rattle.im_tool_every.proofs.start.Start.after.Goals as goal

pub returns : goal.returns
returns g c =
    let first = begun_with c.args.self.now.entries.items in
    record {
      disk = c.in_ok-disk.disk;
      begins = record { bytes = c.in_ok-disk.ensures.bytes; fresh = c.in_ok-disk.ensures.fresh };
      told = c.in_ok-told.told;
      end = c.in_ok-told.disk;
      run = c.in_ok-told.ensures.run;
      asked = c.deref-3.result.now;
      asks =
          ap (λ (l : List AskedEffect). asked_in l) c.deref-3.ensures.value
          ∙ c.in_ok-asked.ensures
          ∙ ap (λ (l : List StoreLine). first ∷ asked_of l c.deref-2.result.now) c.deref.ensures.value
          ∙ ap (λ (l : List StoreReply). first ∷ asked_of c.args.life.now.lines.items l) c.deref-2.ensures.value;
      left = c.in_ok-left.left;
      leaves = record { bytes = c.in_ok-left.ensures.bytes; fresh = c.in_ok-left.ensures.fresh };
      calls = c.in_ok-_calls._calls;
      judged = c.in_ok-_calls.ensures;
      goes_on = c.in_ok-next.ensures;
    }
