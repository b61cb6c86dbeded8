use Rattle.std.proofs.Common.{◌≡◌, ◌∙◌, ◌∷◌, List, ap, subst}
use Rattle.im_base_model_disk.specs.contracts.model_disk.ModelDiskDisk.TheImpl.{ghosts}
use Rattle.im_tool_drill.proofs.NamedDisk.{named_ghosts}
use Rattle.im_base_model_disk.specs.declared.model_disk.ModelDisk.{ModelDisk}
use Rattle.im_tool_lines.specs.declared.store_answers.StoreReply.{StoreReply}
use Rattle.im_tool_lines.specs.declared.store_life.StoreLine.{StoreLine}
use Rattle.im_tool_lines.specs.Stops.{IsNextDisk}
use Rattle.im_tool_judge.specs.declared.change.AskedEffect.{AskedEffect}
use Rattle.im_tool_judge.specs.Judged.{asked_in}
use Rattle.im_tool_every.specs.declared.every.Counts.{Counts}
use Rattle.im_tool_every.specs.Counted.{counted, IsJudgedIn}
use Rattle.im_tool_every.specs.Swept.{asked_of, begun_with}
use Rattle.im_tool_every.proofs.failing.one_failure.Goals as goal

pub returns-clause-failure : goal.returns-clause-failure
returns-clause-failure g c =
    let first = begun_with c.args.start.now.entries.items in
    let lines = c.args.life.now.lines.items in
    record {
      stop = c.in_ok-stop.stop;
      is_at = c.in_ok-stop.ensures;
      disk = c.in_ok-disk.disk;
      begins = subst (λ (x : ModelDisk). IsNextDisk ghosts x c.in_ok-disk.disk) c.disk.ensures (record { bytes = c.in_ok-disk.ensures.bytes; fresh = c.in_ok-disk.ensures.fresh });
      told = c.in_ok-told.told;
      end = c.in_ok-told.disk;
      run = c.in_ok-told.ensures.run;
      fails = c.has_failed-fails.result;
      failed = c.has_failed-fails.ensures;
      good = c.is_disturbed-good.result;
      verdict = c.is_disturbed-good.ensures;
      asked = c.deref-3.result.now;
      asks =
          ap (λ (l : List AskedEffect). asked_in l) c.deref-3.ensures.value
          ∙ c.in_ok-asked.ensures
          ∙ ap (λ (l : List StoreLine). first ∷ asked_of l c.deref-2.result.now) c.deref.ensures.value
          ∙ ap (λ (l : List StoreReply). first ∷ asked_of lines l) c.deref-2.ensures.value;
      left = c.in_ok-left.left;
      leaves = record { bytes = c.in_ok-left.ensures.bytes; fresh = c.in_ok-left.ensures.fresh };
      calls = c.in_ok-_calls._calls;
      judged =
          subst (λ (x : Counts). IsJudgedIn ghosts named_ghosts c.args.life.now.options c.deref-3.result.now c.in_ok-left.left c.in_ok-_calls._calls x c.judge.new.counts)
          (c.count.ensures ∙ ap (λ (x : Counts). counted c.is_disturbed-good.result x) c.count_stop.ensures) c.in_ok-_calls.ensures;
    }
