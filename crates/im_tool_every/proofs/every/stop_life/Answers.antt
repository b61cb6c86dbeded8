use Rattle.std.proofs.Common.{◌≡◌, ◌∙◌, ◌∷◌, List, ap, subst}
use Rattle.im_base_model_disk.specs.contracts.model_disk.ModelDiskDisk.TheImpl.{ghosts}
use Rattle.im_tool_drill.proofs.NamedDisk.{named_ghosts}
use Rattle.im_base_model_disk.specs.declared.model_disk.ModelDisk.{ModelDisk}
use Rattle.im_tool_lines.specs.declared.store_answers.StoreReply.{StoreReply}
use Rattle.im_tool_lines.specs.declared.store_life.StoreLine.{StoreLine}
use Rattle.im_tool_lines.specs.Stops.{IsNextDisk}
use Rattle.im_tool_judge.specs.declared.change.AskedEffect.{AskedEffect}
use Rattle.im_tool_judge.specs.Judged.{asked_in}
use Rattle.im_tool_every.specs.declared.every.Counts.{Counts}
use Rattle.im_tool_every.specs.Counted.{counted}
use Rattle.im_tool_every.specs.Swept.{asked_of, begun_with, AreRestarts}
use Rattle.im_tool_every.proofs.every.stop_life.Goals as goal

pub returns-clause-stopped : goal.returns-clause-stopped
returns-clause-stopped g c =
    let first = begun_with c.args.start.now.entries.items in
    let lines = c.args.life.now.lines.items in
    record {
      stop = c.in_ok-stop.stop;
      is_at = c.in_ok-stop.ensures;
      disk = c.in_ok-disk.disk;
      begins = subst (λ (x : ModelDisk). IsNextDisk ghosts x c.in_ok-disk.disk) c.disk.ensures (record { bytes = c.in_ok-disk.ensures.bytes; fresh = c.in_ok-disk.ensures.fresh });
      told = c.in_ok-told.told;
      end = c.in_ok-told.disk;
      run = c.in_ok-told.ensures.run;
      begun = c.is_begun.result;
      verdict = c.is_begun.ensures;
      asked = c.deref-3.result.now;
      asks =
          ap (λ (l : List AskedEffect). asked_in l) c.deref-3.ensures.value
          ∙ c.in_ok-asked.ensures
          ∙ ap (λ (l : List StoreLine). first ∷ asked_of l c.deref-2.result.now) c.deref.ensures.value
          ∙ ap (λ (l : List StoreReply). first ∷ asked_of lines l) c.deref-2.ensures.value;
      left = c.in_ok-left.left;
      leaves = c.in_ok-left.ensures;
      restarts =
          subst (λ (x : Counts). AreRestarts ghosts named_ghosts c.args.life.now.options c.deref-3.result.now c.args.stops c.in_ok-left.left x c.each_restart.new.counts)
          (c.count.ensures ∙ ap (λ (x : Counts). counted c.is_begun.result x) c.count_stop.ensures) c.in_ok-each_restart.ensures;
    }
