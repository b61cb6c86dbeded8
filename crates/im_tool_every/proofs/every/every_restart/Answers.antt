use Rattle.std.proofs.Common.{◌≡◌, ◌∙◌, List, ap, subst}
use Rattle.im_base_model_disk.specs.contracts.model_disk.ModelDiskDisk.TheImpl.{ghosts}
use Rattle.im_tool_drill.proofs.NamedDisk.{named_ghosts}
use Rattle.im_tool_lines.specs.declared.store_answers.StoreReply.{StoreReply}
use Rattle.im_tool_lines.specs.declared.store_life.StoreLine.{StoreLine}
use Rattle.im_tool_judge.specs.declared.change.AskedEffect.{AskedEffect}
use Rattle.im_tool_judge.specs.Judged.{asked_in}
use Rattle.im_tool_every.specs.declared.every.Counts.{Counts}
use Rattle.im_tool_every.specs.Swept.{asked_of, AreRestarts}
use Rattle.im_tool_every.proofs.every.every_restart.Goals as goal

pub returns : goal.returns
returns g c = record {
  disk = c.new_disk-disk.result;
  fresh = c.new_disk-disk.ensures.fresh;
  empty = c.new_disk-disk.ensures.empty;
  told = c.in_ok-told.told;
  end = c.in_ok-told.disk;
  run = c.in_ok-told.ensures.run;
  begun = c.is_begun.result;
  verdict = c.is_begun.ensures;
  asked = c.deref-3.result.now;
  asks =
      ap (λ (l : List AskedEffect). asked_in l) c.deref-3.ensures.value
      ∙ c.in_ok-asked.ensures
      ∙ ap (λ (l : List StoreLine). asked_of l c.deref-2.result.now) c.deref.ensures.value
      ∙ ap (λ (l : List StoreReply). asked_of c.args.life.now.lines.items l) c.deref-2.ensures.value;
  left = c.in_ok-left.left;
  leaves = record { bytes = c.in_ok-left.ensures.bytes; fresh = c.in_ok-left.ensures.fresh };
  restarts =
      subst (λ (x : Counts). AreRestarts ghosts named_ghosts c.args.life.now.options c.deref-3.result.now c.args.stops c.in_ok-left.left x c.each_restart.new.counts)
      c.count.ensures c.in_ok-each_restart.ensures;
}
