use Rattle.std.proofs.Common.{ℕ, subst}
use Rattle.std.specs.Global.{Vec}
use Rattle.im_base_model_disk.specs.contracts.model_disk.ModelDiskDisk.TheImpl.{ghosts}
use Rattle.im_tool_drill.proofs.NamedDisk.{named_ghosts}
use Rattle.im_base_model_disk.specs.declared.model_disk.ModelDisk.{ModelDisk}
use Rattle.im_tool_lines.specs.declared.store_life.LifeOptions.{LifeOptions}
use Rattle.im_tool_lines.specs.declared.store_life.StoreLine.{StoreLine}
use Rattle.im_tool_lines.specs.Stops.{IsNextDisk}
use Rattle.im_tool_every.specs.declared.every.Counts.{Counts}
use Rattle.im_tool_every.specs.Counted.{counted, none_counted, AreCalls, IsAtEnd}
use Rattle.im_tool_every.specs.Swept.{AreStopsAt}
use Rattle.im_tool_every.proofs.Lives.{by_same}
use Rattle.im_tool_every.proofs.every.every_stop.Goals as goal

pub returns : goal.returns
returns g c =
    let start = c.args.start.now in
    let life = c.args.life.now in
    let last = c.stop_calls.new.counts in
    let each = AreStopsAt ghosts named_ghosts start life.options life.lines c.args.stops in
    record {
      disk = c.in_ok-disk.disk;
      begins = subst (λ (x : ModelDisk). IsNextDisk ghosts x c.in_ok-disk.disk) c.disk.ensures (record { bytes = c.in_ok-disk.ensures.bytes; fresh = c.in_ok-disk.ensures.fresh });
      told = c.in_ok-told.told;
      end = c.in_ok-told.disk;
      run = c.in_ok-told.ensures.run;
      begun = c.is_begun.result;
      verdict = c.is_begun.ensures;
      last = last;
      each =
          subst (λ (n : ℕ). AreCalls each n (counted c.is_begun.result none_counted) last) c.calls-calls.ensures
          (subst (λ (x : Counts). AreCalls each c.calls-calls.result x last) c.count.ensures c.in_ok-stop_calls.ensures.stops);
      at_end =
          by_same (λ (o : LifeOptions) (ls : Vec StoreLine). IsAtEnd (AreStopsAt ghosts named_ghosts start o ls c.args.stops 0) c.args.stops last c.stop_end.new.counts) _ c.stop_calls.new.life c.in_ok-stop_calls.ensures.life
          c.in_ok-stop_end.ensures;
    }
