use Rattle.std.proofs.Common.{◌≡◌, ◌∙◌, ap, rules, arith}
use Rattle.std.proofs.lemmas.Grind.{common_steps}
use Rattle.im_base_model_disk.specs.Model.{model_calls}
use Rattle.im_base_model_disk.specs.declared.model_disk.ModelDisk.{ModelDisk}
use Rattle.im_base_two_logs.specs.declared.renamed.Renamed.{Renamed}
use Rattle.im_tool_drill.proofs.NamedDisk.{own_synced, own_working}
use Rattle.im_tool_every.proofs.judged_opening.judge_opening.Goals as goal

pub open_store-requires-clause-working : goal.open_store-requires-clause-working
open_store-requires-clause-working g c lifetimes within = own_working c.args.disk c.new.result (c.new.ensures.disk, c.new.ensures.swapped) c.requires.working

pub open_store-requires-clause-synced : goal.open_store-requires-clause-synced
open_store-requires-clause-synced g c lifetimes within = own_synced c.args.disk c.new.result (c.new.ensures.disk, c.new.ensures.swapped) c.requires.synced

pub returns-in_ok-good-in-Ok : goal.returns-in_ok-good-in-Ok
returns-in_ok-good-in-Ok g c =
    let calls : c.calls-calls.result ≡ model_calls c.in-Ok.engine.disk.disk = first_of (search rules, cc, grind (arith, common_steps)) in
    record {
      named = c.new.result;
      own = (c.new.ensures.disk, c.new.ensures.swapped);
      result = c.open_store.result;
      opened = c.open_store.ensures.opening;
      verdict = rw c.in-Ok.is (c.judge_entries.new.engine, c.in_ok-good-in-Ok.ensures, calls, c.into_disk-disk.ensures ∙ ap (λ (n : Renamed ModelDisk). n.disk) c.into_disk.ensures);
    }

pub returns-in-Err : goal.returns-in-Err
returns-in-Err g c =
    record {
      named = c.new.result;
      own = (c.new.ensures.disk, c.new.ensures.swapped);
      result = c.open_store.result;
      opened = c.open_store.ensures.opening;
      verdict =
          rw c.in-Err.is (
            c.is_passed_over-good.ensures,
            c.calls-calls-in-Err.ensures ∙ ap (λ (disk : ModelDisk). model_calls disk) c.into_disk-disk-in-Err.ensures,
            c.into_disk-disk-in-Err.ensures,
          );
    }

pub invariant_of-engine-clause-whole : goal.invariant_of-engine-clause-whole
invariant_of-engine-clause-whole g c = c.judge_entries.new.engine.whole
