use Rattle.std.proofs.Common.{ℕ, None, subst}
use Rattle.std.specs.Global.{Vec}
use Rattle.im_base_model_disk.specs.contracts.model_disk.ModelDiskDisk.TheImpl.{ghosts}
use Rattle.im_tool_drill.proofs.NamedDisk.{named_ghosts}
use Rattle.im_tool_lines.specs.declared.store_life.LifeOptions.{LifeOptions}
use Rattle.im_tool_lines.specs.declared.store_life.StoreLine.{StoreLine}
use Rattle.im_tool_every.specs.declared.every.Counts.{Counts}
use Rattle.im_tool_every.specs.Counted.{counted, AreCalls}
use Rattle.im_tool_every.specs.Failing.{failing, AreCallFailures, AreFailures, AreReadFailures}
use Rattle.im_tool_every.proofs.LikeLives.{by_like, like_like, like_set, set_like}
use Rattle.im_tool_every.proofs.failing.fail_each.Goals as goal

pub returns-clause-failures : goal.returns-clause-failures
returns-clause-failures g c =
    let start = c.args.start.now in
    let life = c.args.life.now in
    let plain = c.in_ok-plain.plain in
    let first = c.count.new.self in
    let called = c.fail_calls.new.counts in
    let read = c.fail_reads.new.counts in
    let made = set_like life c.undisturbed.new.life c.in_ok-plain.ensures.life in
    let behind_calls = like_like life c.undisturbed.new.life c.fail_calls.new.life made c.in_ok-fail_calls.ensures.life in
    let behind_reads = like_like life c.fail_calls.new.life c.fail_reads.new.life behind_calls c.in_ok-fail_reads.ensures.life in
    let calls = by_like (λ (o : LifeOptions) (ls : Vec StoreLine). AreCalls (AreCallFailures ghosts named_ghosts start o ls plain) c.calls-calls.result first called) life c.undisturbed.new.life made c.in_ok-fail_calls.ensures.calls in
    let reads = by_like (λ (o : LifeOptions) (ls : Vec StoreLine). AreCalls (AreReadFailures ghosts named_ghosts start o ls plain) c.reads-reads.result called read) life c.fail_calls.new.life behind_calls c.in_ok-fail_reads.ensures.reads in
    record {
      plain = plain;
      end = c.in_ok-plain.disk;
      made = c.in_ok-plain.ensures.made;
      begun = c.is_begun.result;
      verdict = c.is_begun.ensures;
      called = called;
      calls =
          subst (λ (n : ℕ). AreCalls (AreCallFailures ghosts named_ghosts start life.options life.lines plain) n (counted c.is_begun.result c.args.counts.now) called) c.calls-calls.ensures
          (subst (λ (x : Counts). AreCalls (AreCallFailures ghosts named_ghosts start life.options life.lines plain) c.calls-calls.result x called) c.count.ensures calls);
      read = read;
      reads = subst (λ (n : ℕ). AreCalls (AreReadFailures ghosts named_ghosts start life.options life.lines plain) n called read) c.reads-reads.ensures reads;
      none = by_like (λ (o : LifeOptions) (ls : Vec StoreLine). AreFailures ghosts named_ghosts start o ls plain read c.each_end.new.counts) life c.fail_reads.new.life behind_reads c.in_ok-each_end.ensures.failures;
    }

pub returns-clause-life : goal.returns-clause-life
returns-clause-life g c =
    let life = c.args.life.now in
    let made = set_like life c.undisturbed.new.life c.in_ok-plain.ensures.life in
    let behind_calls = like_like life c.undisturbed.new.life c.fail_calls.new.life made c.in_ok-fail_calls.ensures.life in
    let behind_reads = like_like life c.fail_calls.new.life c.fail_reads.new.life behind_calls c.in_ok-fail_reads.ensures.life in
    like_set life c.fail_reads.new.life c.each_end.new.life behind_reads c.in_ok-each_end.ensures.life
