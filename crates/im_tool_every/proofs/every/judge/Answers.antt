use Rattle.std.proofs.Common.{◌∙◌, ap, refl}
use Rattle.im_tool_every.specs.declared.every.Counts.{Counts}
use Rattle.im_tool_every.specs.Counted.{counted}
use Rattle.im_tool_every.proofs.every.judge.Goals as goal

pub returns : goal.returns
returns g c = record {
  taken = c.in_ok-taken.taken;
  guarded = c.in_ok-taken.ensures;
  opened = c.in_ok-copy.copy;
  left = c.in_ok-copy.ensures.bytes;
  end = c.in_ok-judged._disk;
  judged = c.in_ok-judged.judged;
  verdict = c.in_ok-judged.ensures;
  calls_are = refl;
  counts = c.count-2.ensures ∙ ap (λ (x : Counts). counted c.in_ok-judged.judged.good x) c.count.ensures;
}
