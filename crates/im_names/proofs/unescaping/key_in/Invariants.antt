use Rattle.std.proofs.Common.{◌≡◌, ◌≤◌, ◌+◌, ◌-◌, length, take, drop}
use Rattle.im_names.specs.Kinds.{key_of_part, long_key}
use Rattle.im_names.proofs.KindLemmas.{with_bytes}
use Rattle.im_names.proofs.unescaping.key_in.Given as goal

abbrev pub invariant-loop-at : goal.invariant-loop-at
invariant-loop-at l = record {
  order : l.len + 1 ≤ l.at;
  key : key_of_part l.part ≡ with_bytes (take l.len l.to) (long_key (drop l.at l.part));
}

abbrev pub decreases-loop-at : goal.decreases-loop-at
decreases-loop-at l = length l.part - l.at
