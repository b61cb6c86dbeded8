use Rattle.std.proofs.Common.{◌≡◌, ◌≤◌, ◌*◌, length, take}
use Rattle.im_names.specs.Layout.{escaped}
use Rattle.im_names.proofs.buffer.escaped_size.Given as goal

abbrev pub invariant-loop-byte : goal.invariant-loop-byte
invariant-loop-byte l = record {
  size : l.size ≡ length (escaped (take l.byte-index l.key));
  small : l.size ≤ 2 * l.byte-index;
}
