use Rattle.std.proofs.Common.{◌≡◌, ◌+◌, ◌++◌, length, take}
use Rattle.im_names.specs.Layout.{escaped}
use Rattle.im_names.proofs.buffer.put_escaped.Given as goal

abbrev pub invariant-loop-byte : goal.invariant-loop-byte
invariant-loop-byte l = record {
  end : l.end ≡ l.at + length (escaped (take l.byte-index l.key));
  front : take l.end l.out ≡ take l.at l.fn.out ++ escaped (take l.byte-index l.key);
}
