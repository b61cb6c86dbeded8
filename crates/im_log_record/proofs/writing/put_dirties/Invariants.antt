use Rattle.std.proofs.Common.{◌≡◌, ◌+◌, ◌*◌, ◌++◌, take}
use Rattle.std.specs.List.{flat_map}
use Rattle.im_log_record.specs.Entry.{dirty_rows}
use Rattle.im_log_record.specs.Spelling.{dirty_bytes}
use Rattle.im_log_record.proofs.writing.put_dirties.Given as goal

abbrev pub invariant-loop-i : goal.invariant-loop-i
invariant-loop-i l = record {
  end : l.end ≡ l.at + 12 * l.i;
  front : take l.end l.out ≡ take l.at l.fn.out ++ flat_map dirty_bytes (take l.i (dirty_rows l.list));
}
