use Rattle.std.proofs.Common.{◌≡◌, take, vec_len}
use Rattle.im_engine_locks.specs.Index.{IsOnce, seen_all}
use Rattle.im_engine_locks.specs.Places.{Covers, KeepsApart}
use Rattle.im_engine_locks.proofs.grants.forget.Given as goal

abbrev pub invariant-loop-span : goal.invariant-loop-span
invariant-loop-span l = record {
  known : Covers l.names l.t l.span (seen_all l.locks);
  once : IsOnce (seen_all l.locks);
  apart : KeepsApart l.initial.names l.t l.span l.names;
  front : take l.left l.locks.items ≡ take l.left l.initial.locks.items;
}

abbrev pub decreases-loop-span : goal.decreases-loop-span
decreases-loop-span l = vec_len l.locks
