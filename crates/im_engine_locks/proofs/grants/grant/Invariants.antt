use Rattle.std.proofs.Common.{◌≡◌, ◌||◌, take, length}
use Rattle.im_theory_machine.specs.Locks.{Name}
use Rattle.im_engine_locks.specs.Requests.{row}
use Rattle.im_engine_locks.specs.Index.{seen_all, is_held, keeps, lasts}
use Rattle.im_engine_locks.specs.Places.{KeepsOthers}
use Rattle.im_engine_locks.specs.Owned.{held_in, all_in, IsKnown}
use Rattle.im_theory_machine.specs.declared.lock_kind.Mode.{Mode}
use Rattle.im_engine_locks.proofs.grants.grant.Given as goal

abbrev pub invariant-loop-request : goal.invariant-loop-request
invariant-loop-request l = record {
  known : IsKnown l.names l.t (held_in l.locks);
  others : KeepsOthers l.initial.names l.t l.names;
  front : take (length l.initial.locks.lasting.items) l.locks.lasting.items ≡ l.initial.locks.lasting.items;
  front_falling : take (length l.initial.locks.falling.items) l.locks.falling.items ≡ l.initial.locks.falling.items;
  held : (n : Name) (m : Mode) → is_held (all_in l.locks) n m ≡ (is_held (all_in l.initial.locks) n m || keeps (row (take l.request-index l.requests)) n m);
  lasting : (n : Name) (m : Mode) → is_held (seen_all l.locks.lasting) n m ≡ (is_held (seen_all l.initial.locks.lasting) n m || lasts (row (take l.request-index l.requests)) n m);
}
