use Rattle.std.proofs.Common.{List, [], ◌∙◌, sym, ap, map, Some}
use Rattle.im_engine_locks.specs.Index.{seen, seen_all}
use Rattle.im_engine_locks.specs.declared.stored_lock.StoredLock.{StoredLock}
use Rattle.im_engine_locks.proofs.Owners.{owned-same, held_of-none}
use Rattle.im_engine_locks.proofs.lock_table.open.Goals as goal

pub returns-in_ok-insert-clause-same : goal.returns-in_ok-insert-clause-same
returns-in_ok-insert-clause-same c =
    owned-same c.args.owners.now c.insert.new.self c.args.t (Some (record { lasting = c.new.result; falling = c.new-then-not-contains_key.result })) c.in_ok-insert.ensures.updates
    (ap (λ (items : List StoredLock). record { lasting = map seen items; falling = seen_all c.new-then-not-contains_key.result }) c.new.ensures.items
    ∙ (ap (λ (items : List StoredLock). record { lasting = []; falling = map seen items }) c.new-then-not-contains_key.ensures.items
    ∙ sym (held_of-none c.args.owners.now c.args.t (sym c.contains_key.ensures ∙ c.if-not-contains_key.true))))
