use Rattle.std.proofs.Common.{rules, ◌≡◌, ◌∙◌, ap}
use Rattle.im_engine_locks.specs.Requests.{named}
use Rattle.im_engine_locks.specs.declared.stored_lock.StoredLock.{StoredLock}
use Rattle.im_engine_locks.proofs.Locked.{at_end, seen_last}
use Rattle.im_engine_locks.proofs.stored_lock.push_lock.Goals as goal

pub returns-clause-list : goal.returns-clause-list
returns-clause-list c =
    let pushed : StoredLock = record { name = c.in_ok-room.room; mode = c.args.mode } in
    let there : c.index_mut.result.now ≡ pushed = at_end c.args.locks.now.items c.push.new.self.items pushed c.index_mut.result.now c.len-at.result c.in_ok-push.ensures.items (c.len-at.ensures ∙ c.args.locks.now.ok.0) (search rules) in
    seen_last c.args.locks.now.items c.push.new.self.items pushed c.set.new.self c.len-at.result (named c.args.name) c.in_ok-push.ensures.items (c.len-at.ensures ∙ c.args.locks.now.ok.0) c.set.ensures.name (c.set.ensures.mode ∙ ap (λ (l : StoredLock). l.mode) there)
