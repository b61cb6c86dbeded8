use Rattle.im_calls.proofs.Buffers.{entry_put}
use Rattle.im_calls.proofs.telling.put_entry.Goals as goal

pub returns-clause-put : goal.returns-clause-put
returns-clause-put c = λ before holds.
    entry_put _ _ before c.args.key.now _ _ _ _ c.bytes.ensures.bytes c.bytes-2.ensures.bytes c.to_le_bytes.ensures (c.put.ensures.put _ (c.put-at-2.ensures.put _ (c.put-at.ensures.put before holds)))
