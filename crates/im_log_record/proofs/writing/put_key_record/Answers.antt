use Rattle.std.proofs.Common.{arith}
use Rattle.im_log_record.proofs.Keyed.{length-keyed}
use Rattle.im_log_record.proofs.Buffers.{record_puts}
use Rattle.im_log_record.proofs.writing.put_key_record.Goals as goal

pub returns-clause-front : goal.returns-clause-front
returns-clause-front c =
    record_puts _ _ _ _ _ _ _ _ _ _ (omega (arith, length-keyed c.args.key.now c.args.rid)) c.put_front-at.ensures.front c.put_keyed.ensures.front
