use Rattle.std.proofs.Common.{arith, length-append}
use Rattle.im_log_record.specs.Spelling.{word64}
use Rattle.im_log_record.proofs.Words.{length-word64}
use Rattle.im_log_record.proofs.Buffers.{record_puts}
use Rattle.im_log_record.proofs.writing.put_body_record.Goals as goal

pub returns-clause-front : goal.returns-clause-front
returns-clause-front c =
    record_puts _ _ _ _ _ _ _ _ _ _ (omega (arith, length-append (word64 0) c.args.body.now, length-word64 0)) c.put_front-at.ensures.front c.put_blank.ensures.front
