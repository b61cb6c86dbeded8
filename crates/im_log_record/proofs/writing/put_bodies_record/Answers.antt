use Rattle.std.proofs.Common.{arith, length-append}
use Rattle.im_log_record.specs.Spelling.{word64, blank}
use Rattle.im_log_record.proofs.Words.{length-word64}
use Rattle.im_log_record.proofs.Buffers.{record_puts, two_puts}
use Rattle.im_log_record.proofs.writing.put_bodies_record.Goals as goal

pub returns-clause-front : goal.returns-clause-front
returns-clause-front c =
    let b = c.args.before.now in
    let a = c.args.after.now in
    record_puts _ _ _ _ _ _ _ _ _ _
    (omega (arith, length-append (blank b) (blank a), length-append (word64 0) b, length-append (word64 0) a, length-word64 0))
    c.put_front-at.ensures.front
    (two_puts _ _ _ _ _ c.put_blank-at.ensures.front c.put_blank.ensures.front)
