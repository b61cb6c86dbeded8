use Rattle.std.proofs.Common.{◌≡◌, arith}
use Rattle.im_base_types.specs.declared.file_id.FileId.TheVariants.{Log, Log2}
use Rattle.im_log_choice.proofs.Names.{has_by, has_none, log_current, log_known, other_current, other_known}
use Rattle.im_log_choice.proofs.choosing.which_current.Goals as goal

pub returns-then-newer : goal.returns-then-newer
returns-then-newer c files are =
    let x = c.generation-log.result in
    let y = c.generation-other.result in
    let one = c.generation-log.ensures.generation (files Log) are.log in
    let two = c.generation-other.ensures.generation (files Log2) are.other in
    let less = c.is_newer-newer.ensures.yes c.if-newer.true in
    (other_current files x y one two less, has_by files x y one two (log_known files c.args.logs.now are) (other_known files c.args.logs.now are) (λ same. absurd (omega (arith, less, same))))

pub returns-then-same : goal.returns-then-same
returns-then-same c files are =
    let same = c.is_same-same.ensures.yes c.if-same.true in
    has_none files c.generation-log.result c.generation-other.result (c.generation-log.ensures.generation (files Log) are.log) (c.generation-other.ensures.generation (files Log2) are.other) same.0 same.1

pub returns : goal.returns
returns c files are =
    let x = c.generation-log.result in
    let y = c.generation-other.result in
    let one = c.generation-log.ensures.generation (files Log) are.log in
    let two = c.generation-other.ensures.generation (files Log2) are.other in
    let zero : x ≡ y → x ≡ 0 = c.is_same-same.ensures.no c.if-same.false in (
      log_current files x y one two (c.is_newer-newer.ensures.no c.if-newer.false) zero,
      has_by files x y one two (log_known files c.args.logs.now are) (other_known files c.args.logs.now are)
          (λ same. let none = zero same in (c.generation-log.ensures.none (files Log) are.log none, c.generation-other.ensures.none (files Log2) are.other (omega (arith, none, same)))),
    )
