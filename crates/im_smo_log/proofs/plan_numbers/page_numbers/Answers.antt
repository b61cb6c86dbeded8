use Rattle.std.proofs.Common.{sym, ◌∙◌, arith}
use Rattle.im_smo_log.proofs.DoneNumbers.{all_taken, none_taken, one_more}
use Rattle.im_smo_log.proofs.plan_numbers.page_numbers.Goals as goal

pub loop-i-init : goal.loop-i-init
loop-i-init c = c.in_ok-list.ensures.none ∙ sym (none_taken c.args.images.now)

pub loop-i-preserved : goal.loop-i-preserved
loop-i-preserved c = one_more c.args.images.now c.loop-i.list.items c.add_number.new.list.items c.loop-i.i c.number.result (omega (arith, c.loop-i-test.true, c.len-len.ensures.len)) c.number.ensures c.loop-i.invariant c.in_ok-add_number.ensures.added

pub returns-clause-numbers : goal.returns-clause-numbers
returns-clause-numbers c = c.loop-i.invariant ∙ all_taken c.args.images.now c.loop-i.i (omega (arith, c.loop-i-test.false, c.len-len.ensures.len))
