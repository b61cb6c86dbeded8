use Rattle.im_log_sum_gate.proofs.Gates.{zeros_from}
use Rattle.im_log_sum_gate.proofs.gate.blank.Goals as goal

pub returns-clause-zeros : goal.returns-clause-zeros
returns-clause-zeros c i past = zeros_from c.args.room.now c.zero.new.bytes c.args.from _ i c.requires.room c.zero.ensures past
