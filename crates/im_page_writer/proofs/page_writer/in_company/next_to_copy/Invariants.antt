use Rattle.std.proofs.Common.{◌≤◌, length}
use Rattle.im_page_writer.proofs.page_writer.in_company.next_to_copy.Given as goal

abbrev pub invariant-loop-at : goal.invariant-loop-at
invariant-loop-at l = l.count ≤ length l.next
