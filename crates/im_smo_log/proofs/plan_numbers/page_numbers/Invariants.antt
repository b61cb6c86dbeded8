use Rattle.std.proofs.Common.{◌≡◌, take}
use Rattle.im_smo_log.specs.ChangePages.{numbers_of}
use Rattle.im_smo_log.proofs.plan_numbers.page_numbers.Given as goal

abbrev pub invariant-loop-i : goal.invariant-loop-i
invariant-loop-i l = l.list.items ≡ take l.i (numbers_of l.images)
