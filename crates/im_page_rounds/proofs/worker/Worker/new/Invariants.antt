use Rattle.std.proofs.Common.{◌≡◌, vec_len}
use Rattle.im_page_rounds.proofs.worker.Worker.new.Given as goal

abbrev pub invariant-loop-made : goal.invariant-loop-made
invariant-loop-made l = vec_len l.pages ≡ l._made
