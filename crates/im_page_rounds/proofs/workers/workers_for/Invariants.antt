use Rattle.std.proofs.Common.{◌≡◌, vec_len}
use Rattle.std.specs.Prelude.{All}
use Rattle.im_page_rounds.proofs.workers.workers_for.Given as goal

abbrev pub invariant-loop-made : goal.invariant-loop-made
invariant-loop-made l = record {
  long : vec_len l.workers ≡ l._made;
  rooms : All (λ w. vec_len w.pages ≡ l.room) l.workers.items;
}
