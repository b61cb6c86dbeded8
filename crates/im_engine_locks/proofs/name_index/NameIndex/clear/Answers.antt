use Rattle.std.proofs.Common.{ℕ, List, nat_eq, ap}
use Rattle.std.specs.Map.{lookup}
use Rattle.im_theory_machine.specs.Locks.{At, PastAll}
use Rattle.im_engine_locks.specs.Keys.{digest}
use Rattle.im_engine_locks.specs.Places.{listed_there}
use Rattle.im_engine_locks.specs.declared.bucket.Bucket.{Bucket}
use Rattle.im_engine_locks.proofs.name_index.NameIndex.clear.Goals as goal

pub returns : goal.returns
returns c (At k) = ap (λ (es : List (ℕ × Bucket)). listed_there (lookup (nat_eq (digest k)) es)) c.clear.ensures.empty
returns c PastAll = c.clear-2.ensures.items
