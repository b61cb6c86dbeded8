use Rattle.std.proofs.Common.{◌≡◌, ◌<◌, ℕ, true, List, length, take, drop, subst}
use Rattle.std.specs.Prelude.{◌↔◌}
use Rattle.im_log_header.specs.Header.{IsSecond}
use Rattle.im_files_belonging.proofs.fronts.is_named.Goals as goal

pub returns : goal.returns
returns c = subst (λ (l : List ℕ). (c.has_second_header.result ≡ true) ↔ ((47 < length l) × IsSecond (take 46 (drop 1 l)))) c.shown.ensures c.has_second_header.ensures
