use Rattle.std.proofs.Common.{◌≡◌, ℕ, true, List, subst}
use Rattle.std.specs.Prelude.{◌↔◌}
use Rattle.im_log_header.specs.Header.{IsMade}
use Rattle.im_files_belonging.proofs.fronts.is_whole.Goals as goal

pub returns : goal.returns
returns c = subst (λ (l : List ℕ). (c.is_whole_log.result ≡ true) ↔ IsMade l) c.shown.ensures c.is_whole_log.ensures
