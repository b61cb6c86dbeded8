use Rattle.std.proofs.Common.{subst}
use Rattle.im_restart_analysis.specs.CopyLsns.{AreCopies}
use Rattle.im_restart_analysis.proofs.analysis.Analysis.finish.Goals as goal

pub returns : goal.returns
returns c least n log is =
    let at = c.redo_point-redo_point.ensures least n log is in
    record {
      next = is.next;
      point = at;
      losers = is.losers;
      copies = subst (λ n. AreCopies n c.since.result log) at (c.since.ensures log is.rises is.copies);
      open_change = is.known.open_change;
    }
