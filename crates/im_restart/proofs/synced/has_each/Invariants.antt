use Rattle.std.proofs.Common.{All}
use Rattle.im_restart.specs.Synced.{HasEach}
use Rattle.im_restart.proofs.SyncedFiles.{IsSynced, IsThere}
use Rattle.im_restart.proofs.synced.has_each.Given as goal

abbrev pub invariant-loop-page : goal.invariant-loop-page
invariant-loop-page l = record {
  all : All (IsSynced l.fn.count l.fn.lsns l.fn.copies) l.page-iterator;
  rest : All (IsThere l.fn.count l.fn.lsns l.fn.copies) l.page-iterator → HasEach l.fn.count l.fn.lsns l.fn.copies;
}
