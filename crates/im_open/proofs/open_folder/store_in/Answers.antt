use Rattle.std.proofs.Common.{rules}
use Rattle.im_open.proofs.open_folder.store_in.Goals as goal

-- it was opened over the disk of the folder's files
pub returns-in-Ok-open-clause-opened : goal.returns-in-Ok-open-clause-opened
returns-in-Ok-open-clause-opened g c = record { disk = c.files_over.result; handed = search rules; works = c.files_over.ensures.working; opened = c.in-Ok-open.ensures }

-- the opening of a store says why
pub returns-in-Err-open-clause-causes : goal.returns-in-Err-open-clause-causes
returns-in-Err-open-clause-causes g c = record {
  disk = c.files_over.result;
  handed = search rules;
  works = c.files_over.ensures.working;
  left = c.in-Err-open._disk;
  refused = c.in-Err-open.ensures;
  cause = record { frames = c.in-Err-open.ensures.frames; workers = c.in-Err-open.ensures.workers; any = c.in-Err-open.ensures.causes };
}
