use Rattle.im_files_belonging.proofs.Cuts.{sound}
use Rattle.im_files_belonging.proofs.log_cuts.cuts_are_sound.Goals as goal

pub returns : goal.returns
returns c = sound
