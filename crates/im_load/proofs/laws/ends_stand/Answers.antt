use Rattle.im_load.proofs.Ends.{entries_are, loaded_stands}
use Rattle.im_load.proofs.laws.ends_stand.Goals as goal

pub returns : goal.returns
returns c = record { entries_are = entries_are; stands = loaded_stands }
