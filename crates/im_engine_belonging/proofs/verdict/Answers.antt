use Rattle.im_engine_belonging.proofs.Sound.{sound}
use Rattle.im_engine_belonging.proofs.verdict.Goals as goal

pub returns-clause-never : goal.returns-clause-never
returns-clause-never c = sound.belong _ _ c.belong.ensures

pub returns-clause-current : goal.returns-clause-current
returns-clause-current c = sound.current _ _ c.belong.ensures
