use Rattle.im_log.proofs.SpelledGates.{read, spelled}
use Rattle.im_log.proofs.spelling_laws.logs_are_spelled.Goals as goal

pub returns-clause-read : goal.returns-clause-read
returns-clause-read c = read c.law_spellings.ensures.least

pub returns-clause-spelled : goal.returns-clause-spelled
returns-clause-spelled c = spelled
