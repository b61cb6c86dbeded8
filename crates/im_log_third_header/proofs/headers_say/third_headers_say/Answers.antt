use Rattle.im_log_third_header.proofs.Saying.{empty_has_header, headers_are_kept, no_other_format, one_header, shows_by_header}
use Rattle.im_log_third_header.proofs.headers_say.third_headers_say.Goals as goal

pub returns-clause-one : goal.returns-clause-one
returns-clause-one c = one_header

pub returns-clause-kept : goal.returns-clause-kept
returns-clause-kept c = headers_are_kept

pub returns-clause-shows : goal.returns-clause-shows
returns-clause-shows c = shows_by_header

pub returns-clause-empty : goal.returns-clause-empty
returns-clause-empty c = empty_has_header

pub returns-clause-other : goal.returns-clause-other
returns-clause-other c = no_other_format
