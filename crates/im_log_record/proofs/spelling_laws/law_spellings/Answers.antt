use Rattle.std.proofs.Common.{sym, ◌∙◌}
use Rattle.im_log_record.proofs.Theorems.{one_record, size_is, length_first, record_again, record_takes, first_again, first_takes}
use Rattle.im_log_record.proofs.spelling_laws.law_spellings.Goals as goal

pub returns-clause-one_record : goal.returns-clause-one_record
returns-clause-one_record c = one_record

pub returns-clause-one_spelling : goal.returns-clause-one_spelling
returns-clause-one_spelling c said bytes more b m = b.spelled ∙ sym m.spelled

pub returns-clause-size : goal.returns-clause-size
returns-clause-size c = size_is

pub returns-clause-length_first : goal.returns-clause-length_first
returns-clause-length_first c = length_first

pub returns-clause-read : goal.returns-clause-read
returns-clause-read c = record_again

pub returns-clause-spelled : goal.returns-clause-spelled
returns-clause-spelled c said bytes fits e = record_takes bytes said fits e

pub returns-clause-first : goal.returns-clause-first
returns-clause-first c = first_again

pub returns-clause-front : goal.returns-clause-front
returns-clause-front c = first_takes
