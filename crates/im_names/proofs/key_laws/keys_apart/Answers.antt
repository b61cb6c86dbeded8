use Rattle.im_names.proofs.KeyLemmas.{bytes_again, entry_kind, guard_kind, names_again, number_again, part_kind, row_kind}
use Rattle.im_names.proofs.KindLemmas.{front_again}
use Rattle.im_names.proofs.key_laws.keys_apart.Goals as goal

pub returns-clause-row : goal.returns-clause-row
returns-clause-row c = row_kind

pub returns-clause-guard : goal.returns-clause-guard
returns-clause-guard c = guard_kind

pub returns-clause-entry : goal.returns-clause-entry
returns-clause-entry c = entry_kind

pub returns-clause-part : goal.returns-clause-part
returns-clause-part c = part_kind

pub returns-clause-name : goal.returns-clause-name
returns-clause-name c = names_again

pub returns-clause-key : goal.returns-clause-key
returns-clause-key c name key rest other = front_again name key rest (record { other = other })

pub returns-clause-number : goal.returns-clause-number
returns-clause-number c = number_again

pub returns-clause-bytes : goal.returns-clause-bytes
returns-clause-bytes c = bytes_again
