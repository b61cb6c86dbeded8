use Rattle.std.proofs.Common.{[]}
use Rattle.im_names.specs.Layout.{prefix_of}
use Rattle.im_names.proofs.KeyLemmas.{values_rise}
use Rattle.im_names.proofs.Orders.{parts_rise, same_front}
use Rattle.im_names.proofs.key_laws.keys_in_order.Goals as goal

pub returns-clause-entries : goal.returns-clause-entries
returns-clause-entries c name one other = same_front (prefix_of name) one other

pub returns-clause-rows : goal.returns-clause-rows
returns-clause-rows c one other = same_front (prefix_of []) one other

pub returns-clause-parts : goal.returns-clause-parts
returns-clause-parts c = parts_rise

pub returns-clause-values : goal.returns-clause-values
returns-clause-values c = values_rise
