use Rattle.std.proofs.Common.{◌+◌}
use Rattle.std.proofs.lemmas.List.{take_rest}
use Rattle.im_base_sum_disk.proofs.AtPlaces.{stands}
use Rattle.im_base_sum_disk.proofs.shown.records_at.Goals as goal

pub returns : goal.returns
returns c = stands c.args.file.now _ c.args.place c.batch_length-size.result (take_rest c.args.file.now (c.args.place + 1)) c.batch_length-size.ensures c.requires.header c.requires.within c.requires.batch
