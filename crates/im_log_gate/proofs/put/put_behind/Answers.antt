use Rattle.std.proofs.Common.{◌∙◌, [], ◌∷◌}
use Rattle.im_log_gate.specs.Batches.{batches}
use Rattle.im_log_gate.proofs.Puts.{lays_one, leaves_one}
use Rattle.im_log_gate.proofs.put.put_behind.Goals as goal

pub returns-in_err-put_laid-clause-any_moment : goal.returns-in_err-put_laid-clause-any_moment
returns-in_err-put_laid-clause-any_moment g c first reaches =
    leaves_one g.D.Disk c.args.file c.args.disk.now c.put_laid.new.disk first c.args.records.now (batches first (g.D.Disk.seen c.args.disk.now c.args.file))
    (c.put_laid.ensures.any_moment first (c.args.records.now ∷ []) (lays_one c.args.records.now c.clear.new.room c.args.size c.requires.some c.requires.most c.requires.least (c.clear.ensures.front ∙ c.spell.ensures.spelled)) reaches)

pub returns-clause-any_moment : goal.returns-clause-any_moment
returns-clause-any_moment g c first reaches =
    leaves_one g.D.Disk c.args.file c.args.disk.now c.put_laid.new.disk first c.args.records.now (batches first (g.D.Disk.seen c.args.disk.now c.args.file))
    (c.put_laid.ensures.any_moment first (c.args.records.now ∷ []) (lays_one c.args.records.now c.clear.new.room c.args.size c.requires.some c.requires.most c.requires.least (c.clear.ensures.front ∙ c.spell.ensures.spelled)) reaches)

pub returns-clause-put : goal.returns-clause-put
returns-clause-put g c first reaches =
    c.in_ok-put_laid.ensures.put first (c.args.records.now ∷ []) (lays_one c.args.records.now c.clear.new.room c.args.size c.requires.some c.requires.most c.requires.least (c.clear.ensures.front ∙ c.spell.ensures.spelled)) reaches
