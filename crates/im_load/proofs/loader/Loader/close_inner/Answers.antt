use Rattle.std.proofs.Common.{rules, false}
use Rattle.im_base_types.specs.declared.file_id.FileId.TheVariants.{Pages}
use Rattle.im_base_disk.proofs.Ends.{own_answered}
use Rattle.im_load.proofs.Calls.{close_inner_made}
use Rattle.im_load.proofs.Faults.{refused_there, is_capacity}
use Rattle.im_load.proofs.loader.Loader.close_inner.Goals as goal

pub returns-clause-pending : goal.returns-clause-pending
returns-clause-pending g c es key t =
    let d = g.D.Disk in
    close_inner_made c.args.self.now c.new_page.new.self c.in_ok-next.next c.in_ok-next.ensures.page c.in_ok-next.ensures.more c.begin_inner.new.self c.number_above-number.result d.tells
    (d.seen c.args.disk.now Pages) (d.seen c.write_above.new.disk Pages) es c.args.i c.args.level key c.args.child c.number_above-number.ensures c.in_ok-write_above.ensures.written c.begin_inner.ensures.begun c.requires.level
    c.begin_inner.ensures.above t c.requires.place

pub returns-in_err-next-clause-outcome : goal.returns-in_err-next-clause-outcome
returns-in_err-next-clause-outcome g c =
    own_answered _ false _ c.in_err-next.field-0.0 c.from_residual.result c.from_residual.ensures.1 c.in_err-next.ensures.refused (is_capacity c.in_err-next.field-0.0 c.in_err-next.ensures.refused.0) (search rules)

pub returns-in_err-write_above-clause-outcome : goal.returns-in_err-write_above-clause-outcome
returns-in_err-write_above-clause-outcome g c =
    refused_there _ _ c.in_err-write_above.field-0.0 c.from_residual-in_err-write_above.result c.from_residual-in_err-write_above.ensures.1 c.in_err-write_above.ensures.answers
