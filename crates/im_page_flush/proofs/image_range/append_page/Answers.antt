use Rattle.std.proofs.Common.{sym, ◌∙◌}
use Rattle.im_page_pool.specs.Pool.{held_of}
use Rattle.im_page_table.proofs.Growing.{if_ok}
use Rattle.im_page_flush.proofs.Goings.{copy_done, found_none, found_page, may_image}
use Rattle.im_page_flush.proofs.image_range.append_page.Goals as goal

pub returns-in-Some-clause-outcome : goal.returns-in-Some-clause-outcome
returns-in-Some-clause-outcome g c = c.append_image.ensures.outcome c.requires.working

pub returns-in-None-clause-outcome : goal.returns-in-None-clause-outcome
returns-in-None-clause-outcome g c = c.append_image-in-None.ensures.outcome c.requires.working

pub returns-in-Some-clause-kept : goal.returns-in-Some-clause-kept
returns-in-Some-clause-kept g c b base s table w may =
    let p = c.args.number in
    let shown = c.page.ensures.page ∙ found_page c.args.pool.now p c.in-Some.frame (s.pages p) c.in-Some.ensures.found (w.pooled.shows p) in
    let asks = may_image g.D.Disk b base s c.args.log.now table c.args.pool.now c.args.disk.now w p may c.bytes.result.now c.page.result.now c.bytes.ensures.page shown in
    let k = c.append_image.ensures.kept b base s table w.based w.stands asks in
    record {
      ok = if_ok c.append_image.result _ _ k.ok (λ lsn done. copy_done g.D.Disk b base s c.args.log.now table c.args.pool.now c.args.disk.now w p may lsn c.append_image.new.log c.append_image.new.disk k.stops done);
      stops = k.stops;
    }

pub returns-in-None-clause-kept : goal.returns-in-None-clause-kept
returns-in-None-clause-kept g c b base s table w may =
    let p = c.args.number in
    let none = found_none (held_of c.args.pool.now p) p c.in-None.ensures.found in
    let shown = c.reset.ensures ∙ sym (may.past none) in
    let asks = may_image g.D.Disk b base s c.args.log.now table c.args.pool.now c.args.disk.now w p may c.bytes-in-None.result.now c.reset.new.self c.bytes-in-None.ensures.page shown in
    let k = c.append_image-in-None.ensures.kept b base s table w.based w.stands asks in
    record {
      ok = if_ok c.append_image-in-None.result _ _ k.ok
          (λ lsn done. copy_done g.D.Disk b base s c.args.log.now table c.args.pool.now c.args.disk.now w p may lsn c.append_image-in-None.new.log c.append_image-in-None.new.disk k.stops done);
      stops = k.stops;
    }

pub returns-in-Some-clause-quiet : goal.returns-in-Some-clause-quiet
returns-in-Some-clause-quiet g c = c.append_image.ensures.quiet

pub returns-in-None-clause-quiet : goal.returns-in-None-clause-quiet
returns-in-None-clause-quiet g c = c.append_image-in-None.ensures.quiet
