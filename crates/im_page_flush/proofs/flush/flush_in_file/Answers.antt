use Rattle.std.proofs.Common.{◌≡◌, true, false, sym, ◌∙◌, rules}
use Rattle.im_page_file.proofs.LogEnds.{ends_same}
use Rattle.im_page_flush.proofs.Goings.{leaves_of}
use Rattle.im_page_file.proofs.ImageCalls.{imaging_lost}
use Rattle.im_page_flush.proofs.Costs.{costs_early}
use Rattle.im_page_table.specs.DirtyTable.{has_room}
use Rattle.im_page_flush.proofs.flush.flush_in_file.Goals as goal

pub returns-in_err-write_early-clause-outcome : goal.returns-in_err-write_early-clause-outcome
returns-in_err-write_early-clause-outcome g c = let e = c.in_err-write_early.ensures.answers in imaging_lost g.D.Disk c.from_residual.result c.from_residual.ensures.1 e.device e.noted

pub returns-then-durable-clause-outcome : goal.returns-then-durable-clause-outcome
returns-then-durable-clause-outcome g c = record {
  still = λ works. c.write_early.ensures.ready c.args.log.now c.requires.ready works;
  ends = (c.requires.working, c.in_ok-write_early.ensures.answers.noted, ends_same c.args.log.now);
}

pub returns-in_err-write_early-clause-kept : goal.returns-in_err-write_early-clause-kept
returns-in_err-write_early-clause-kept g c b base s w may all = record {
  ok = search rules;
  stops = leaves_of g.D.Disk b base s c.args.disk.now c.write_early.new.disk (c.in_err-write_early.ensures.kept b base s c.args.log.now w (may c.if-durable.true)).stops;
}

pub returns-then-durable-clause-kept : goal.returns-then-durable-clause-kept
returns-then-durable-clause-kept g c b base s w may all =
    let done = c.in_ok-write_early.ensures.kept b base s c.args.log.now w (may c.if-durable.true) in
    record { ok = done.ok; stops = leaves_of g.D.Disk b base s c.args.disk.now c.write_early.new.disk done.stops }

pub returns-then-durable-clause-costs : goal.returns-then-durable-clause-costs
returns-then-durable-clause-costs g c = costs_early g.D.Disk c.args.number ((c.args.number ≡ c.args.number) × (has_room c.args.number c.args.table.now ≡ true)) c.args.disk.now c.write_early.new.disk c.in_ok-write_early.ensures.costs

pub returns-clause-kept : goal.returns-clause-kept
returns-clause-kept g c b base s w may all = c.flush_range.ensures.kept b base s w all

pub returns-clause-unforced : goal.returns-clause-unforced
returns-clause-unforced g c durable = absurd (let clash : true ≡ false = sym durable ∙ c.if-durable.false in cc clash)
