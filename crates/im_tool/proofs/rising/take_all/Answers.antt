use Rattle.std.proofs.Common.{◌≡◌, subst, rules}
use Rattle.im_tool.specs.RisingKeys.{HasRisen, after}
use Rattle.im_tool.proofs.RisingLoads.{half_risen, more_of, none_risen}
use Rattle.im_tool.proofs.rising.take_all.Goals as goal

pub loop-count-init : goal.loop-count-init
loop-count-init g c = record {
  working = search rules;
  risen = λ from goes. none_risen g.D.Disk from c.args.loader.now c.args.disk.now goes;
}

pub loop-count-preserved : goal.loop-count-preserved
loop-count-preserved g c = record {
  working = search rules;
  risen = λ from goes.
      subst (λ t. HasRisen g.D.Disk from c.take_read.new.loader c.take_read.new.disk (after t c.loop-count.count)) (more_of _ c.in_default.not-Over)
      (c.in_ok-taking.ensures.risen from c.loop-count.count (c.loop-count.invariant.risen from goes));
}

pub returns-in_err-read-clause-stops : goal.returns-in_err-read-clause-stops
returns-in_err-read-clause-stops g c from goes = half_risen g.D.Disk from c.loop-count.loader c.loop-count.disk c.loop-count.count (c.loop-count.invariant.risen from goes)

pub returns-in_err-taking-clause-stops : goal.returns-in_err-taking-clause-stops
returns-in_err-taking-clause-stops g c from goes = c.take_read.ensures.stops from c.loop-count.count (c.loop-count.invariant.risen from goes)

pub returns-in-Over-clause-stops : goal.returns-in-Over-clause-stops
returns-in-Over-clause-stops g c from goes = c.take_read.ensures.stops from c.loop-count.count (c.loop-count.invariant.risen from goes)

pub returns-in-Over-clause-risen : goal.returns-in-Over-clause-risen
returns-in-Over-clause-risen g c from goes =
    subst (λ t. HasRisen g.D.Disk from c.take_read.new.loader c.take_read.new.disk (after t c.loop-count.count)) c.in-Over.is
    (c.in_ok-taking.ensures.risen from c.loop-count.count (c.loop-count.invariant.risen from goes))

pub returns-clause-stops : goal.returns-clause-stops
returns-clause-stops g c from goes = half_risen g.D.Disk from c.loop-count.loader c.loop-count.disk c.loop-count.count (c.loop-count.invariant.risen from goes)
