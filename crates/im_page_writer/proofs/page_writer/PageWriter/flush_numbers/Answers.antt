use Rattle.std.proofs.Common.{◌≡◌, ℕ, List, length, slice_index_or, refl, ◌∙◌, ap, subst, arith}
use Rattle.im_page_writer.specs.Outcome.{AsksNothing}
use Rattle.im_page_writer.specs.FlushedRows.{FlushedNumbers}
use Rattle.im_page_writer.proofs.FlushedRows.{numbers_start, numbers_next}
use Rattle.im_page_writer.proofs.Outcomes.{behind, handed_on, idle_any, none_still, stands_on}
use Rattle.im_page_flush.proofs.Placing.{held_none, held_then}
use Rattle.im_page_writer.proofs.page_writer.PageWriter.flush_numbers.Goals as goal

pub loop-i-init : goal.loop-i-init
loop-i-init g c = record {
  outcome = idle_any g.D.Disk g.met.D.Disk.only_now c.args.self.now c.args.disk.now c.requires.working c.requires.ready;
  numbers = refl;
  held = held_none c.args.self.now.pool;
  unmoved = λ none. refl;
  flushed = λ b base s is. numbers_start g.D.Disk b base s c.args.self.now.numbers.items c.args.disk.now c.args.self.now (g.met.D.Disk.only_now c.args.disk.now) is;
}

pub loop-i-preserved : goal.loop-i-preserved
loop-i-preserved g c = record {
  outcome = behind g.D.Disk AsksNothing none_still c.loop-i.invariant.outcome c.in_ok-flush_in_company.ensures.outcome;
  numbers = c.flush_in_company.ensures.numbers ∙ c.loop-i.invariant.numbers;
  held = held_then c.args.self.now.pool c.loop-i.self.pool c.flush_in_company.new.self.pool c.loop-i.invariant.held c.in_ok-flush_in_company.ensures.held;
  unmoved = λ none. absurd (omega (arith, none));
  flushed = λ b base s is.
      let d = g.D.Disk in
      let l = c.loop-i in
      let old = c.args.disk.now in
      let so = l.invariant.flushed b base s is in
      numbers_next d b base s c.args.self.now.numbers.items old l.i l.self l.disk so c.number_at-number.result (λ else. c.number_at-number.ensures else ∙ ap (λ v. slice_index_or v.items l.i else) l.invariant.numbers)
      c.flush_in_company.new.self c.flush_in_company.new.disk (c.in_ok-flush_in_company.ensures.kept b base so.now (stands_on d b base s old so.now l.self l.disk so.on));
}

pub returns-in_err-flush_in_company-clause-outcome : goal.returns-in_err-flush_in_company-clause-outcome
returns-in_err-flush_in_company-clause-outcome g c = handed_on g.D.Disk c.from_residual.result c.from_residual.ensures.1 (behind g.D.Disk AsksNothing none_still c.loop-i.invariant.outcome c.in_err-flush_in_company.ensures.outcome)

pub returns-clause-kept : goal.returns-clause-kept
returns-clause-kept g c b base s is =
    let all : c.loop-i.i ≡ length c.args.self.now.numbers.items = omega (arith, c.loop-i-test.false, c.loop-i.auto.i-end, c.number_count-i-end.ensures) in
    subst (λ (n : ℕ). FlushedNumbers g.D.Disk b base s c.args.self.now.numbers.items n c.args.disk.now c.loop-i.self c.loop-i.disk) all (c.loop-i.invariant.flushed b base s is)

pub returns-in_err-flush_in_company-clause-none : goal.returns-in_err-flush_in_company-clause-none
returns-in_err-flush_in_company-clause-none g c none =
    let many : length c.args.self.now.numbers.items ≡ 0 = ap (λ (numbers : List ℕ). length numbers) none in
    absurd (omega (arith, many, c.loop-i-test.true, c.number_count-i-end.ensures))

pub returns-clause-none : goal.returns-clause-none
returns-clause-none g c none =
    let many : length c.args.self.now.numbers.items ≡ 0 = ap (λ (numbers : List ℕ). length numbers) none in
    (refl, c.loop-i.invariant.unmoved (omega (arith, many, c.loop-i-test.false, c.loop-i.auto.i-end, c.number_count-i-end.ensures)))
