use Rattle.std.proofs.Common.{◌≡◌, ℕ, length, true, arith, subst, sym, ◌∙◌}
use Rattle.std.specs.Prelude.{is_some, slice_index_or}
use Rattle.im_page_pool.specs.Pool.{held_of}
use Rattle.im_page_writer.proofs.LoggedChanges.{at_held, err_on}
use Rattle.im_page_writer.proofs.Outcomes.{idle, pages_still, pages_to, refused, search_of, then}
use Rattle.im_page_writer.proofs.page_writer.PageWriter.get_all.Goals as goal

pub loop-i-init : goal.loop-i-init
loop-i-init g c = record {
  outcome = idle g.D.Disk g.met.D.Disk.only_now c.args.self.now c.args.disk.now c.requires.working c.requires.ready;
  has = λ pages has. has;
  last = λ k e. absurd (omega (arith, e));
}

pub loop-i-preserved : goal.loop-i-preserved
loop-i-preserved g c =
    let got = search_of g.D.Disk c.in_ok-get.ensures.outcome in
    let numbers = c.args.numbers.now in
    let pool = c.get.new.self.pool in
    let frame = c.in_ok-get.field-0 in
    let here : is_some (held_of pool (slice_index_or numbers c.loop-i.i 0)) ≡ true =
    subst (λ (n : ℕ). is_some (held_of pool n) ≡ true) c.in_ok-get.ensures.frame (at_held (held_of pool frame.number) frame.place c.in_ok-get.ensures.at) in
    record {
      outcome = then g.D.Disk c.loop-i.invariant.outcome got;
      has = λ pages has. pages_still g.D.Disk (c.loop-i.invariant.has pages has) got;
      last = λ k e. subst (λ (n : ℕ). is_some (held_of pool (slice_index_or numbers n 0)) ≡ true) (let same : c.loop-i.i ≡ k = omega (arith, e) in same) here;
    }

pub returns-in_err-get-clause-outcome : goal.returns-in_err-get-clause-outcome
returns-in_err-get-clause-outcome g c = refused g.D.Disk c.from_residual.result c.from_residual.ensures.1 (then g.D.Disk c.loop-i.invariant.outcome (search_of g.D.Disk c.in_err-get.ensures.outcome))

pub returns-in_err-get-clause-kept : goal.returns-in_err-get-clause-kept
returns-in_err-get-clause-kept g c pages has = err_on c.from_residual.result c.in_err-get.field-0.0 _ c.from_residual.ensures.1 (c.in_err-get.ensures.kept pages (pages_to g.D.Disk _ (c.loop-i.invariant.has pages has)))

pub returns-clause-last : goal.returns-clause-last
returns-clause-last g c k e =
    let l = c.loop-i in
    let past : l.i ≡ length c.args.numbers.now = omega (arith, l.auto.i-end, c.loop-i-test.false) in
    l.invariant.last k (e ∙ sym past)
