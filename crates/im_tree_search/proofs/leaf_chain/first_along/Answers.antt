use Rattle.std.proofs.Common.{◌≡◌, ◌≤◌, ℕ, true, suc, sym, subst, refl, arith}
use Rattle.im_page_pool.specs.Pool.{page_at}
use Rattle.im_page_writer.proofs.Outcomes.{sound_on, then}
use Rattle.im_theory_tree.specs.Lookups.{IsAhead}
use Rattle.im_theory_tree.proofs.LookupLemmas.{ahead_ends}
use Rattle.im_tree_search.specs.Beside.{Comes, along}
use Rattle.im_tree_search.specs.Levels.{bodies_of, start_at}
use Rattle.im_tree_search.proofs.GoingOn.{comes_next}
use Rattle.im_tree_search.proofs.Chain.{ahead_answer, ahead_level, ahead_next, chain_ends}
use Rattle.im_tree_search.proofs.Sighted.{at_hidden, at_seen, but_still}
use Rattle.im_tree_search.proofs.Pages.{got_says}
use Rattle.im_tree_search.proofs.Quiet.{next_in_set, on_still, quiet_then}
use Rattle.im_tree_search.proofs.leaf_chain.first_along.Goals as goal

pub returns-in_err-left-clause-kept : goal.returns-in_err-left-clause-kept
returns-in_err-left-clause-kept g c pages tree ahead comes = sound_on c.from_residual.result _ _ c.from_residual.ensures.1 (c.in_err-left.ensures.kept pages tree)

pub loop-number-init : goal.loop-number-init
loop-number-init g c = record {
  outcome = c.in_ok-left.ensures.outcome;
  kept = λ pages tree ahead comes. (record { passed = 0; ahead = ahead; count = omega (arith, c.in_ok-left.ensures.kept pages tree) }, comes);
  quiet = λ set on from. (c.in_ok-left.ensures.quiet (on.way.held 0 on.meta), from);
}

pub returns-then-left-eq0-clause-kept : goal.returns-then-left-eq0-clause-kept
returns-then-left-eq0-clause-kept g c pages tree ahead comes =
    let l = c.loop-number in
    let so = (l.invariant.kept pages tree ahead comes).0 in
    absurd (chain_ends (bodies_of pages) tree.spare (start_at c.args.inclusive c.args.key.now) l.left so.passed l.number tree.good so.ahead (omega (arith, c.loop-number-test.true)) so.count c.if-left-eq0.true)

pub returns-in_err-frame-clause-kept : goal.returns-in_err-frame-clause-kept
returns-in_err-frame-clause-kept g c pages tree ahead comes =
    let l = c.loop-number in
    let so = (l.invariant.kept pages tree ahead comes).0 in
    let level = ahead_level (bodies_of pages) tree.spare (start_at c.args.inclusive c.args.key.now) so.passed l.number tree.good so.ahead (omega (arith, c.loop-number-test.true)) in
    sound_on c.from_residual-in_err-frame.result _ _ c.from_residual-in_err-frame.ensures.1 (c.in_err-frame.ensures.kept pages (but_still g.D.Disk tree l.invariant.outcome) level)

pub returns-in_default-clause-outcome : goal.returns-in_default-clause-outcome
returns-in_default-clause-outcome g c = then g.D.Disk c.loop-number.invariant.outcome c.in_ok-frame.ensures.outcome

pub returns-in_default-clause-kept : goal.returns-in_default-clause-kept
returns-in_default-clause-kept g c pages tree ahead comes =
    let l = c.loop-number in
    let both = l.invariant.kept pages tree ahead comes in
    let so = both.0 in
    let some : 1 ≤ l.number = omega (arith, c.loop-number-test.true) in
    let level = ahead_level (bodies_of pages) tree.spare (start_at c.args.inclusive c.args.key.now) so.passed l.number tree.good so.ahead some in
    along l.number both.1 some (at_hidden c.in_ok-frame.field-0 _ _ c.in_default.not-Seen (c.in_ok-frame.ensures.kept pages (but_still g.D.Disk tree l.invariant.outcome) level))

pub returns-in_default-clause-first : goal.returns-in_default-clause-first
returns-in_default-clause-first g c = at_hidden c.in_ok-frame.field-0 _ _ c.in_default.not-Seen c.in_ok-frame.ensures.settled

pub returns-in-Some-clause-outcome : goal.returns-in-Some-clause-outcome
returns-in-Some-clause-outcome g c = then g.D.Disk c.loop-number.invariant.outcome c.in_ok-frame.ensures.outcome

pub returns-in-Some-clause-kept : goal.returns-in-Some-clause-kept
returns-in-Some-clause-kept g c pages tree ahead comes =
    let l = c.loop-number in
    let pool = c.page_beside.new.writer.pool in
    let frame = c.in-Seen.frame in
    let so = (l.invariant.kept pages tree ahead comes).0 in
    let start = start_at c.args.inclusive c.args.key.now in
    let some : 1 ≤ l.number = omega (arith, c.loop-number-test.true) in
    let level = ahead_level (bodies_of pages) tree.spare start so.passed l.number tree.good so.ahead some in
    let shown = at_seen c.in_ok-frame.field-0 frame _ _ c.in-Seen.is (c.in_ok-frame.ensures.kept pages (but_still g.D.Disk tree l.invariant.outcome) level) in
    let says = got_says pages l.number pool frame shown (at_seen c.in_ok-frame.field-0 frame _ _ c.in-Seen.is c.in_ok-frame.ensures.frame) in
    ahead_answer (bodies_of pages) start so.passed l.number c.page-leaf.result.now (page_at pool frame.number) c.in-Some.at so.ahead some c.page-leaf.ensures.page says c.in-Some.ensures.some.1

pub loop-number-preserved : goal.loop-number-preserved
loop-number-preserved g c =
    let l = c.loop-number in
    let pool = c.page_beside.new.writer.pool in
    let frame = c.in-Seen.frame in
    let e = c.in_ok-frame.ensures in
    let number = at_seen c.in_ok-frame.field-0 frame _ _ c.in-Seen.is e.frame in
    let settled = at_seen c.in_ok-frame.field-0 frame _ _ c.in-Seen.is e.settled in
    let some : 1 ≤ l.number = omega (arith, c.loop-number-test.true) in
    record {
      outcome = then g.D.Disk l.invariant.outcome e.outcome;
      kept = λ pages tree ahead comes.
          let both = l.invariant.kept pages tree ahead comes in
          let so = both.0 in
          let start = start_at c.args.inclusive c.args.key.now in
          let level = ahead_level (bodies_of pages) tree.spare start so.passed l.number tree.good so.ahead some in
          let shown = at_seen c.in_ok-frame.field-0 frame _ _ c.in-Seen.is (e.kept pages (but_still g.D.Disk tree l.invariant.outcome) level) in
          let says = got_says pages l.number pool frame shown number in
          let none = c.in_default-first_past.ensures.none refl in
          let past = ahead_next (bodies_of pages) tree.spare start so.passed l.number c.page-leaf.result.now (page_at pool frame.number) tree.good so.ahead some c.page-leaf.ensures.page says none in
          let goes = comes_next (bodies_of pages) tree.spare start l.number c.page-leaf.result.now (page_at pool frame.number) tree.good both.1 some c.page-leaf.ensures.page says none in (
            record {
              passed = suc so.passed;
              ahead = subst (λ (n : ℕ). IsAhead (bodies_of pages) start (suc so.passed) n) (sym c.next-number.ensures) past;
              count = omega (arith, so.count, c.if-left-eq0.false);
            },
            subst (λ (n : ℕ). Comes (bodies_of pages) start n) (sym c.next-number.ensures) goes,
          );
      quiet = λ set on from.
          let was = l.invariant.quiet set on from in
          let in_set = was.1 some in
          let here = on_still c.args.key.now set on was.0 in
          let still = e.quiet l.invariant.outcome.ends.works (here.way.held l.number in_set) in
          let there = on_still c.args.key.now set here still in
          (quiet_then was.0 still, λ more. next_in_set c.args.key.now set pool frame.number c.next-number.result c.page-leaf.result.now there (subst (λ (n : ℕ). set n ≡ true) (sym number) in_set) settled.level c.page-leaf.ensures.page c.next-number.ensures more);
    }

pub returns-clause-kept : goal.returns-clause-kept
returns-clause-kept g c pages tree ahead comes =
    let l = c.loop-number in
    let so = (l.invariant.kept pages tree ahead comes).0 in
    let start = start_at c.args.inclusive c.args.key.now in
    let end : l.number ≡ 0 = omega (arith, c.loop-number-test.false) in
    sym (ahead_ends (bodies_of pages) tree.spare start so.passed tree.good (subst (λ (n : ℕ). IsAhead (bodies_of pages) start so.passed n) end so.ahead))

pub returns-in_err-left-clause-quiet : goal.returns-in_err-left-clause-quiet
returns-in_err-left-clause-quiet g c set on from = c.in_err-left.ensures.quiet (on.way.held 0 on.meta)

pub returns-then-left-eq0-clause-quiet : goal.returns-then-left-eq0-clause-quiet
returns-then-left-eq0-clause-quiet g c set on from = (c.loop-number.invariant.quiet set on from).0

pub returns-in_err-frame-clause-quiet : goal.returns-in_err-frame-clause-quiet
returns-in_err-frame-clause-quiet g c set on from =
    let l = c.loop-number in
    let was = l.invariant.quiet set on from in
    quiet_then was.0 (c.in_err-frame.ensures.quiet l.invariant.outcome.ends.works ((on_still c.args.key.now set on was.0).way.held l.number (was.1 (omega (arith, c.loop-number-test.true)))))

pub returns-in_default-clause-quiet : goal.returns-in_default-clause-quiet
returns-in_default-clause-quiet g c set on from =
    let l = c.loop-number in
    let was = l.invariant.quiet set on from in
    quiet_then was.0 (c.in_ok-frame.ensures.quiet l.invariant.outcome.ends.works ((on_still c.args.key.now set on was.0).way.held l.number (was.1 (omega (arith, c.loop-number-test.true)))))

pub returns-in-Some-clause-quiet : goal.returns-in-Some-clause-quiet
returns-in-Some-clause-quiet g c set on from =
    let l = c.loop-number in
    let was = l.invariant.quiet set on from in
    quiet_then was.0 (c.in_ok-frame.ensures.quiet l.invariant.outcome.ends.works ((on_still c.args.key.now set on was.0).way.held l.number (was.1 (omega (arith, c.loop-number-test.true)))))

pub returns-clause-quiet : goal.returns-clause-quiet
returns-clause-quiet g c set on from = (c.loop-number.invariant.quiet set on from).0
