use Rattle.std.proofs.Common.{rules, ◌≡◌, ◌≤◌, ◌+◌, ℕ, List, ◌∷◌, Bool, true, false, drop, get_or, length, if◌then◌else◌, arith, subst}
use Rattle.std.proofs.Math.ListN.{drop_of_length-le}
use Rattle.std.proofs.lemmas.List.{drop_more}
use Rattle.im_log_record.specs.Entry.{view}
use Rattle.im_log.specs.Spelled.{logged_at}
use Rattle.im_page_rounds.specs.Hand.{is_applied}
use Rattle.im_theory_log.specs.Copies.{redo_all}
use Rattle.std.specs.Prelude.{◌||◌}
use Rattle.im_page_rounds.proofs.HandPages.{Went, amid, err_on, there, took, went_end, went_on}
use Rattle.im_page_rounds.proofs.hand.redo_own.Goals as goal

few_more : (count index : ℕ) (done : Bool) (n : ℕ) → n ≡ count + (if done then 1 else 0) → count ≤ index → n ≤ index + 1
few_more count index true n is le = omega (arith, is, le)
few_more count index false n is le = omega (arith, is, le)

pub loop-lsn-preserved : goal.loop-lsn-preserved
loop-lsn-preserved c =
    let l = c.loop-lsn in
    let lsns = c.args.lsns.now in
    let left = drop (l.lsn-index + 1) lsns in
    let lsn = get_or lsns l.lsn-index 0 in
    let more : drop l.lsn-index lsns ≡ lsn ∷ left = drop_more lsns l.lsn-index 0 c.loop-lsn-test.true in
    let e = c.in_ok-applied.ensures in
    record {
      few = few_more l.count l.lsn-index c.in_ok-applied.applied c.counted-count.result c.counted-count.ensures l.invariant.few;
      long = search rules;
      went = λ rs g changed stand these.
          let w = subst (λ (x : List ℕ). Went c.args.workers c.args.worker c.args.from c.args.span.now c.args.numbers.now x rs g changed l.count l.pages) more (l.invariant.went rs g changed stand these) in
          went_on c.args.workers c.args.worker c.args.from c.args.span.now c.args.numbers.now rs g changed lsn left l.count l.pages c.redo_in.new.pages w (logged_at lsn (view c.in_ok-record.record)) c.in_ok-record.ensures.found
          c.in_ok-applied.applied c.counted-count.result e.pages e.applied e.among c.counted-count.ensures;
    }

pub returns-in_err-record-clause-taken : goal.returns-in_err-record-clause-taken
returns-in_err-record-clause-taken c rs g changed stand these among all =
    let l = c.loop-lsn in
    let lsns = c.args.lsns.now in
    let left = drop (l.lsn-index + 1) lsns in
    let lsn = get_or lsns l.lsn-index 0 in
    let w = subst (λ (x : List ℕ). Went c.args.workers c.args.worker c.args.from c.args.span.now c.args.numbers.now x rs g changed l.count l.pages) (drop_more lsns l.lsn-index 0 c.loop-lsn-test.true) (l.invariant.went rs g changed stand these) in
    absurd (there c.args.workers c.args.worker c.args.from c.args.span.now c.args.numbers.now rs g changed lsn left l.count l.pages w c.in_err-record.ensures.some)

pub returns-in_err-applied-clause-taken : goal.returns-in_err-applied-clause-taken
returns-in_err-applied-clause-taken c rs g changed stand these among all =
    let l = c.loop-lsn in
    let lsns = c.args.lsns.now in
    let left = drop (l.lsn-index + 1) lsns in
    let lsn = get_or lsns l.lsn-index 0 in
    let w = subst (λ (x : List ℕ). Went c.args.workers c.args.worker c.args.from c.args.span.now c.args.numbers.now x rs g changed l.count l.pages) (drop_more lsns l.lsn-index 0 c.loop-lsn-test.true) (l.invariant.went rs g changed stand these) in
    err_on c.from_residual-in_err-applied.result c.in_err-applied.field-0.0 _ c.from_residual-in_err-applied.ensures.1
    (c.in_err-applied.ensures.taken (λ q. redo_all w.done q (g q)) (λ q. changed q || is_applied w.done q (g q)) w.redone.pages
    (amid c.args.workers c.args.worker c.args.from c.args.span.now c.args.numbers.now rs g changed lsn left l.count l.pages w (logged_at lsn (view c.in_ok-record.record)) c.in_ok-record.ensures.found among)
    (took c.args.workers c.args.worker c.args.from c.args.span.now c.args.numbers.now rs g changed lsn left l.count l.pages w (logged_at lsn (view c.in_ok-record.record)) c.in_ok-record.ensures.found all))

pub returns-clause-redone : goal.returns-clause-redone
returns-clause-redone c rs g changed stand these =
    let l = c.loop-lsn in
    let lsns = c.args.lsns.now in
    let past : length lsns ≤ l.lsn-index = omega (arith, c.loop-lsn-test.false) in
    went_end c.args.workers c.args.worker c.args.from c.args.span.now c.args.numbers.now rs g changed l.count l.pages
    (subst (λ (x : List ℕ). Went c.args.workers c.args.worker c.args.from c.args.span.now c.args.numbers.now x rs g changed l.count l.pages) (drop_of_length-le lsns past) (l.invariant.went rs g changed stand these))
