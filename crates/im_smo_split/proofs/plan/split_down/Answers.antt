use Rattle.std.proofs.Common.{◌≡◌, ℕ, subst, arith}
use Rattle.im_page_writer.proofs.Outcomes.{pages_still, refused, sound_also, sound_on, then}
use Rattle.im_smo_pages.specs.Seen.{seen}
use Rattle.im_smo_split.specs.Pages.{newest_first}
use Rattle.im_smo_split.specs.PendingSplits.{IsPending, IsRootPending}
use Rattle.im_smo_split.proofs.Downs.{has_split, split_then, end_then}
use Rattle.im_smo_split.proofs.plan.split_down.Goals as goal

pub returns-then-top-eq0-clause-kept : goal.returns-then-top-eq0-clause-kept
returns-then-top-eq0-clause-kept g c store has root under =
    let leaf : c.args.top.level ≡ 0 = omega (arith, c.if-top-eq0.true) in
    c.split_root_leaf.ensures.kept store has (subst (λ (k : ℕ). IsRootPending c.args.dense (seen store c.args.images.now) (newest_first c.args.numbers.now.items) c.args.key.now k) leaf (root c.if-top.true))

pub returns-in_err-pending-clause-kept : goal.returns-in_err-pending-clause-kept
returns-in_err-pending-clause-kept g c store has root under = sound_on c.from_residual.result _ _ c.from_residual.ensures.1 (c.in_err-pending.ensures.kept c.args.dense store has root under)

pub loop-pending-init : goal.loop-pending-init
loop-pending-init g c = record { outcome = c.in_ok-pending.ensures.outcome; counted = c.in_ok-pending.ensures.counted; kept = c.in_ok-pending.ensures.kept c.args.dense }

pub returns-in_err-pending-2-clause-kept : goal.returns-in_err-pending-2-clause-kept
returns-in_err-pending-2-clause-kept g c store has root under =
    let l = c.loop-pending in
    let so = l.invariant.kept store has root under in
    sound_on c.from_residual-in_err-pending-2.result _ _ c.from_residual-in_err-pending-2.ensures.1
    (c.in_err-pending-2.ensures.kept c.args.dense store (has_split store c.args.key.now c.args.images.now l.pending l.images l.numbers.items so g.D.Disk (pages_still g.D.Disk has.has l.invariant.outcome)) so.pending_is so.parent)

pub returns-in_err-pending-2-clause-outcome : goal.returns-in_err-pending-2-clause-outcome
returns-in_err-pending-2-clause-outcome g c =
    refused g.D.Disk c.from_residual-in_err-pending-2.result c.from_residual-in_err-pending-2.ensures.1 (then g.D.Disk c.loop-pending.invariant.outcome c.in_err-pending-2.ensures.outcome)

pub loop-pending-preserved : goal.loop-pending-preserved
loop-pending-preserved g c =
    let l = c.loop-pending in
    let e = c.in_ok-pending-2.ensures in
    record {
      outcome = then g.D.Disk l.invariant.outcome e.outcome;
      counted = e.counted;
      kept = λ store has root under.
          let so = l.invariant.kept store has root under in
          split_then store c.args.key.now c.args.images.now l.pending l.images l.numbers.items so c.in_ok-pending-2.pending c.split_pending_inner.new.images c.split_pending_inner.new.numbers.items
          (e.kept c.args.dense store (has_split store c.args.key.now c.args.images.now l.pending l.images l.numbers.items so g.D.Disk (pages_still g.D.Disk has.has l.invariant.outcome)) so.pending_is so.parent);
    }

pub returns-clause-outcome : goal.returns-clause-outcome
returns-clause-outcome g c = then g.D.Disk c.loop-pending.invariant.outcome c.split_pending_leaf.ensures.outcome

pub returns-clause-kept : goal.returns-clause-kept
returns-clause-kept g c store has root under =
    let l = c.loop-pending in
    let so = l.invariant.kept store has root under in
    let end : l.pending.level ≡ 0 = omega (arith, c.loop-pending-test.false) in
    sound_also c.split_pending_leaf.result _ _
    (c.split_pending_leaf.ensures.kept store (has_split store c.args.key.now c.args.images.now l.pending l.images l.numbers.items so g.D.Disk (pages_still g.D.Disk has.has l.invariant.outcome))
    (subst (λ (k : ℕ). IsPending c.args.dense (seen store l.images) (newest_first l.numbers.items) c.args.key.now k l.pending.parent l.pending.page) end so.pending_is) so.parent)
    (λ leaf two. end_then store c.args.key.now c.args.images.now l.pending l.images l.numbers.items so c.split_pending_leaf.new.images leaf two)
