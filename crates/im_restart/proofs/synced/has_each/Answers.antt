use Rattle.std.proofs.Common.{All, List, ℕ, refl, sym, subst}
use Rattle.im_restart.proofs.SyncedFiles.{IsSynced, each_there, first_synced, rest_synced, rest_there}
use Rattle.im_restart.proofs.synced.has_each.Goals as goal

pub loop-page-init : goal.loop-page-init
loop-page-init c =
    let all = c.into_iter-page-iterator.ensures.into_iter_gives in
    record {
      all = subst (λ (left : List (ℕ × ℕ)). All (IsSynced c.args.count c.args.lsns.now c.args.copies.now) left) (sym all.0) all.6;
      rest = each_there c.args.count c.args.lsns.now c.args.copies.now all.5 c.into_iter-page-iterator.result all.0;
    }

pub returns-then-not-is_there-clause-lacks : goal.returns-then-not-is_there-clause-lacks
returns-then-not-is_there-clause-lacks c is =
    let first = first_synced c.args.count c.args.lsns.now c.args.copies.now c.loop-page.page-iterator c.next.new.self (c.in-Some.page.now, c.in-Some.field-0-1.now) c.in-Some.ensures.steps c.loop-page.invariant.all in
    record { page = c.in-Some.page.now; lsn = c.in-Some.field-0-1.now; synced = first; none = c.if-not-is_there.ensures.none refl; past = c.if-not-is_there.ensures.past refl }

pub loop-page-preserved : goal.loop-page-preserved
loop-page-preserved c =
    let item : ℕ × ℕ = (c.in-Some.page.now, c.in-Some.field-0-1.now) in
    record {
      all = rest_synced c.args.count c.args.lsns.now c.args.copies.now c.loop-page.page-iterator c.next.new.self item c.in-Some.ensures.steps c.loop-page.invariant.all;
      rest = λ have. c.loop-page.invariant.rest (rest_there c.args.count c.args.lsns.now c.args.copies.now c.loop-page.page-iterator c.next.new.self item c.in-Some.ensures.steps (c.if-not-is_there.ensures.there refl) have);
    }
