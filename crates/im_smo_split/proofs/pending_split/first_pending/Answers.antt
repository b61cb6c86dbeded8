use Rattle.std.proofs.Common.{zero, sym, subst, ap}
use Rattle.im_page_writer.proofs.Outcomes.{sound_on}
use Rattle.im_theory_tree.specs.Levels.{Pages, walk}
use Rattle.im_theory_tree.specs.Search.{IsOnWay}
use Rattle.im_smo_split.specs.Pages.{newest_first}
use Rattle.im_smo_split.specs.PendingSplits.{IsPending}
use Rattle.im_smo_split.proofs.pending_split.first_pending.Goals as goal

pub returns-then-top-clause-kept : goal.returns-then-top-clause-kept
returns-then-top-clause-kept g c dense store has root under = c.split_pending_root.ensures.kept dense store has (root c.if-top.true)

pub returns-in_err-bring-clause-kept : goal.returns-in_err-bring-clause-kept
returns-in_err-bring-clause-kept g c dense store has root under = sound_on c.from_residual.result _ _ c.from_residual.ensures.1 (c.in_err-bring.ensures.kept store has.has)

pub returns-clause-kept : goal.returns-clause-kept
returns-clause-kept g c dense store has root under =
    let one = c.in_ok-bring.ensures.kept store has.has in
    record {
      pending_is = subst (λ (pages : Pages). IsPending dense pages (newest_first c.args.numbers.now.items) c.args.key.now c.args.top.level c.args.top.parent c.args.top.page) (sym one.same) (under c.if-top.false);
      parent = one.there;
      same = ap walk one.same;
      ways = λ k q to all. subst (λ (pages : Pages). IsOnWay pages zero k q) (sym one.same) to;
    }
