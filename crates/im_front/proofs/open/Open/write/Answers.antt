use Rattle.std.proofs.Common.{of_calls, inr, Result, subst}
use Rattle.im_front.specs.declared.stop.Stop.{Stop}
use Rattle.im_front.specs.Acknowledged.{IsSpent}
use Rattle.im_front.specs.Writing.IsWritten.{committed, made_again}
use Rattle.im_front.proofs.Acknowledging.{unmade_commit}
use Rattle.im_front.proofs.open.Open.write.Goals as goal
use Rattle.im_front.proofs.open.Open.write.Goals.{in-Ok+in-Err-MustRollBack+in_ok-take_back-in-Err-MustRollBack, in-Err-GiveWay+in_ok-take_back-in-Err-GiveWay}

pub returns-in-Ok-commit : goal.returns-in-Ok-commit
returns-in-Ok-commit g c =
    let ran = subst (λ (r : Result g.row.T.Denot Stop). goal.F-step g c.loop.work c.in_ok-t.t r c.work.new.self) c.in-Ok.is c.work.ensures in record {
      written = c.loop.invariant.2 c.in-Ok.done (committed c.loop.work c.in_ok-t.t c.work.new.self c.in_ok-t.ensures.begun ran c.in-Ok-commit.ensures.acknowledged);
      causes = tt;
    }

pub returns-in-Err : goal.returns-in-Err
returns-in-Err g c = record { written = tt; causes = inr (unmade_commit g.E.Store (IsSpent g.E.Store) c.in_ok-t.t c.in-Err.fault c.in-Err.ensures.causes) }

pub loop-preserved : goal.loop-preserved
loop-preserved g c = (
  (tt, tt),
  search of_calls,
  (λ x rest.
      elim c.match-work.branch [
        | in-Ok+in-Err-MustRollBack+in_ok-take_back-in-Err-MustRollBack w ↦
            c.loop.invariant.2 x (made_again c.loop.work c.in_ok-t.t c.work.result c.work.new.self c.in_ok-t.ensures.begun c.work.ensures w.in_ok-take_back-in-Err-MustRollBack.ensures.taken rest)
        | in-Err-GiveWay+in_ok-take_back-in-Err-GiveWay w ↦
            c.loop.invariant.2 x (made_again c.loop.work c.in_ok-t.t c.work.result c.work.new.self c.in_ok-t.ensures.begun c.work.ensures w.in_ok-take_back-in-Err-GiveWay.ensures.taken rest)
      ]),
)
