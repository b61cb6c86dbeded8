use Rattle.std.proofs.Common.{◌≤◌, ℕ, length, sym, subst}
use Rattle.im_base_txn.proofs.LookUps.{few_waiting}
use Rattle.im_base_steps.specs.Calls.{asked_by, told_by}
use Rattle.im_base_steps.specs.Replies.{IsCounted}
use Rattle.im_engine.proofs.Actives.{still_counted}
use Rattle.im_engine.proofs.Replying.{step_counts, step_replies}
use Rattle.im_engine.proofs.store.EngineStore.step.Goals as goal

pub returns : goal.returns
returns g c = record {
  kept = λ before s v h.
      let made = c.step-reply.ensures.kept before s v h.life in
      record {
        next = made.next;
        moves = made.moves;
        after = record { life = made.after; active = still_counted g.D.Disk before s v c.args.step.now c.step-reply.result c.args.self.now c.step-reply.new.self c.step-reply.ensures h made };
      };
  reply = λ alive. step_replies g.D.Disk c.args.step.now c.step-reply.result c.args.self.now c.step-reply.new.self c.step-reply.ensures;
  counted = λ alive.
      let old = c.args.self.now in
      let new = c.step-reply.new.self in
      let was = c.law_are_counted.ensures.waiting in
      let is = c.law_are_counted-2.ensures.waiting in
      let few = subst (λ (n : ℕ). n ≤ length old.txns.rows) (sym was) (few_waiting old.txns.rows) in
      subst (λ (n : ℕ × ℕ). IsCounted (asked_by c.args.step.now) (told_by c.step-reply.result) n.0 (length old.txns.rows) n.1 (length new.txns.rows)) (λ i. (was i, is i)) (step_counts g.D.Disk c.args.step.now c.step-reply.result old new c.step-reply.ensures few);
  made = c.step-reply.ensures;
}
