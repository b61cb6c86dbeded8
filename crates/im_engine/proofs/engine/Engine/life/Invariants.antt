use Rattle.std.proofs.Common.{◌≡◌, ◌≤◌, List, length, take}
use Rattle.std.specs.Vec.{vec_len, vec_capacity}
use Rattle.im_base_types.specs.Changes.{Effect}
use Rattle.im_base_types.specs.Lives.{Shown}
use Rattle.im_base_two_logs.specs.Runs.{LeavesNamed}
use Rattle.im_theory_machine.specs.View.{View}
use Rattle.im_engine.specs.Running.{IsLife}
use Rattle.im_engine.specs.Promise.{answered_by}
use Rattle.im_engine.specs.Turns.{LivesOn, AreSteps, IsCutOff}
use Rattle.im_engine.proofs.engine.Engine.life.Given as goal

abbrev pub invariant-loop-step : goal.invariant-loop-step
invariant-loop-step g l = record {
  count : length l.replies.items ≡ l.step-index;
  len : vec_len l.replies ≡ l.step-index;
  room : length l.steps ≤ vec_capacity l.replies;
  turns : AreSteps g.D.Disk (take l.step-index l.steps) l.replies.items l.fn.self l.self;
  stops : (before : List Effect) (s : Shown) (v : View) → IsLife g.D.Disk before s v l.fn.self → LeavesNamed g.D.Disk l.fn.self.disk l.self.disk (IsCutOff before s (take l.step-index l.steps) l.replies.items);
  max_pages : l.self.max_pages ≡ l.fn.self.max_pages;
  frames : l.self.writer.pool.frames ≡ l.fn.self.writer.pool.frames;
  kept : (before : List Effect) (s : Shown) (v : View) → IsLife g.D.Disk before s v l.fn.self → LivesOn g.D.Disk before s v (answered_by (take l.step-index l.steps) l.replies.items) l.self;
}
