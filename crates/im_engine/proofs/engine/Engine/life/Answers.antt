use Rattle.std.proofs.Common.{rules, ◌≡◌, List, take, arith, subst, refl, ◌∙◌, take_all}
use Rattle.im_base_two_logs.specs.Runs.{LeavesNamed}
use Rattle.im_base_two_logs.proofs.Runs.{unnamed}
use Rattle.im_base_disk.proofs.Runs.{started}
use Rattle.im_engine.specs.Stands.{Allowed}
use Rattle.im_base_steps.specs.declared.step.Step.{Step}
use Rattle.im_engine.specs.Promise.{answered_by}
use Rattle.im_engine.specs.Turns.{LivesOn, IsCutOff}
use Rattle.im_engine.proofs.Named.{allowed_nameless}
use Rattle.im_engine.proofs.TurnLemmas.{one_turn_more, lives_more, cut_one_more}
use Rattle.im_engine.proofs.engine.Engine.life.Goals as goal

pub loop-step-init : goal.loop-step-init
loop-step-init g c = record {
  count = search rules;
  len = search rules;
  room = search rules;
  turns = search rules;
  stops = λ before s v life.
      unnamed g.D.Disk (Allowed before s) (allowed_nameless before s) c.args.self.now.disk c.args.self.now.disk
      (started g.D.Disk c.args.self.now.disk (Allowed before s) (λ told left_now left. life.stops left_now (g.met.D.Disk.only_now c.args.self.now.disk left_now left)));
  max_pages = refl;
  frames = refl;
  kept = λ before s v life. record { next = v; run = refl; after = life };
}

pub loop-step-preserved : goal.loop-step-preserved
loop-step-preserved g c =
    let was = c.loop-step.invariant in
    let pushed = c.in-Ok.ensures.items in
    let made = c.step-reply.ensures in
    record {
      count = grind (arith, pushed, was.count);
      len = grind (arith, c.in-Ok.ensures.len, was.len);
      room = omega (arith, was.room, c.push.ensures.capacity);
      turns =
          one_turn_more g.D.Disk c.args.steps.now c.loop-step.replies.items c.push.new.self.items c.loop-step.step-index _ c.step-item.result c.step-reply.result _ _ _ was.count (omega (arith, c.loop-step-test.true)) pushed c.step-item.is
          was.turns made;
      stops = λ before s v life.
          let on = was.kept before s v life in
          cut_one_more g.D.Disk before s c.args.steps.now c.loop-step.replies.items c.push.new.self.items c.loop-step.step-index _ c.step-item.result c.step-reply.result _ _ _ was.count (omega (arith, c.loop-step-test.true)) pushed c.step-item.is
          (was.stops before s v life) (made.kept before _ on.next on.after).stops;
      max_pages = made.max_pages ∙ was.max_pages;
      frames = made.frames ∙ was.frames;
      kept = λ before s v life.
          lives_more g.D.Disk before s v c.args.steps.now c.loop-step.replies.items c.push.new.self.items c.loop-step.step-index _ c.step-item.result c.step-reply.result _ _ was.count (omega (arith, c.loop-step-test.true)) pushed c.step-item.is
          (was.kept before s v life) made;
    }

pub returns-clause-kept : goal.returns-clause-kept
returns-clause-kept g c before s v life =
    let l = c.loop-step in
    let all : take l.step-index c.args.steps.now ≡ c.args.steps.now = take_all l.step-index c.args.steps.now (omega (arith, c.loop-step-test.false)) in
    subst (λ (steps : List Step). LivesOn g.D.Disk before s v (answered_by steps l.replies.items) l.self) all (l.invariant.kept before s v life)

pub returns-clause-stops : goal.returns-clause-stops
returns-clause-stops g c before s v life =
    let l = c.loop-step in
    let all : take l.step-index c.args.steps.now ≡ c.args.steps.now = take_all l.step-index c.args.steps.now (omega (arith, c.loop-step-test.false)) in
    subst (λ (steps : List Step). LeavesNamed g.D.Disk c.args.self.now.disk l.self.disk (IsCutOff before s steps l.replies.items)) all (l.invariant.stops before s v life)
